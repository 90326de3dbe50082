use Rattle.std.proofs.Common.{◌≡◌, List, [], ◌∷◌, ◌++◌, ap, ◌∙◌}
use Rattle.rtrb.specs.Ring.{sent, received}
use Rattle.eevdf_fleet.specs.declared.rings.request.Request.{Request}
use Rattle.eevdf_fleet.proofs.MarkedItems.{first-popped, only-mark}
use Rattle.eevdf_fleet.proofs.rings.ring_ends.open_ring.Goals as goal
use Rattle.eevdf_fleet.proofs.rings.ring_ends.open_ring.Goals.{After-pop_known-mark}

-- what was pushed, after the mark alone was
pushed : (c : After-pop_known-mark) → sent c.slots_beside.new.producer ≡ c.mark.result ∷ []
pushed c =
    c.slots_beside.ensures.producer.1 ∙ c.push_reserved.ensures.sent.0
    ∙ ap (λ (l : List Request). l ++ c.mark.result ∷ []) c.in_ok-producer.ensures.producer.0

popped : (c : After-pop_known-mark) → received c.pop_known-mark.new.self ≡ c.mark.result ∷ []
popped c =
    first-popped _ _ _ _ _ _ (c.slots_beside.ensures.looked.1 ∙ c.in_ok-producer.ensures.consumer.0) (c.slots_beside.ensures.fifo ∙ pushed c)
    c.pop_known-mark.ensures.received.1 c.pop_known-mark.ensures.received.0

pub returns-clause-sent : goal.returns-clause-sent
returns-clause-sent c =
    only-mark c.mark.result _ (c.slots_beside-2.ensures.looked.1 ∙ pushed (goal.at.returns-clause-sent c).After-pop_known-mark) c.mark.ensures

pub returns-clause-received : goal.returns-clause-received
returns-clause-received c =
    only-mark c.mark.result _ (c.slots_beside-2.ensures.consumer.1 ∙ popped (goal.at.returns-clause-received c).After-pop_known-mark) c.mark.ensures
