use Rattle.std.proofs.Common.{List, ◌++◌, sym, ap, ◌∙◌}
use Rattle.rtrb.specs.Ring.{received}
use Rattle.eevdf_fleet.specs.declared.rings.request.Request.{Request}
use Rattle.eevdf_fleet.proofs.MarkedItems.{popped-oldest}
use Rattle.eevdf_fleet.proofs.rings.ring_ends.pop_beside.Goals as goal

pub returns-clause-oldest : goal.returns-clause-oldest
returns-clause-oldest c =
    popped-oldest (received c.args.consumer.now) _ _ _ (
    sym c.slots_beside.ensures.producer.1 ∙ sym c.slots_beside.ensures.fifo
    ∙ ap (λ (l : List Request). l ++ c.slots_beside.new.self.end.ahead) c.slots_beside.ensures.looked.1
    ∙ ap (λ (l : List Request). received c.args.consumer.now ++ l) c.pop_known.ensures.received.1
    )
