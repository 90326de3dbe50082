use Rattle.std.proofs.Common.{◌≡◌, List, [], ◌∷◌, ◌++◌, ap, sym, ◌∙◌}
use Rattle.std.proofs.{lemmas.List.map-append, lemmas.List.map-id}
use Rattle.std.proofs.{lemmas.Iterator.Adapters.YieldsList-from_vec, lemmas.Iterator.Consumers.YieldsList-end}
use Rattle.eevdf_fleet.specs.Fleets.{Parts, Seat, seats_in}
use Rattle.eevdf_fleet.proofs.seat.seats_of.Goals as goal

pub loop-own-preserved : goal.loop-own-preserved
loop-own-preserved g c =
    c.in_ok-push.ensures.items ∙ ap (λ (p : Parts). c.loop-own.seats.items ++ p.seat ∷ []) c.beside-parts.ensures
    ∙ ap (λ (ss : List Seat). ss ++ c.in-Some.own.seat ∷ []) c.loop-own.invariant
    ∙ sym (map-append (λ (p : Parts). p.seat) c.loop-own.yielded (c.in-Some.own ∷ []))

pub returns : goal.returns
returns g c =
    let end = (YieldsList-end (YieldsList-from_vec {s = c.into_iter-own-iterator.result} c.args.parts.items c.into_iter-own-iterator.ensures.into_iter_gives.0 (c.into_iter-own-iterator.ensures.into_iter_gives.1 ∙ c.args.parts.ok.0)) c.loop-own.yielded c.loop-own.own-iterator c.loop-own.yielded_by c.next.result c.next.new.self c.in-None.is c.next.ensures.steps).0 in
    let all : c.loop-own.yielded ≡ c.args.parts.items = sym (map-id c.loop-own.yielded) ∙ end in
    c.loop-own.invariant ∙ ap seats_in all
