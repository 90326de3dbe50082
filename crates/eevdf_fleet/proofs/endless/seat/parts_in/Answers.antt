use Rattle.std.proofs.Common.{◌≡◌, map, List, [], ◌∷◌, ◌++◌, length, ap, sym, ◌∙◌, arith}
use Rattle.std.proofs.{lemmas.List.length-map, lemmas.List.map-append, lemmas.List.map-id}
use Rattle.std.proofs.{lemmas.Iterator.Adapters.YieldsList-from_vec, lemmas.Iterator.Consumers.YieldsList-end, lemmas.Iterator.Consumers.YieldsList-turn}
use Rattle.eevdf_fleet.specs.Endless.{Seat, seat_of_parts}
use Rattle.eevdf_fleet.proofs.endless.seat.parts_in.Goals as goal

pub loop-seat-init : goal.loop-seat-init
loop-seat-init g c = record { same = ap (map seat_of_parts) c.requires.none; room = c.requires.enough }

pub loop-seat-preserved : goal.loop-seat-preserved
loop-seat-preserved g c = record {
  same = ap (map seat_of_parts) c.push_reserved.ensures.items ∙ map-append seat_of_parts c.loop-seat.room.items (c.seat.inside.parts ∷ [])
      ∙ ap (λ (ss : List Seat). ss ++ seat_of_parts c.seat.inside.parts ∷ []) c.loop-seat.invariant.same ∙ ap (λ (s : Seat). c.loop-seat.yielded ++ s ∷ []) c.seat.view_is;
  room = omega (arith, c.loop-seat.invariant.room, c.push_reserved.ensures.capacity);
}

pub push_reserved-requires : goal.push_reserved-requires
push_reserved-requires g c =
    let turn = YieldsList-turn (YieldsList-from_vec {s = c.into_iter-seat-iterator.result} c.args.seats.items c.into_iter-seat-iterator.ensures.into_iter_gives.0 (c.into_iter-seat-iterator.ensures.into_iter_gives.1 ∙ c.args.seats.ok.0)) c.loop-seat.yielded c.loop-seat.seat-iterator c.loop-seat.yielded_by c.next.result c.next.new.self c.in-Some.seat c.in-Some.is c.next.ensures.steps in
    omega (arith, turn.0, length-map c.loop-seat.room.items seat_of_parts, ap length c.loop-seat.invariant.same, c.loop-seat.invariant.room, c.args.seats.ok.0, c.loop-seat.room.ok.0)

pub returns : goal.returns
returns g c =
    let end = (YieldsList-end (YieldsList-from_vec {s = c.into_iter-seat-iterator.result} c.args.seats.items c.into_iter-seat-iterator.ensures.into_iter_gives.0 (c.into_iter-seat-iterator.ensures.into_iter_gives.1 ∙ c.args.seats.ok.0)) c.loop-seat.yielded c.loop-seat.seat-iterator c.loop-seat.yielded_by c.next.result c.next.new.self c.in-None.is c.next.ensures.steps).0 in
    let all : c.loop-seat.yielded ≡ c.args.seats.items = sym (map-id c.loop-seat.yielded) ∙ end in
    c.loop-seat.invariant.same ∙ all
