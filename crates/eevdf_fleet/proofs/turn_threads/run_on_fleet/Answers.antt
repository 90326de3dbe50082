use denote.Param.Send.{sendable}
use Rattle.std.proofs.Common.{ℕ, ◌<◌, ◌≡◌, sym, subst}
use Rattle.std.specs.Prelude.{Some, slice_get, vec_len}
use Rattle.eevdf_ops.specs.Setup.{cpus_of}
use Rattle.eevdf_fleet.specs.{Fleets.AreSeats, Fleets.Kit, Fleets.fresh, Fleets.quota_of, Fleets.setup_of, SeatWorks.AreDone, Turns.HasItsTurns, Turns.HasTurned}
use Rattle.eevdf_fleet.proofs.Crossing.{fleet_sync, seat_send}
use Rattle.eevdf_fleet.proofs.{SeatLists.by-places-at, SeatLists.fresh-counted, SeatLists.done-seats, SeatTurns.turns-told}
use Rattle.eevdf_fleet.proofs.turn_threads.run_on_fleet.Goals as goal
use Rattle.eevdf_fleet.proofs.turn_threads.run_on_fleet.Goals.{After-run_seats}

pub run_seats-requires-sync-W : goal.run_seats-requires-sync-W
run_seats-requires-sync-W g c κs within = search (fleet_sync, sendable) depth 20

pub run_seats-requires-send-S : goal.run_seats-requires-send-S
run_seats-requires-send-S g c κs within = search (seat_send, sendable) depth 20

-- as many seats as there are CPUs
count : (g : _) (c : After-run_seats g) → vec_len c.in_ok-fleet.seats ≡ cpus_of (setup_of g.N.Names.kit)
count g c = fresh-counted _ _ _ _ c.in_ok-fleet.seats.ok.0 c.in_ok-fleet.ensures

pub run_seats-requires-after_bounds : goal.run_seats-requires-after_bounds
run_seats-requires-after_bounds g c = λ κs within k seat at.
    let kit = g.N.Names.kit in
    by-places-at (fresh (quota_of kit) (cpus_of (setup_of kit))) (cpus_of (setup_of kit)) k seat (subst (λ xs. slice_get xs k ≡ Some seat) c.in_ok-fleet.ensures at)

pub close-requires : goal.close-requires
close-requires g c =
    let at : After-run_seats g = (goal.at.close-requires g c).After-run_seats in
    subst (λ (n : ℕ). AreSeats n c.in_ok-seats.seats.items) (count g at) (done-seats _ _ c.in_ok-seats.seats.items (λ cpu s done. done.0) c.in_ok-seats.ensures)

pub returns-clause-turns : goal.returns-clause-turns
returns-clause-turns g c =
    let gives = g.T.SeatTurn.turn_gives c.args.each.now in let o = c.close.result in let kit = g.N.Names.kit in
    let at : After-run_seats g = (goal.at.returns-clause-turns g c).After-run_seats in
    let done : AreDone (cpus_of (setup_of kit)) (λ cpu seat. (seat.cpu ≡ cpu) × HasTurned (gives kit) 0 c.args.turns (fresh (quota_of kit) (cpus_of (setup_of kit)) cpu) seat) c.in_ok-seats.seats.items =
    subst (λ (n : ℕ). AreDone n (λ cpu seat. (seat.cpu ≡ cpu) × HasTurned (gives kit) 0 c.args.turns (fresh (quota_of kit) (cpus_of (setup_of kit)) cpu) seat) c.in_ok-seats.seats.items) (count g at) c.in_ok-seats.ensures in
    subst (λ (k : Kit). (cpu : ℕ) → cpu < cpus_of (setup_of k) → HasItsTurns (gives k) k c.args.turns cpu o) (sym c.requires.kit)
    (turns-told (gives kit) kit c.args.turns c.in_ok-seats.seats.items o done c.close.ensures.logs c.close.ensures.posts)
