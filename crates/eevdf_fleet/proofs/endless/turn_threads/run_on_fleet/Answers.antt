use denote.Param.Send.{sendable}
use Rattle.std.proofs.Common.{◌≡◌, map, subst, sym, ◌∙◌}
use Rattle.std.specs.Prelude.{Some, slice_get, vec_len}
use Rattle.eevdf_ops.specs.{Outcome.machine_of, Setup.cpus_of}
use Rattle.eevdf_fleet.specs.{Endless.fresh, EndlessTurns.HaveTurned, Fleets.Kit, Fleets.setup_of}
use Rattle.eevdf_fleet.proofs.Crossing.{endless_seat_send, endless_fleet_sync, exchange_sync}
use Rattle.eevdf_fleet.proofs.SeatLists.{by-places-at, counted}
use Rattle.eevdf_fleet.proofs.endless.turn_threads.run_on_fleet.Goals as goal
use Rattle.eevdf_fleet.proofs.endless.turn_threads.run_on_fleet.Goals.{After-run_seats}

pub run_seats-requires-sync-W : goal.run_seats-requires-sync-W
run_seats-requires-sync-W g c κs within = search (endless_fleet_sync, exchange_sync, sendable) depth 20

pub run_seats-requires-send-S : goal.run_seats-requires-send-S
run_seats-requires-send-S g c κs within = search (endless_seat_send, sendable) depth 20

-- as many seats as there are CPUs
count : (g : _) (c : After-run_seats g) → vec_len c.in_ok-fleet.seats ≡ cpus_of (setup_of g.N.Names.kit)
count g c = counted (fresh g.N.Names.kit) (cpus_of (setup_of g.N.Names.kit)) _ _ c.in_ok-fleet.seats.ok.0 c.in_ok-fleet.ensures

pub run_seats-requires-after_bounds : goal.run_seats-requires-after_bounds
run_seats-requires-after_bounds g c = λ κs within k seat at.
    by-places-at (fresh g.N.Names.kit) (cpus_of (setup_of g.N.Names.kit)) k seat (subst (λ xs. slice_get xs k ≡ Some seat) c.in_ok-fleet.ensures at)

pub close-requires : goal.close-requires
close-requires g c = record {
  all = c.in_ok-seats.ensures.all ∙ count g (goal.at.close-requires g c).After-run_seats;
  in_order = λ cpu seat at. (c.in_ok-seats.ensures.each cpu seat at).0;
}

pub returns : goal.returns
returns g c =
    let kit = g.N.Names.kit in let o = c.close.result in let gives = g.T.ExchangeTurn.turn_gives c.args.each.now in
    let at : After-run_seats g = (goal.at.returns g c).After-run_seats in
    subst (λ (k : Kit). HaveTurned (gives k) k (machine_of o.queues.items) (map (λ l. l.items) o.left.items)) (sym c.requires) (record {
      seats = c.in_ok-seats.seats.items;
      all = c.in_ok-seats.ensures.all ∙ count g at;
      turned = c.in_ok-seats.ensures.each;
      one_history = c.close.ensures;
    })
