use denote.Param.Send.{sendable}
use Rattle.eevdf_fleet.proofs.Crossing.{endless_fleet_sync, endless_seat_send}
use Rattle.eevdf_tests.proofs.endless_calls.two_threads.Signals.TheSendSync as signals
use Rattle.eevdf_tests.proofs.endless_calls.two_threads.one_holds.Goals as goal

pub join-zero-requires-send-F : goal.join-zero-requires-send-F
join-zero-requires-send-F g c κs within = let runs = c.type_bounds.sync-R in
    search (endless_fleet_sync, endless_seat_send, signals.the_sync, sendable) depth 20

pub join-zero-requires-send-A : goal.join-zero-requires-send-A
join-zero-requires-send-A g c κs within = search (endless_seat_send, sendable) depth 20
