use denote.Param.Send.{sendable}
use Rattle.eevdf_ops.proofs.setup.Setup.TheSendSync as setup
use Rattle.eevdf_fleet.proofs.Crossing.{fleet_sync, seat_send}
use Rattle.eevdf_tests.proofs.fleet_calls.two_threads.two_operate.Goals as goal

pub join-zero-requires-send-F : goal.join-zero-requires-send-F
join-zero-requires-send-F g c κs within = let runs = c.type_bounds.sync-R in
    search (fleet_sync, seat_send, setup.the_sync, sendable) depth 20

pub join-zero-requires-send-A : goal.join-zero-requires-send-A
join-zero-requires-send-A g c κs within = search (seat_send, sendable) depth 20
