use denote.Param.Send.{sendable}
use Rattle.eevdf_fleet.proofs.Crossing.{fleet_sync, seat_send}
use Rattle.measures.proofs.fleet.fleet_run.report_of.Goals as goal

pub worked-requires-sync-F : goal.worked-requires-sync-F
worked-requires-sync-F g c κs within = search (fleet_sync, sendable) depth 20

pub worked-requires-send-S : goal.worked-requires-send-S
worked-requires-send-S g c κs within = search (seat_send, sendable) depth 20
