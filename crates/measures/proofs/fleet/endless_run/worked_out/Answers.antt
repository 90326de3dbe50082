use denote.Param.Send.{sendable}
use Rattle.eevdf_fleet.proofs.Crossing.{endless_fleet_sync, endless_seat_send}
use Rattle.measures.proofs.fleet.endless_run.worked_out.Goals as goal

pub worked-requires-sync-F : goal.worked-requires-sync-F
worked-requires-sync-F g c κs within = search (endless_fleet_sync, sendable) depth 20

pub worked-requires-send-S : goal.worked-requires-send-S
worked-requires-send-S g c κs within = search (endless_seat_send, sendable) depth 20
