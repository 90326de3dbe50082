use denote.Param.Send.{sendable}
use Rattle.std.proofs.Crossing.{crosses}
use Rattle.eevdf_fleet.proofs.Crossing.{endless_fleet_sync, endless_seat_send}
use Rattle.job_bench.proofs.fleet_job.worked.Goals as goal

pub map_vec-requires-sync-F : goal.map_vec-requires-sync-F
map_vec-requires-sync-F g c κs within = let runs = c.type_bounds.sync-R in
    search (endless_fleet_sync, sendable) depth 20

pub map_vec-requires-send-J : goal.map_vec-requires-send-J
map_vec-requires-send-J g c κs within = search (endless_seat_send, crosses, sendable) depth 20

pub map_vec-requires-send-X : goal.map_vec-requires-send-X
map_vec-requires-send-X g c κs within = search (endless_seat_send, crosses, sendable) depth 20
