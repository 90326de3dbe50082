use denote.Param.Send.{sendable}
use Rattle.std.proofs.Crossing.{crosses}
use Rattle.measures.proofs.fleet.thread_work.worked.Goals as goal

pub map_vec-requires-sync-F : goal.map_vec-requires-sync-F
map_vec-requires-sync-F g c κs within = let runs = c.type_bounds.sync-R in
    let fleets = c.type_bounds.sync-F in
    search (sendable) depth 20

pub map_vec-requires-send-J : goal.map_vec-requires-send-J
map_vec-requires-send-J g c κs within = let seats = c.type_bounds.send-S in
    search (crosses, sendable) depth 20

pub map_vec-requires-send-X : goal.map_vec-requires-send-X
map_vec-requires-send-X g c κs within = let seats = c.type_bounds.send-S in
    search (crosses, sendable) depth 20
