use Rattle.std.proofs.Common.{◌≡◌, ◌+◌, map, reverse, vec_len}
use Rattle.std.specs.List.{range_with_len}
use Rattle.eevdf_ops.specs.Setup.{cpus_of}
use Rattle.eevdf_fleet.specs.Rings.{no_posts, no_takes}
use Rattle.eevdf_fleet.specs.Fleets.{capacity_of, fresh_log, fresh_parts, quota_of, setup_of}
use Rattle.eevdf_fleet.proofs.opening.make_seats.Given as goal

abbrev pub invariant-loop : goal.invariant-loop
invariant-loop g l = record {
  end : l.end ≡ cpus_of (setup_of g.N.Names.kit);
  rest : vec_len l.logs + l.counter ≡ cpus_of (setup_of g.N.Names.kit);
  logs : l.logs.items ≡ map (fresh_log (quota_of g.N.Names.kit)) (range_with_len 0 (vec_len l.logs));
  producers : l.producers.items ≡ map (no_posts (capacity_of g.N.Names.kit) (cpus_of (setup_of g.N.Names.kit))) (range_with_len 0 (vec_len l.logs));
  consumers : l.consumers.items ≡ map (no_takes (cpus_of (setup_of g.N.Names.kit))) (range_with_len 0 (vec_len l.logs));
  seats : reverse l.seats.items ≡ map (fresh_parts (quota_of g.N.Names.kit) (capacity_of g.N.Names.kit) (cpus_of (setup_of g.N.Names.kit))) (range_with_len (vec_len l.logs) l.counter);
}
