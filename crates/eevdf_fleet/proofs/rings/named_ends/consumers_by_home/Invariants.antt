use Rattle.std.proofs.Common.{◌≡◌, length, map}
use Rattle.std.specs.List.{range_with_len}
use Rattle.eevdf_fleet.specs.Rings.{no_takes}
use Rattle.eevdf_fleet.proofs.rings.named_ends.consumers_by_home.Given as goal

abbrev pub invariant-loop-ends : goal.invariant-loop-ends
invariant-loop-ends g l = l.all.items ≡ map (no_takes (length l.fn.columns.items)) (range_with_len 0 (length l.yielded))
