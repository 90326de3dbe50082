use Rattle.std.proofs.Common.{◌≡◌, take}
use Rattle.eevdf_clocks.specs.Times.{after_all, moments_of, opened}
use Rattle.eevdf_scene.proofs.moments.timed.Given as goal

abbrev pub invariant-loop-line : goal.invariant-loop-line
invariant-loop-line l = record {
  clocks : l.clocks ≡ after_all opened (take l.line-index l.lines);
  moments : l.moments.items ≡ moments_of (take l.line-index l.lines);
}
