use Rattle.std.proofs.Common.{◌≡◌, drop}
use Rattle.eevdf_workload.specs.Meaning.{allowed_from}
use Rattle.eevdf_workload.proofs.reading.check_deeds.Given as goal

abbrev pub invariant-loop-place : goal.invariant-loop-place
invariant-loop-place l = allowed_from l.setup 0 l.deeds ≡ allowed_from l.setup l.place (drop l.place l.deeds)
