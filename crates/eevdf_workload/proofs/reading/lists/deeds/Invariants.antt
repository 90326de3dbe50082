use Rattle.eevdf_workload.{specs.Meaning.deed_at, proofs.ReadingLists.IsReadSoFar}
use Rattle.eevdf_workload.proofs.reading.lists.deeds.Given as goal

abbrev pub invariant-loop-place : goal.invariant-loop-place
invariant-loop-place l = IsReadSoFar (deed_at l.limits) l.members l.script.items l.place
