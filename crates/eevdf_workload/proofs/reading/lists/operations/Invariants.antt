use Rattle.eevdf_workload.{specs.Meaning.operation_at, proofs.ReadingLists.IsReadSoFar}
use Rattle.eevdf_workload.proofs.reading.lists.operations.Given as goal

abbrev pub invariant-loop-place : goal.invariant-loop-place
invariant-loop-place l = IsReadSoFar (operation_at l.limits l.cpu) l.members l.program.items l.place
