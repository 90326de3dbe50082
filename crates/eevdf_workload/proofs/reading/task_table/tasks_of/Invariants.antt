use Rattle.eevdf_workload.{specs.Meaning.task_at, proofs.ReadingLists.IsReadSoFar}
use Rattle.eevdf_workload.proofs.reading.task_table.tasks_of.Given as goal

abbrev pub invariant-loop-place : goal.invariant-loop-place
invariant-loop-place l = IsReadSoFar (task_at l.limits) l.members l.tasks.items l.place
