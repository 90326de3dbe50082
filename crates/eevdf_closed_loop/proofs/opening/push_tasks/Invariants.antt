use Rattle.std.proofs.Common.{◌≡◌, ◌+◌, ◌++◌, length}
use Rattle.eevdf_closed_loop.specs.Tasks.{first_tasks}
use Rattle.eevdf_closed_loop.proofs.opening.push_tasks.Given as goal

abbrev pub invariant-loop-number : goal.invariant-loop-number
invariant-loop-number l = record {
  tasks : l.tasks.items ≡ l.initial.tasks.items ++ first_tasks l.cpus l.group l.number;
  number : length l.tasks.items ≡ length l.initial.tasks.items + l.number;
}
