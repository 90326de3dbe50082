use Rattle.std.proofs.Common.{◌≡◌, ◌≤◌, ◌+◌, ◌++◌, drop, length}
use Rattle.eevdf_ops.specs.Numbers.{most_tasks}
use Rattle.eevdf_closed_loop.specs.{Tasks.tasks_of, Faults.groups_fault, Faults.tasks_in}
use Rattle.eevdf_closed_loop.proofs.opening.setup_of.Given as goal

abbrev pub invariant-loop-place : goal.invariant-loop-place
invariant-loop-place l = record {
  tasks : tasks_of l.plan.cpus l.plan.groups.items ≡ l.tasks.items ++ tasks_of l.plan.cpus (drop l.place l.plan.groups.items);
  fault : groups_fault l.plan.cpus (length l.plan.groups.items) 0 0 l.plan.groups.items
      ≡ groups_fault l.plan.cpus (length l.plan.groups.items) l.place (length l.tasks.items) (drop l.place l.plan.groups.items);
  number : tasks_in l.plan.groups.items ≡ length l.tasks.items + tasks_in (drop l.place l.plan.groups.items);
  few : length l.tasks.items ≤ most_tasks;
}
