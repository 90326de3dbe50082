use Rattle.std.proofs.Common.{◌≡◌, suc, length, arith}
use Rattle.eevdf_queue.specs.{TreeShape.tasks_in, TreeTasks.without}
use Rattle.eevdf_queue.proofs.TreeSorted.{sorted-without}
use Rattle.eevdf_queue.proofs.tree.task_tree.TaskTree.remove.Goals as goal

pub invariant_of-self : goal.invariant_of-self
invariant_of-self c =
    let e : tasks_in c.remove-taken.new.link ≡ without c.args.key.now.number (tasks_in c.self.inside.root) = cc in
    let l : length (tasks_in c.self.inside.root) ≡ suc (length (tasks_in c.remove-taken.new.link)) = cc in
    record {
      sorted = sorted-without c.args.key.now.number (tasks_in c.self.inside.root) (tasks_in c.remove-taken.new.link) c.self.invariant.sorted e l;
      counted = omega (arith, l, c.self.invariant.counted);
    }
