use Rattle.std.proofs.Common.{◌≡◌, ◌∙◌, ap, suc, List, length, arith}
use Rattle.eevdf_queue.specs.{declared.task.Task.Task, TaskLists.first_task, TaskLists.find_task, TreeShape.Tree, TreeShape.tasks_in}
use Rattle.eevdf_queue.specs.TreeTasks.{insert_task}
use Rattle.eevdf_queue.proofs.TreeSorted.{sorted-insert}
use Rattle.eevdf_queue.proofs.tree.task_tree.TaskTree.insert.Goals as goal

pub invariant_of-self : goal.invariant_of-self
invariant_of-self c =
    let e : tasks_in c.insert.new.link ≡ insert_task (first_task c.args.node.value.tasks) (tasks_in c.self.inside.root) = cc in
    let l : length (tasks_in c.insert.new.link) ≡ suc (length (tasks_in c.self.inside.root)) = cc in
    record {
      sorted =
          sorted-insert (tasks_in c.self.inside.root) (tasks_in c.insert.new.link) (first_task c.args.node.value.tasks) c.self.invariant.sorted
          (ap (find_task (first_task c.args.node.value.tasks).number) (ap (λ (w : Tree). w.tasks) c.self.view_is) ∙ c.requires.absent) (omega (arith, ap (λ (z : List Task). length z) (ap (λ (w : Tree). w.tasks) c.self.view_is))) e l;
      counted = omega (arith, l, c.self.invariant.counted);
    }
