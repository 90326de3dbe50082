use Rattle.std.proofs.Common.{◌≡◌, ◌∙◌, List, length, to_z, of_z, sym, ap}
use Rattle.std.specs.{Prelude.ℤ}
use Rattle.std.proofs.lemmas.Int.{to_z-of_z}
use mir.Syntax.{w64}
use Rattle.eevdf_queue.specs.{declared.task.Task.Task, TreeShape.tasks_in, TreeLowering.lowered_list}
use Rattle.eevdf_queue.proofs.LoweredLists.{length-lowered, sorted_lowered}
use Rattle.eevdf_queue.proofs.tree.task_tree.TaskTree.lower.Goals as goal

pub invariant_of-self : goal.invariant_of-self
invariant_of-self c =
    let b : to_z w64 (of_z w64 c.args.by) ≡ c.args.by = to_z-of_z w64 c.args.by c.ranges.by in
    let e : tasks_in c.lower.new.link ≡ lowered_list c.args.by (tasks_in c.self.inside.root) =
    c.lower.ensures.tasks ∙ ap (λ (z : ℤ). lowered_list z (tasks_in c.self.inside.root)) b in
    record {
      sorted = sorted_lowered c.args.by (tasks_in c.self.inside.root) (tasks_in c.lower.new.link) c.self.invariant.sorted e;
      counted = c.self.invariant.counted ∙ sym (ap (λ (z : List Task). length z) e ∙ length-lowered c.args.by (tasks_in c.self.inside.root));
    }
