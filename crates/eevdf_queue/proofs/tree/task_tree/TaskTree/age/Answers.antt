use Rattle.std.proofs.Common.{◌≡◌, ◌∙◌, List, length, ap, arith}
use Rattle.std.specs.{Prelude.ℤ, Option.option_map}
use Rattle.eevdf_queue.specs.{declared.entry.Entry.Entry, declared.task.Task.Task, TreeShape.Tree, TreeShape.tasks_in}
use Rattle.eevdf_queue.specs.TaskLists.{find_task, set_entry}
use Rattle.eevdf_queue.proofs.{TreeAge.aged_as, TreeAge.at_deadline, TreeChange.sorted-set}
use Rattle.eevdf_queue.proofs.tree.task_tree.TaskTree.age.Goals as goal

pub invariant_of-self : goal.invariant_of-self
invariant_of-self c =
    let here = ap (λ (z : List Task). option_map (λ (t : Task). t.entry) (find_task c.args.key.now.number z)) (ap (λ (w : Tree). w.tasks) c.self.view_is) ∙ c.requires.here in
    let e : tasks_in c.age.new.link ≡ set_entry c.args.key.now.number c.args.newer.now (tasks_in c.self.inside.root) =
    c.age.ensures.tasks c.args.newer.now (aged_as c.of-runtimes.result.newer (find_task c.args.key.now.number (tasks_in c.self.inside.root)) c.args.older.now c.args.newer.now here
    (ap (λ (z : ℤ). record c.args.older.now { v = z }) c.of-runtimes.ensures.newer ∙ c.requires.same)) in
    let d : c.args.older.now.d ≡ c.args.newer.now.d = ap (λ (z : Entry). z.d) c.requires.same in
    let l : length (tasks_in c.age.new.link) ≡ length (tasks_in c.self.inside.root) = cc in
    record {
      sorted = sorted-set c.args.key.now.number c.args.newer.now (tasks_in c.self.inside.root) (tasks_in c.age.new.link) c.self.invariant.sorted
          (at_deadline c.args.older.now c.args.newer.now.d (find_task c.args.key.now.number (tasks_in c.self.inside.root)) here d) e l;
      counted = omega (arith, l, c.self.invariant.counted);
    }
