use Rattle.std.proofs.Common.{◌≡◌, ◌∙◌, Some, refl, ap, sym}
use Rattle.eevdf_queue.specs.{declared.task.Task.Task, declared.tree.key.TreeKey.TreeKey, TaskLists.first_task, TaskLists.find_task, TaskLists.runnable_in, TreeTasks.without}
use Rattle.eevdf_queue.proofs.TreeMaps.{moved_stored, moved_seen}
use Rattle.eevdf_queue.proofs.tree.runnable_tasks.replace.Goals as goal
use Rattle.eevdf_queue.proofs.tree.runnable_tasks.replace.Goals.{After-remove-node}

taken : (c : After-remove-node) → find_task c.args.task c.args.tree.now.tasks ≡ Some (first_task c.remove-node.result.value.tasks)
taken c = ap (λ (k : TreeKey). find_task k.number c.args.tree.now.tasks) (sym c.of-key.ensures) ∙ c.remove-node.ensures.task

rest : (c : After-remove-node) → c.remove-node.new.self.tasks ≡ without c.args.task c.args.tree.now.tasks
rest c = c.remove-node.ensures.rest ∙ ap (λ (k : TreeKey). without k.number c.args.tree.now.tasks) c.of-key.ensures

pub returns-clause-stored : goal.returns-clause-stored
returns-clause-stored c =
    let n = (goal.at.returns-clause-stored c).After-remove-node in
    let u : Task = record (first_task c.remove-node.result.value.tasks) { entry = c.args.entry } in
    moved_stored c.args.deadlines.now c.args.task (first_task c.remove-node.result.value.tasks) c.args.tree.now.tasks c.remove-node.new.self.tasks c.requires.stored (taken n) (rest n)
    c.put.new.deadlines u c.put.new.tree.tasks refl c.put.ensures.tree c.requires.in_range c.put.ensures.table

pub returns-clause-seen : goal.returns-clause-seen
returns-clause-seen c =
    let n = (goal.at.returns-clause-seen c).After-remove-node in
    let u : Task = record (first_task c.remove-node.result.value.tasks) { entry = c.args.entry } in
    moved_seen c.args.deadlines.now c.args.task (first_task c.remove-node.result.value.tasks) c.args.tree.now.tasks c.remove-node.new.self.tasks c.requires.stored (taken n) (rest n)
    (runnable_in c.args.tree.now.tasks) u c.put.new.tree.tasks refl refl c.put.ensures.tree
