use Rattle.std.proofs.Common.{◌∙◌, ℕ, Some, ap, sym}
use Rattle.std.specs.FinMap as map
use Rattle.eevdf_queue.specs.{declared.entry.Entry.Entry}
use Rattle.eevdf_queue.proofs.{TreeMaps.placed, PickedTasks.known_entry}
use Rattle.eevdf_queue.specs.State.{TasksInTree}
use Rattle.eevdf_queue.proofs.tree.runnable_tasks.RunnableTasks.get.Goals as goal

pub find-requires : goal.find-requires
find-requires c = placed c.self.inside.deadlines c.key-key.result c.self.inside.tree.tasks c.self.invariant.store.noted c.key-key.ensures.deadline

pub returns-then-is : goal.returns-then-is
returns-then-is c =
    let p = c.self.inside.picked in
    let k = c.key-key.result in
    let v = ap (λ (w : TasksInTree). w.tasks) c.self.view_is in
    let n = c.key-key.ensures.number in
    ap (λ (e : Entry). Some e) c.entry.ensures
    ∙ sym (known_entry p c.self.inside.tree.tasks c.args.self.now.tasks k v c.self.invariant.picked (c.is.ensures.known c.if-is.true) (c.is.ensures.number c.if-is.true ∙ sym n)
    (placed c.self.inside.deadlines k c.self.inside.tree.tasks c.self.invariant.store.noted c.key-key.ensures.deadline))
    ∙ ap (λ (q : ℕ). map.get c.args.self.now.tasks q) n
