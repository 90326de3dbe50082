use Rattle.std.proofs.Common.{◌∙◌, ℕ, Some, ap, subst}
use Rattle.std.proofs.lemmas.Int.{to_z-of_z}
use mir.Syntax.{w128}
use Rattle.eevdf_queue.specs.{State.TasksAsleep, Slots.place_of_node, Slots.IsWith}
use Rattle.eevdf_queue.proofs.AsleepMaps.{sleeps, found_more}
use Rattle.eevdf_queue.proofs.sleepers.Sleepers.add_at.Goals as goal
use Rattle.eevdf_queue.proofs.sleepers.Sleepers.add_at.Goals.{After-fill}

with_node : (c : After-fill) → IsWith c.args.parcel.task (Some c.dozing_node.result) c.self.inside.slots c.fill.new.slots
with_node c = subst (λ (k : ℕ). IsWith k (Some c.dozing_node.result) c.self.inside.slots c.fill.new.slots) c.task-task.ensures c.fill.ensures

pub returns-clause-tasks : goal.returns-clause-tasks
returns-clause-tasks c =
    found_more sleeps c.self.inside.slots c.args.self.now.tasks (ap (λ (w : TasksAsleep). w.tasks) c.self.view_is) c.fill.new.slots c.args.parcel.task _ _
    (with_node c) (ap Some c.dozing_node.ensures.sleeper)

pub returns-clause-places : goal.returns-clause-places
returns-clause-places c =
    found_more place_of_node c.self.inside.slots c.args.self.now.places (ap (λ (w : TasksAsleep). w.places) c.self.view_is) c.fill.new.slots c.args.parcel.task _ _
    (with_node c)
    (c.dozing_node.ensures.place ∙ ap Some (to_z-of_z w128 c.args.place (record { sfits = c.ranges.place.sfits })))
