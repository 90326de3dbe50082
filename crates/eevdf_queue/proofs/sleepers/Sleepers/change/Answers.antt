use Rattle.std.proofs.Common.{◌∙◌, Some, ap, sym}
use Rattle.eevdf_queue.specs.{State.TasksAsleep, Slots.read_slot, Slots.place_of_node}
use Rattle.eevdf_queue.proofs.AsleepMaps.{sleeps, contains_is, found_is, found_more, found_same, filled_again}
use Rattle.eevdf_queue.proofs.sleepers.Sleepers.change.Goals as goal
use Rattle.eevdf_queue.proofs.sleepers.Sleepers.change.Goals.{After-fill}

pub take-requires : goal.take-requires
take-requires c =
    sym (contains_is c.self.inside.slots c.args.self.now.tasks (ap (λ (w : TasksAsleep). w.tasks) c.self.view_is) c.args.task) ∙ c.requires.here

pub returns-clause-tasks : goal.returns-clause-tasks
returns-clause-tasks c =
    found_more sleeps c.self.inside.slots c.args.self.now.tasks (ap (λ (w : TasksAsleep). w.tasks) c.self.view_is) c.fill.new.slots c.args.task _ c.args.sleeper.now
    (filled_again c.self.inside.slots c.take.new.slots c.fill.new.slots c.args.task _ _ c.take.ensures.rest c.fill.ensures)
    (ap Some c.changed_node-node.ensures.sleeper)

pub returns-clause-places : goal.returns-clause-places
returns-clause-places c =
    let seen = ap (λ (w : TasksAsleep). w.places) c.self.view_is in
    found_same place_of_node c.self.inside.slots c.args.self.now.places seen c.fill.new.slots c.args.task _
    (filled_again c.self.inside.slots c.take.new.slots c.fill.new.slots c.args.task _ _ c.take.ensures.rest c.fill.ensures)
    (c.changed_node-node.ensures.place
    ∙ sym (found_is place_of_node c.self.inside.slots c.args.self.now.places seen c.args.task ∙ ap (read_slot place_of_node) c.take.ensures.node))
