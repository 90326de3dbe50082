use Rattle.std.proofs.Common.{◌≡◌, ◌∙◌, Some, ap, sym, rules}
use Rattle.eevdf_queue.specs.{State.TasksAsleep, Slots.read_slot, Slots.sleeper_of_node}
use Rattle.eevdf_queue.proofs.AsleepMaps.{sleeps, found_is}
use Rattle.eevdf_queue.proofs.sleepers.Sleepers.get.Goals as goal

pub returns-in-None : goal.returns-in-None
returns-in-None c =
    ap (read_slot sleeps) (sym c.in-None.is ∙ c.slot.ensures)
    ∙ sym (found_is sleeps c.self.inside.slots c.args.self.now.tasks (ap (λ (w : TasksAsleep). w.tasks) c.self.view_is) c.args.task)

pub returns-in-Some : goal.returns-in-Some
returns-in-Some c =
    let same : c.sleeper_of.result ≡ sleeper_of_node c.in-Some.node.value = search rules in
    ap Some same
    ∙ ap (read_slot sleeps) (sym c.in-Some.is ∙ c.slot.ensures)
    ∙ sym (found_is sleeps c.self.inside.slots c.args.self.now.tasks (ap (λ (w : TasksAsleep). w.tasks) c.self.view_is) c.args.task)
