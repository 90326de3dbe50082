use Rattle.std.proofs.Common.{◌≡◌, ◌∙◌, ap, sym, rules}
use Rattle.eevdf_queue.specs.{State.TasksAsleep, Slots.read_slot, Slots.place_of_node}
use Rattle.eevdf_queue.proofs.AsleepMaps.{found_is}
use Rattle.eevdf_queue.proofs.sleepers.Sleepers.place.Goals as goal

pub returns-in-None-clause-value : goal.returns-in-None-clause-value
returns-in-None-clause-value c =
    ap (read_slot place_of_node) (sym c.in-None.is ∙ c.slot.ensures)
    ∙ sym (found_is place_of_node c.self.inside.slots c.args.self.now.places (ap (λ (w : TasksAsleep). w.places) c.self.view_is) c.args.task)

pub returns-in-Some-clause-value : goal.returns-in-Some-clause-value
returns-in-Some-clause-value c =
    let same : c.place_of.result ≡ place_of_node c.in-Some.node.value = search rules in
    same
    ∙ ap (read_slot place_of_node) (sym c.in-Some.is ∙ c.slot.ensures)
    ∙ sym (found_is place_of_node c.self.inside.slots c.args.self.now.places (ap (λ (w : TasksAsleep). w.places) c.self.view_is) c.args.task)
