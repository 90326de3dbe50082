use Rattle.std.proofs.Common.{◌≡◌, ◌∙◌, ℕ, Some, ap, sym, subst}
use Rattle.std.specs.FinMap.{insert}
use Rattle.eevdf_queue.specs.{State.TasksAsleep, Moves.sleeper_of, Slots.found_in, Slots.place_of_node, Slots.IsWith}
use Rattle.eevdf_queue.proofs.{Sound.Asleep, Sound.Places}
use Rattle.eevdf_queue.proofs.AsleepMaps.{sleeps, found_is, found_more, found_same, no_place}
use Rattle.eevdf_queue.proofs.sleepers.Sleepers.add.Goals as goal
use Rattle.eevdf_queue.proofs.sleepers.Sleepers.add.Goals.{After-fill}

with_node : (c : After-fill) → IsWith c.args.parcel.task (Some c.sleeping_node.result) c.self.inside.slots c.fill.new.slots
with_node c = subst (λ (k : ℕ). IsWith k (Some c.sleeping_node.result) c.self.inside.slots c.fill.new.slots) c.task-task.ensures c.fill.ensures

tasks_after : (c : After-fill) → found_in sleeps c.fill.new.slots ≡ insert c.args.self.now.tasks c.args.parcel.task (sleeper_of c.args.parcel)
tasks_after c =
    found_more sleeps c.self.inside.slots c.args.self.now.tasks (ap (λ (w : TasksAsleep). w.tasks) c.self.view_is) c.fill.new.slots c.args.parcel.task _ _
    (with_node c) (ap Some c.sleeping_node.ensures.sleeper)

-- a task that wasn't here had no place
places_after : (c : After-fill) → found_in place_of_node c.fill.new.slots ≡ c.args.self.now.places
places_after c =
    let seen = ap (λ (w : TasksAsleep). w.places) c.self.view_is in
    let absent = sym (found_is sleeps c.self.inside.slots c.args.self.now.tasks (ap (λ (w : TasksAsleep). w.tasks) c.self.view_is) c.args.parcel.task) ∙ c.requires in
    found_same place_of_node c.self.inside.slots c.args.self.now.places seen c.fill.new.slots c.args.parcel.task _ (with_node c)
    (c.sleeping_node.ensures.place ∙ sym (found_is place_of_node c.self.inside.slots c.args.self.now.places seen c.args.parcel.task ∙ no_place _ absent))

pub returns : goal.returns
returns c =
    ap (λ (m : Asleep). record { tasks = m; places = found_in place_of_node c.fill.new.slots }) (tasks_after c)
    ∙ ap (λ (p : Places). record { tasks = insert c.args.self.now.tasks c.args.parcel.task (sleeper_of c.args.parcel); places = p }) (places_after c)
