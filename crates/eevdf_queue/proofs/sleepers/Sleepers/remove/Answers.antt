use Rattle.std.proofs.Common.{◌∙◌, Some, ap, sym, refl}
use Rattle.eevdf_queue.specs.{State.TasksAsleep, State.Contents, Moves.sleeper_of, Slots.read_slot, Slots.place_of_node}
use Rattle.eevdf_queue.proofs.AsleepMaps.{sleeps, contains_is, found_is, found_less}
use Rattle.eevdf_queue.proofs.sleepers.Sleepers.remove.Goals as goal

pub take-requires : goal.take-requires
take-requires c =
    sym (contains_is c.self.inside.slots c.args.self.now.tasks (ap (λ (w : TasksAsleep). w.tasks) c.self.view_is) c.args.task) ∙ c.requires

pub returns-clause-rest : goal.returns-clause-rest
returns-clause-rest c =
    found_less sleeps c.self.inside.slots c.args.self.now.tasks (ap (λ (w : TasksAsleep). w.tasks) c.self.view_is) c.take.new.slots c.args.task _
    c.take.ensures.rest refl

pub returns-clause-places : goal.returns-clause-places
returns-clause-places c =
    found_less place_of_node c.self.inside.slots c.args.self.now.places (ap (λ (w : TasksAsleep). w.places) c.self.view_is) c.take.new.slots c.args.task _
    c.take.ensures.rest refl

pub returns-clause-parcel : goal.returns-clause-parcel
returns-clause-parcel c =
    found_is sleeps c.self.inside.slots c.args.self.now.tasks (ap (λ (w : TasksAsleep). w.tasks) c.self.view_is) c.args.task
    ∙ ap (read_slot sleeps) c.take.ensures.node
    ∙ ap (λ (p : Contents). Some (sleeper_of p)) (sym c.of.ensures)
