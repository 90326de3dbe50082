use Rattle.std.proofs.Common.{◌∙◌, ap, sym}
use Rattle.std.specs.Prelude.{is_some}
use Rattle.eevdf_queue.specs.State.{TasksAsleep}
use Rattle.eevdf_queue.proofs.AsleepMaps.{contains_is}
use Rattle.eevdf_queue.proofs.sleepers.Sleepers.contains.Goals as goal

pub returns : goal.returns
returns c =
    c.is_some.ensures ∙ ap is_some c.slot.ensures
    ∙ sym (contains_is c.self.inside.slots c.args.self.now.tasks (ap (λ (w : TasksAsleep). w.tasks) c.self.view_is) c.args.task)
