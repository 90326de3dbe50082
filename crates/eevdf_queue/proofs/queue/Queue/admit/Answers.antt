use Rattle.std.proofs.Common.{ap, sym, ◌∙◌}
use Rattle.std.specs.FinMap.{get}
use Rattle.eevdf_queue.specs.State.{View}
use Rattle.eevdf_queue.proofs.{DueTasks.started_due, DueTasks.due_written, Sound.sound_admit}
use Rattle.eevdf_queue.proofs.queue.Queue.admit.Goals as goal

pub invariant_of-self : goal.invariant_of-self
invariant_of-self c =
    let awake = ap (λ (w : View). get w.state.asleep c.args.parcel.task) c.self.view_is ∙ c.requires.not_asleep in
    let timely = started_due c.entry.result.v c.entry.result.nice c.entry.result.slice c.in-Some.entry (sym c.started.ensures ∙ c.in-Some.is) in
    (sound_admit _ _ _ _ _ _ _ c.add.ensures awake c.self.invariant.0, c.self.invariant.1, c.self.invariant.2, due_written _ _ _ _ c.add.ensures timely c.self.invariant.3)
