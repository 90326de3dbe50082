use Rattle.std.proofs.Common.{Some, refl, ap, ◌∙◌, sym}
use Rattle.std.specs.{Prelude.is_some, FinMap.get}
use Rattle.eevdf_queue.specs.{State.View, Moves.sleeper_of, Placing.placed_entry}
use Rattle.eevdf_queue.proofs.{DueTasks.placed_due, DueTasks.due_written, Sound.entry_written, Sound.sound_admit, Joining.placed_in_range, Joining.joined}
use Rattle.eevdf_queue.proofs.queue.Queue.attach.Goals as goal

pub placed-requires : goal.placed-requires
placed-requires c = c.sleeper.ensures.limited

pub unwrap-entry-requires : goal.unwrap-entry-requires
unwrap-entry-requires c =
    ap is_some (c.placed.ensures ∙ ap (placed_entry c.args.self.now.state) c.sleeper.ensures.value) ∙ c.requires.room

pub add-requires : goal.add-requires
add-requires c = record {
  absent = ap (λ (w : View). get w.state.runnable c.args.parcel.task) c.self.view_is ∙ c.requires.not_runnable;
  in_range = placed_in_range c.args.self.now.state c.sleeper.result c.unwrap-entry.result (sym c.placed.ensures ∙ c.unwrap-entry.ensures);
}

pub invariant_of-self : goal.invariant_of-self
invariant_of-self c =
    let awake = ap (λ (w : View). get w.state.asleep c.args.parcel.task) c.self.view_is ∙ c.requires.not_asleep in
    let timely = placed_due c.args.self.now.state c.sleeper.result c.unwrap-entry.result (sym c.placed.ensures ∙ c.unwrap-entry.ensures) in
    (sound_admit _ _ _ _ _ _ _ c.add.ensures awake c.self.invariant.0, c.self.invariant.1, c.self.invariant.2, due_written _ _ _ _ c.add.ensures timely c.self.invariant.3)

pub returns-clause-after : goal.returns-clause-after
returns-clause-after c =
    let e = c.unwrap-entry.result in
    joined c.args.self.now.state c.args.parcel.task (sleeper_of c.args.parcel) e
    (ap (placed_entry c.args.self.now.state) (sym c.sleeper.ensures.value) ∙ sym c.placed.ensures ∙ c.unwrap-entry.ensures)
    ∙ ap Some (sym (entry_written _ _ _ _ _ _ _ c.args.parcel.task e e _ c.add.ensures refl (ap (λ (w : View). w.state) c.self.view_is)))

pub returns-clause-pick_depth : goal.returns-clause-pick_depth
returns-clause-pick_depth c = ap (λ (w : View). w.pick_depth) c.self.view_is
