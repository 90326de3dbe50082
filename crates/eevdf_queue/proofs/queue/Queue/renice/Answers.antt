use Rattle.std.proofs.Common.{◌≡◌, Some, None, ◌∙◌, ap, sym, rules}
use Rattle.std.specs.{Prelude.ℤ, FinMap.get}
use Rattle.std.proofs.lemmas.Int.{to_z-of_z}
use mir.Syntax.{w64}
use mir.Val.{SFits}
use Rattle.eevdf_weight.specs.Limits.{is_in_range}
use Rattle.eevdf_queue.specs.{declared.answers.ReniceAnswer.ReniceAnswer, State.State, State.View, Leaving.leave, Placing.placed_entry}
use Rattle.eevdf_queue.specs.Renice as renices
use Rattle.eevdf_queue.proofs.{DueTasks.placed_due, DueTasks.due_written, Joining.placed_in_range}
use Rattle.eevdf_queue.proofs.Renicing.{not_here, out_of_range, has_level, after_renice, sound_renice}
use Rattle.eevdf_queue.proofs.queue.Queue.renice.Goals as goal

pub returns-in_default-clause-answer : goal.returns-in_default-clause-answer
returns-in_default-clause-answer c =
    let gone : get c.args.self.now.state.runnable c.args.task ≡ None = ap (λ (w : View). get w.state.runnable c.args.task) (sym c.self.view_is) ∙ sym c.in_default.ensures in
    sym (ap (λ (p : ReniceAnswer × State). p.0) (not_here c.args.self.now.state c.args.task c.args.nice gone))

pub returns-in_default-clause-after : goal.returns-in_default-clause-after
returns-in_default-clause-after c =
    let gone : get c.args.self.now.state.runnable c.args.task ≡ None = ap (λ (w : View). get w.state.runnable c.args.task) (sym c.self.view_is) ∙ sym c.in_default.ensures in
    sym (ap (λ (p : ReniceAnswer × State). p.1) (not_here c.args.self.now.state c.args.task c.args.nice gone))

pub keeps_in_range-requires : goal.keeps_in_range-requires
keeps_in_range-requires c =
    ap (λ (w : View). get w.state.runnable c.args.task) (sym c.self.view_is) ∙ sym c.in-Some.ensures

pub reniced-requires : goal.reniced-requires
reniced-requires c = record {
  here = ap (λ (w : View). get w.state.runnable c.args.task) (sym c.self.view_is) ∙ sym c.in-Some.ensures;
  in_range = c.keeps_in_range.ensures;
}

pub returns-in_default-reniced-clause-answer : goal.returns-in_default-reniced-clause-answer
returns-in_default-reniced-clause-answer c =
    let here : get c.args.self.now.state.runnable c.args.task ≡ Some c.in-Some.entry = ap (λ (w : View). get w.state.runnable c.args.task) (sym c.self.view_is) ∙ sym c.in-Some.ensures in
    sym (ap (λ (p : ReniceAnswer × State). p.0) (out_of_range c.args.self.now.state c.args.task c.args.nice c.in-Some.entry here (sym c.in_default-reniced.ensures)))

pub returns-in_default-reniced-clause-after : goal.returns-in_default-reniced-clause-after
returns-in_default-reniced-clause-after c =
    let here : get c.args.self.now.state.runnable c.args.task ≡ Some c.in-Some.entry = ap (λ (w : View). get w.state.runnable c.args.task) (sym c.self.view_is) ∙ sym c.in-Some.ensures in
    sym (ap (λ (p : ReniceAnswer × State). p.1) (out_of_range c.args.self.now.state c.args.task c.args.nice c.in-Some.entry here (sym c.in_default-reniced.ensures)))

pub set-requires : goal.set-requires
set-requires c = record {
  here = sym c.in-Some.ensures;
  in_range = placed_in_range (leave c.args.self.now.state c.args.task) (renices.reniced c.args.self.now.state c.in-Some.entry c.args.nice) c.in-Some-reniced.reniced (sym c.in-Some-reniced.ensures);
}

pub invariant_of-self : goal.invariant_of-self
invariant_of-self c =
    let v : ℤ = c.in-Some.entry.v in
    let fits : SFits w64 v = search rules in
    let timely =
    placed_due (leave c.args.self.now.state c.args.task) (renices.reniced c.args.self.now.state c.in-Some.entry c.args.nice) c.in-Some-reniced.reniced (sym c.in-Some-reniced.ensures) in
    (sound_renice _ _ _ _ _ _ c.args.task c.in-Some.entry c.in-Some-reniced.reniced c.set.ensures (sym c.in-Some.ensures) (ap is_in_range (to_z-of_z w64 v fits) ∙ c.keeps_in_range.ensures) c.self.invariant.0, c.self.invariant.1, c.self.invariant.2, due_written _ _ _ _ c.set.ensures timely c.self.invariant.3)

pub returns-clause-answer : goal.returns-clause-answer
returns-clause-answer c =
    let here : get c.args.self.now.state.runnable c.args.task ≡ Some c.in-Some.entry = ap (λ (w : View). get w.state.runnable c.args.task) (sym c.self.view_is) ∙ sym c.in-Some.ensures in
    sym (has_level c.args.self.now.state c.args.task c.args.nice c.in-Some.entry c.in-Some-reniced.reniced here (sym c.in-Some-reniced.ensures))

pub returns-clause-after : goal.returns-clause-after
returns-clause-after c =
    let a = c.self.inside in
    let q : State = record { runnable = a.runnable.tasks; running = a.running; asleep = a.asleep.tasks; base = a.base; places = a.asleep.places; shift = a.shift } in
    let e = c.in-Some.entry in
    let v : ℤ = e.v in
    let fits : SFits w64 v = search rules in
    ap (λ (z : ℤ). record q { runnable = c.set.new.self.tasks; base = z }) (to_z-of_z w64 v fits)
    ∙ after_renice q c.args.task c.args.nice e c.in-Some-reniced.reniced c.set.new.self.tasks (sym c.in-Some.ensures)
    (ap (λ (w : View). placed_entry (leave w.state c.args.task) (renices.reniced w.state e c.args.nice)) c.self.view_is ∙ sym c.in-Some-reniced.ensures) c.set.ensures
    ∙ ap (λ (w : View). (renices.renice w.state c.args.task c.args.nice).1) c.self.view_is

pub returns-clause-pick_depth : goal.returns-clause-pick_depth
returns-clause-pick_depth c = ap (λ (w : View). w.pick_depth) c.self.view_is
