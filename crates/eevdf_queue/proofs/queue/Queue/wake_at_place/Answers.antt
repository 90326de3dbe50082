use Rattle.std.proofs.Common.{◌≡◌, Some, None, ap, ◌∙◌, sym}
use Rattle.std.specs.{Prelude.is_some, FinMap.get}
use Rattle.eevdf_queue.specs.{declared.answers.WakeAnswer.WakeAnswer, State.State, State.View}
use Rattle.eevdf_queue.proofs.DueTasks.{waking_due}
use Rattle.eevdf_queue.proofs.Joining.{waking_in_range, stays_awake, stays_asleep, woken}
use Rattle.eevdf_queue.proofs.queue.Queue.wake_at_place.Goals as goal

pub returns-in_default-clause-answer : goal.returns-in_default-clause-answer
returns-in_default-clause-answer c =
    let gone : get c.args.self.now.state.asleep c.args.task ≡ None = ap (λ (w : View). get w.state.asleep c.args.task) (sym c.self.view_is) ∙ sym c.in_default.ensures in
    sym (ap (λ (p : WakeAnswer × State). p.0) (stays_awake c.args.self.now.state c.args.task gone))

pub returns-in_default-clause-after : goal.returns-in_default-clause-after
returns-in_default-clause-after c =
    let gone : get c.args.self.now.state.asleep c.args.task ≡ None = ap (λ (w : View). get w.state.asleep c.args.task) (sym c.self.view_is) ∙ sym c.in_default.ensures in
    sym (ap (λ (p : WakeAnswer × State). p.1) (stays_awake c.args.self.now.state c.args.task gone))

pub waking-requires : goal.waking-requires
waking-requires c =
    (c.keeps.ensures.limited c.args.task c.in-Some.sleeper (sym c.in-Some.ensures)).1

pub returns-in_default-waking-clause-answer : goal.returns-in_default-waking-clause-answer
returns-in_default-waking-clause-answer c =
    let sleeps : get c.args.self.now.state.asleep c.args.task ≡ Some c.in-Some.sleeper = ap (λ (w : View). get w.state.asleep c.args.task) (sym c.self.view_is) ∙ sym c.in-Some.ensures in
    sym (ap (λ (p : WakeAnswer × State). p.0) (stays_asleep c.args.self.now.state c.args.task c.in-Some.sleeper sleeps (sym c.in_default-waking.ensures)))

pub returns-in_default-waking-clause-after : goal.returns-in_default-waking-clause-after
returns-in_default-waking-clause-after c =
    let sleeps : get c.args.self.now.state.asleep c.args.task ≡ Some c.in-Some.sleeper = ap (λ (w : View). get w.state.asleep c.args.task) (sym c.self.view_is) ∙ sym c.in-Some.ensures in
    sym (ap (λ (p : WakeAnswer × State). p.1) (stays_asleep c.args.self.now.state c.args.task c.in-Some.sleeper sleeps (sym c.in_default-waking.ensures)))

pub rise-requires : goal.rise-requires
rise-requires c = record {
  here = ap is_some (ap (λ (w : View). get w.state.asleep c.args.task) (sym c.self.view_is) ∙ sym c.in-Some.ensures);
  in_range = waking_in_range c.args.self.now.state c.in-Some.sleeper (get c.args.self.now.state.places c.args.task) c.in-Some-waking.entry (sym c.in-Some-waking.ensures);
  due = waking_due c.args.self.now.state c.in-Some.sleeper (get c.args.self.now.state.places c.args.task) c.in-Some-waking.entry (sym c.in-Some-waking.ensures);
}

pub returns-clause-answer : goal.returns-clause-answer
returns-clause-answer c =
    let sleeps : get c.args.self.now.state.asleep c.args.task ≡ Some c.in-Some.sleeper = ap (λ (w : View). get w.state.asleep c.args.task) (sym c.self.view_is) ∙ sym c.in-Some.ensures in
    sym (ap (λ (p : WakeAnswer × State). p.0) (woken c.args.self.now.state c.args.task c.in-Some.sleeper c.in-Some-waking.entry sleeps (sym c.in-Some-waking.ensures)))

pub returns-clause-after : goal.returns-clause-after
returns-clause-after c =
    let sleeps : get c.args.self.now.state.asleep c.args.task ≡ Some c.in-Some.sleeper = ap (λ (w : View). get w.state.asleep c.args.task) (sym c.self.view_is) ∙ sym c.in-Some.ensures in
    c.rise.ensures.after
    ∙ sym (ap (λ (p : WakeAnswer × State). p.1) (woken c.args.self.now.state c.args.task c.in-Some.sleeper c.in-Some-waking.entry sleeps (sym c.in-Some-waking.ensures)))
