use Rattle.std.proofs.Common.{◌≡◌, Some, None, ap, ◌∙◌, sym}
use Rattle.std.specs.{Prelude.is_some, FinMap.get, FinMap.contains_key}
use Rattle.eevdf_queue.specs.{declared.answers.WakeAnswer.WakeAnswer, State.State, State.View}
use Rattle.eevdf_queue.specs.Wake.{waking_entry}
use Rattle.eevdf_queue.proofs.DueTasks.{waking_due}
use Rattle.eevdf_queue.proofs.Joining.{plainly, waking_in_range, stays_awake, stays_asleep, woken}
use Rattle.eevdf_queue.proofs.queue.Queue.wake.Goals as goal

pub returns-in_default-clause-answer : goal.returns-in_default-clause-answer
returns-in_default-clause-answer c =
    let gone : get c.args.self.now.state.asleep c.args.task ≡ None = ap (λ (w : View). get w.state.asleep c.args.task) (sym c.self.view_is) ∙ sym c.in_default.ensures in
    sym (ap (λ (p : WakeAnswer × State). p.0) (stays_awake c.args.self.now.state c.args.task gone))

pub returns-in_default-clause-after : goal.returns-in_default-clause-after
returns-in_default-clause-after c =
    let gone : get c.args.self.now.state.asleep c.args.task ≡ None = ap (λ (w : View). get w.state.asleep c.args.task) (sym c.self.view_is) ∙ sym c.in_default.ensures in
    sym (ap (λ (p : WakeAnswer × State). p.1) (stays_awake c.args.self.now.state c.args.task gone))

pub placed-requires : goal.placed-requires
placed-requires c =
    (c.keeps.ensures.limited c.args.task c.in-Some.sleeper (sym c.in-Some.ensures)).1

pub returns-in_default-placed-clause-answer : goal.returns-in_default-placed-clause-answer
returns-in_default-placed-clause-answer c =
    let sleeps : get c.args.self.now.state.asleep c.args.task ≡ Some c.in-Some.sleeper = ap (λ (w : View). get w.state.asleep c.args.task) (sym c.self.view_is) ∙ sym c.in-Some.ensures in
    sym (ap (λ (p : WakeAnswer × State). p.0) (stays_asleep c.args.self.now.state c.args.task c.in-Some.sleeper sleeps (plainly c.args.self.now.state c.in-Some.sleeper (get c.args.self.now.state.places c.args.task) (sym (c.dozes.ensures ∙ ap (λ (w : View). contains_key w.state.places c.args.task) c.self.view_is) ∙ c.if-dozes.false) ∙ sym c.in_default-placed.ensures)))

pub returns-in_default-placed-clause-after : goal.returns-in_default-placed-clause-after
returns-in_default-placed-clause-after c =
    let sleeps : get c.args.self.now.state.asleep c.args.task ≡ Some c.in-Some.sleeper = ap (λ (w : View). get w.state.asleep c.args.task) (sym c.self.view_is) ∙ sym c.in-Some.ensures in
    sym (ap (λ (p : WakeAnswer × State). p.1) (stays_asleep c.args.self.now.state c.args.task c.in-Some.sleeper sleeps (plainly c.args.self.now.state c.in-Some.sleeper (get c.args.self.now.state.places c.args.task) (sym (c.dozes.ensures ∙ ap (λ (w : View). contains_key w.state.places c.args.task) c.self.view_is) ∙ c.if-dozes.false) ∙ sym c.in_default-placed.ensures)))

pub rise-requires : goal.rise-requires
rise-requires c =
    let q : State = c.args.self.now.state in
    let s = c.in-Some.sleeper in
    let asleep : get q.asleep c.args.task ≡ Some s = ap (λ (w : View). get w.state.asleep c.args.task) (sym c.self.view_is) ∙ sym c.in-Some.ensures in
    let wakes : waking_entry q s (get q.places c.args.task) ≡ Some c.in-Some-placed.entry =
    plainly q s (get q.places c.args.task) (sym (c.dozes.ensures ∙ ap (λ (w : View). contains_key w.state.places c.args.task) c.self.view_is) ∙ c.if-dozes.false)
    ∙ sym c.in-Some-placed.ensures in
    record {
      here = ap is_some asleep;
      in_range = waking_in_range q s (get q.places c.args.task) c.in-Some-placed.entry wakes;
      due = waking_due q s (get q.places c.args.task) c.in-Some-placed.entry wakes;
    }

pub returns-clause-answer : goal.returns-clause-answer
returns-clause-answer c =
    let sleeps : get c.args.self.now.state.asleep c.args.task ≡ Some c.in-Some.sleeper = ap (λ (w : View). get w.state.asleep c.args.task) (sym c.self.view_is) ∙ sym c.in-Some.ensures in
    sym (ap (λ (p : WakeAnswer × State). p.0) (woken c.args.self.now.state c.args.task c.in-Some.sleeper c.in-Some-placed.entry sleeps (plainly c.args.self.now.state c.in-Some.sleeper (get c.args.self.now.state.places c.args.task) (sym (c.dozes.ensures ∙ ap (λ (w : View). contains_key w.state.places c.args.task) c.self.view_is) ∙ c.if-dozes.false) ∙ sym c.in-Some-placed.ensures)))

pub returns-clause-after : goal.returns-clause-after
returns-clause-after c =
    let sleeps : get c.args.self.now.state.asleep c.args.task ≡ Some c.in-Some.sleeper = ap (λ (w : View). get w.state.asleep c.args.task) (sym c.self.view_is) ∙ sym c.in-Some.ensures in
    c.rise.ensures.after
    ∙ sym (ap (λ (p : WakeAnswer × State). p.1) (woken c.args.self.now.state c.args.task c.in-Some.sleeper c.in-Some-placed.entry sleeps (plainly c.args.self.now.state c.in-Some.sleeper (get c.args.self.now.state.places c.args.task) (sym (c.dozes.ensures ∙ ap (λ (w : View). contains_key w.state.places c.args.task) c.self.view_is) ∙ c.if-dozes.false) ∙ sym c.in-Some-placed.ensures)))
