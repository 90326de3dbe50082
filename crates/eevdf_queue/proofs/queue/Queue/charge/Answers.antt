use Rattle.std.proofs.Common.{◌≡◌, ℕ, Bool, true, false, cond, Option, Some, sym, ap, ◌∙◌}
use Rattle.std.specs.{Prelude.is_some, FinMap.get, FinMap.insert, FinMap.contains_key}
use Rattle.eevdf_queue.specs.{declared.answers.TickAnswer.TickAnswer, declared.entry.Entry.Entry, State.State, State.View}
use Rattle.eevdf_queue.specs.{Moves.is_entry_in_range}
use Rattle.eevdf_queue.specs.Tick.{charged, is_used_up, tick, tick_entry, tick_running}
use Rattle.eevdf_queue.specs.declared.answers.TickAnswer.TheVariants.{Charged, Range}
use Rattle.eevdf_queue.proofs.{DueTasks.charged_in_time, DueTasks.due_written, Sound.entry_written, Sound.sound_change}
use Rattle.eevdf_queue.proofs.queue.Queue.charge.Goals as goal

-- what comes of a charge, by whether it leads out of range
ticked : (q : State) (task ns : ℕ) (e : Entry) (b : Bool) → Some task ≡ q.running → get q.runnable task ≡ Some e → is_entry_in_range (charged e ns) ≡ b
    → tick q ns ≡ cond b (Charged task (is_used_up e ns), record q { runnable = insert q.runnable task (charged e ns) }) (Range, q)
ticked q task ns e b runs here is =
    ap (λ (r : Option ℕ). tick_running q r ns) (sym runs)
    ∙ ap (λ (o : Option Entry). tick_entry q task o ns) here
    ∙ ap (λ (t : Bool). cond t (Charged task (is_used_up e ns), record q { runnable = insert q.runnable task (charged e ns) }) (Range, q)) is

pub returns-then-not-charged-clause-answer : goal.returns-then-not-charged-clause-answer
returns-then-not-charged-clause-answer c =
    let e = c.args.runner.entry in
    let is : is_entry_in_range (charged e c.args.ns) ≡ true =
    ap is_entry_in_range (sym c.charged-charged.ensures.entry) ∙ c.charged-charged.ensures.kept c.if-not-charged.true in
    ap (Charged c.args.runner.task) (sym c.if-not-charged.true ∙ c.charged-charged.ensures.resched)
    ∙ sym (ap (λ (p : TickAnswer × State). p.0) (ticked c.args.self.now.state c.args.runner.task c.args.ns e true c.requires.runs c.requires.here is))

pub returns-then-not-charged-clause-after : goal.returns-then-not-charged-clause-after
returns-then-not-charged-clause-after c =
    let task = c.args.runner.task in
    let e = c.args.runner.entry in
    let is : is_entry_in_range (charged e c.args.ns) ≡ true =
    ap is_entry_in_range (sym c.charged-charged.ensures.entry) ∙ c.charged-charged.ensures.kept c.if-not-charged.true in
    entry_written _ _ _ _ _ _ _ task (charged e c.args.ns) _ _ c.age.ensures c.charged-charged.ensures.entry (ap (λ (w : View). w.state) c.self.view_is)
    ∙ sym (ap (λ (p : TickAnswer × State). p.1) (ticked c.args.self.now.state task c.args.ns e true c.requires.runs c.requires.here is))

pub returns-then-not-is_deadline_in_range-clause-answer : goal.returns-then-not-is_deadline_in_range-clause-answer
returns-then-not-is_deadline_in_range-clause-answer c =
    let e = c.args.runner.entry in
    let out : is_entry_in_range (charged e c.args.ns) ≡ false =
    ap is_entry_in_range (sym c.charged-charged.ensures.entry) ∙ sym (c.charged-charged.ensures.renewed c.if-not-charged.false) ∙ sym c.is_deadline_in_range.ensures ∙ c.if-not-is_deadline_in_range.true in
    sym (ap (λ (p : TickAnswer × State). p.0) (ticked c.args.self.now.state c.args.runner.task c.args.ns e false c.requires.runs c.requires.here out))

pub returns-then-not-is_deadline_in_range-clause-after : goal.returns-then-not-is_deadline_in_range-clause-after
returns-then-not-is_deadline_in_range-clause-after c =
    let e = c.args.runner.entry in
    let out : is_entry_in_range (charged e c.args.ns) ≡ false =
    ap is_entry_in_range (sym c.charged-charged.ensures.entry) ∙ sym (c.charged-charged.ensures.renewed c.if-not-charged.false) ∙ sym c.is_deadline_in_range.ensures ∙ c.if-not-is_deadline_in_range.true in
    sym (ap (λ (p : TickAnswer × State). p.1) (ticked c.args.self.now.state c.args.runner.task c.args.ns e false c.requires.runs c.requires.here out))

pub renew-requires-clause-in_range : goal.renew-requires-clause-in_range
renew-requires-clause-in_range c =
    sym (c.charged-charged.ensures.renewed c.if-not-charged.false) ∙ sym c.is_deadline_in_range.ensures ∙ c.if-not-is_deadline_in_range.false

pub invariant_of-self : goal.invariant_of-self
invariant_of-self c =
    (sound_change _ _ _ _ _ _ _ c.age.ensures (ap (λ (v : View). contains_key v.state.runnable c.args.runner.task) c.self.view_is ∙ ap is_some c.requires.here) c.self.invariant.0, c.self.invariant.1, c.self.invariant.2, due_written _ _ _ _ c.age.ensures (charged_in_time _ _ _ c.charged-charged.ensures.entry) c.self.invariant.3)

pub invariant_of-self-2 : goal.invariant_of-self-2
invariant_of-self-2 c =
    (sound_change _ _ _ _ _ _ _ c.renew.ensures (ap (λ (v : View). contains_key v.state.runnable c.args.runner.task) c.self.view_is ∙ ap is_some c.requires.here) c.self.invariant.0, c.self.invariant.1, c.self.invariant.2, due_written _ _ _ _ c.renew.ensures (charged_in_time _ _ _ c.charged-charged.ensures.entry) c.self.invariant.3)

pub returns-clause-answer : goal.returns-clause-answer
returns-clause-answer c =
    let e = c.args.runner.entry in
    let is : is_entry_in_range (charged e c.args.ns) ≡ true =
    ap is_entry_in_range (sym c.charged-charged.ensures.entry) ∙ sym (c.charged-charged.ensures.renewed c.if-not-charged.false) ∙ sym c.is_deadline_in_range.ensures ∙ c.if-not-is_deadline_in_range.false in
    ap (Charged c.args.runner.task) (sym c.if-not-charged.false ∙ c.charged-charged.ensures.resched)
    ∙ sym (ap (λ (p : TickAnswer × State). p.0) (ticked c.args.self.now.state c.args.runner.task c.args.ns e true c.requires.runs c.requires.here is))

pub returns-clause-after : goal.returns-clause-after
returns-clause-after c =
    let task = c.args.runner.task in
    let e = c.args.runner.entry in
    let is : is_entry_in_range (charged e c.args.ns) ≡ true =
    ap is_entry_in_range (sym c.charged-charged.ensures.entry) ∙ sym (c.charged-charged.ensures.renewed c.if-not-charged.false) ∙ sym c.is_deadline_in_range.ensures ∙ c.if-not-is_deadline_in_range.false in
    entry_written _ _ _ _ _ _ _ task (charged e c.args.ns) _ _ c.renew.ensures c.charged-charged.ensures.entry (ap (λ (w : View). w.state) c.self.view_is)
    ∙ sym (ap (λ (p : TickAnswer × State). p.1) (ticked c.args.self.now.state task c.args.ns e true c.requires.runs c.requires.here is))
