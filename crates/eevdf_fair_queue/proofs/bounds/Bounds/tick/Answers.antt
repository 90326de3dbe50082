use Rattle.std.proofs.Common.{◌≡◌, ℕ, Bool, true, Option, Some, None, refl, ap, ◌∙◌, subst, sym}
use Rattle.std.specs.{Prelude.IfSome, FinMap.get}
use Rattle.eevdf_weight.specs.Limits.{is_in_range}
use Rattle.eevdf_queue.specs.{declared.entry.Entry.Entry, State.State, Kept.AreInRange, declared.answers.TickAnswer.TickAnswer, Tick.tick, Tick.running_entry, Tick.entry_of_runner}
use Rattle.eevdf_queue.specs.declared.answers.TickAnswer.TheVariants.{Charged, Idle, Range}
use Rattle.eevdf_queue.proofs.Bounds.{range_v}
use Rattle.eevdf_fair_queue.specs.{declared.bounds.Bounds.Bounds, Bounds.charged_from, Fair.charged_by}
use Rattle.eevdf_fair_queue.proofs.{Keeping.fair_of, Running.tick_keeps, Running.charged_before}
use Rattle.eevdf_fair_queue.proofs.bounds.Bounds.tick.Goals as goal
use Rattle.eevdf_fair_queue.proofs.bounds.Bounds.tick.Goals.{After-charge_from}

-- whoever runs is in range
runner_in_range : (q : State) → AreInRange q.runnable → (o : Option Entry) → o ≡ running_entry q → IfSome o (λ e. is_in_range e.v ≡ true)
runner_in_range q in_range o is = subst (λ (x : Option Entry). IfSome x (λ e. is_in_range e.v ≡ true)) (sym is) (by q.running)
  where
    by_entry : (t : ℕ) (x : Option Entry) → get q.runnable t ≡ x → IfSome x (λ e. is_in_range e.v ≡ true)
    by_entry t None here = tt
    by_entry t (Some e) here = range_v e (in_range t e here).1

    by : (r : Option ℕ) → IfSome (entry_of_runner q r) (λ e. is_in_range e.v ≡ true)
    by None = tt
    by (Some t) = by_entry t (get q.runnable t) refl

not_charged : (b : Bounds) (ns : ℕ) (r : State) (a : TickAnswer) → ((task : ℕ) (resched : Bool) → a ≡ Charged task resched → ⊥) → b ≡ charged_by b ns a r
not_charged b ns r (Charged task resched) not = absurd (not task resched refl)
not_charged b ns r Idle not = refl
not_charged b ns r Range not = refl

pub charge_from-requires : goal.charge_from-requires
charge_from-requires c =
    runner_in_range c.args.queue.now.state c.every_queue.ensures.in_range c.tick_from-answer.result.before c.tick_from-answer.ensures.before

-- the bounds are those after the charge of who is charged
tallied : (c : After-charge_from) → c.charge_from.new.self
    ≡ charged_by c.args.self.now c.args.ns (tick c.args.queue.now.state c.args.ns).0 (tick c.args.queue.now.state c.args.ns).1
tallied c =
    c.charge_from.ensures ∙ ap (charged_from c.args.self.now c.args.ns) c.tick_from-answer.ensures.before
    ∙ sym (charged_before c.args.queue.now.state c.args.self.now c.args.ns c.in-Charged.task c.in-Charged.resched
    (sym c.tick_from-answer.ensures.answer ∙ c.in-Charged.is))

pub returns-in-Charged-clause-fair : goal.returns-in-Charged-clause-fair
returns-in-Charged-clause-fair c = λ fair.
    fair_of _ _ _ _ c.tick_from-answer.ensures.after (tallied (goal.at.returns-in-Charged-clause-fair c).After-charge_from)
    (tick_keeps c.args.queue.now.state c.args.self.now c.args.ns c.every_queue.ensures fair
    (subst (λ (x : State). AreInRange x.runnable) c.tick_from-answer.ensures.after c.every_queue-2.ensures.in_range))

pub returns-in_default-clause-fair : goal.returns-in_default-clause-fair
returns-in_default-clause-fair c = λ fair.
    let q = c.args.queue.now.state in
    let b = c.args.self.now in
    fair_of _ _ _ _ c.tick_from-answer.ensures.after
    (not_charged b c.args.ns (tick q c.args.ns).1 (tick q c.args.ns).0 (λ task resched is. c.in_default.not-Charged task resched (c.tick_from-answer.ensures.answer ∙ is)))
    (tick_keeps q b c.args.ns c.every_queue.ensures fair
    (subst (λ (x : State). AreInRange x.runnable) c.tick_from-answer.ensures.after c.every_queue-2.ensures.in_range))

pub returns-in-Charged-clause-bounds : goal.returns-in-Charged-clause-bounds
returns-in-Charged-clause-bounds c =
    let q = c.args.queue.now.state in
    let b = c.args.self.now in
    tallied (goal.at.returns-in-Charged-clause-bounds c).After-charge_from
    ∙ ap (λ (a : TickAnswer). charged_by b c.args.ns a (tick q c.args.ns).1) (sym c.tick_from-answer.ensures.answer)
    ∙ ap (charged_by b c.args.ns c.tick_from-answer.result.answer) (sym c.tick_from-answer.ensures.after)
