use Rattle.std.proofs.Common.{◌≡◌, ℕ, true, Option, Some, None, refl, subst, sym}
use Rattle.std.specs.{Prelude.IfSome, FinMap.get}
use Rattle.eevdf_weight.specs.Limits.{is_in_range}
use Rattle.eevdf_queue.specs.{declared.entry.Entry.Entry, State.State, Kept.AreInRange, Tick.running_entry, Tick.entry_of_runner}
use Rattle.eevdf_queue.proofs.Bounds.{range_v}
use Rattle.eevdf_figures.proofs.lateness.charged.Goals as goal

-- whoever runs is in range
runner_in_range : (q : State) → AreInRange q.runnable → (o : Option Entry) → o ≡ running_entry q → IfSome o (λ e. is_in_range e.v ≡ true)
runner_in_range q in_range o is = subst (λ (x : Option Entry). IfSome x (λ e. is_in_range e.v ≡ true)) (sym is) (by q.running)
  where
    by_entry : (t : ℕ) (x : Option Entry) → get q.runnable t ≡ x → IfSome x (λ e. is_in_range e.v ≡ true)
    by_entry t None here = tt
    by_entry t (Some e) here = range_v e (in_range t e here).1

    by : (r : Option ℕ) → IfSome (entry_of_runner q r) (λ e. is_in_range e.v ≡ true)
    by None = tt
    by (Some t) = by_entry t (get q.runnable t) refl

pub charge_from-requires : goal.charge_from-requires
charge_from-requires c =
    runner_in_range c.args.queue.now.state c.every_queue.ensures.in_range c.running_entry.result c.running_entry.ensures
