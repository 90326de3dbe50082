-- A sleeping task's lag is within its limit.
use Rattle.std.proofs.Common.{◌≡◌, ℕ, ◌≤◌, true, Option, Some, None, refl, sym, subst, arith}
use Rattle.std.specs.Prelude.{ℤ, IfSome, unsigned_abs}
use Rattle.std.specs.FinMap.{get}
use Rattle.std.proofs.lemmas.Bool.Decides.{nat_tests}
use Rattle.eevdf_weight.specs.{Weight.weight_of, Charge.lag_limit_of}
use Rattle.eevdf_queue.specs.{declared.entry.Entry.Entry, State.State, State.Sleeper, Kept.AreLimited}
use Rattle.eevdf_queue.specs.Lag.{is_lag, sleeping_lag, limit_by, limit_at}

within : (s : Sleeper) → is_lag s.lag s.nice s.slice ≡ true → unsigned_abs s.lag ≤ lag_limit_of s.slice (weight_of s.nice)
within s h = grind (arith, nat_tests)

by_sleeper : (o : Option Sleeper) → ((s : Sleeper) → o ≡ Some s → is_lag s.lag s.nice s.slice ≡ true) → IfSome (sleeping_lag o) (λ lag. unsigned_abs lag ≤ limit_by None o)
by_sleeper None h = tt
by_sleeper (Some s) h = within s (h s refl)

pub sleeping_limited : (q : State) (task : ℕ) (r : Option ℤ) → get q.runnable task ≡ None → AreLimited q.asleep → r ≡ sleeping_lag (get q.asleep task)
    → IfSome r (λ lag. unsigned_abs lag ≤ limit_at q task)
sleeping_limited q task r none h e =
    subst (λ (o : Option ℤ). IfSome o (λ lag. unsigned_abs lag ≤ limit_at q task)) (sym e)
    (subst (λ (o : Option Entry). IfSome (sleeping_lag (get q.asleep task)) (λ lag. unsigned_abs lag ≤ limit_by o (get q.asleep task))) (sym none)
    (by_sleeper (get q.asleep task) (λ s k. (h task s k).1)))
