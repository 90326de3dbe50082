-- Where a task gets another slice for its next request, bounds stay true.
use Rattle.std.proofs.Common.{◌≡◌, ℕ, Option, Some, None, refl, sym, subst}
use Rattle.std.specs.Prelude.{ℤ, ◌+ℤ◌, ◌≤ℤ◌}
use Rattle.std.specs.FinMap.{get, insert}
use Rattle.eevdf_queue.specs.{declared.entry.Entry.Entry, declared.sleeper.Sleeper.Sleeper, State.State}
use Rattle.eevdf_queue.specs.SliceChange.{set_slice, set_entry_slice, set_sleeper_slice}
use Rattle.eevdf_fairness.proofs.Growing.{found_at_after}
use Rattle.eevdf_fair_queue.specs.{declared.bounds.Bounds.Bounds, Fair.IsFair, Fair.IsNear}
use Rattle.eevdf_fair_queue.proofs.Keeping.{fewer}

-- an entry of the queue that differs in its slice alone
record IsLike (q : State) (t : ℕ) (x : Entry) : Type 0 where
  entry : Entry
  here : get q.runnable t ≡ Some entry
  same_v : x.v ≡ entry.v
  same_d : x.d ≡ entry.d

all_like : (q r : State) (b : Bounds) → IsFair q b → ((t : ℕ) (x : Entry) → get r.runnable t ≡ Some x → IsLike q t x)
    → ((t : ℕ) → r.running ≡ Some t → q.running ≡ Some t) → IsFair r b
all_like q r b fair like ran = record {
  due = λ t x at.
      let e = like t x at in
      subst (λ (z : ℤ). z ≤ℤ x.d) (sym e.same_v) (subst (λ (z : ℤ). e.entry.v ≤ℤ z) (sym e.same_d) (fair.due t e.entry e.here));
  longest = fair.longest;
  behind = λ t x at. let e = like t x at in subst (λ (z : ℤ). z ≤ℤ b.furthest) (sym e.same_v) (fair.behind t e.entry e.here);
  near = λ t x at. let e = like t x at in subst (IsNear b b.furthest) (sym e.same_d) (fair.near t e.entry e.here);
  turn = λ turn is. record {
    some = (fair.turn turn is).some;
    past = λ t u x y runs at there.
        let e = like t x at in
        let f = like u y there in
        subst (λ (z : ℤ). z ≤ℤ (y.d +ℤ turn)) (sym e.same_v)
        (subst (λ (z : ℤ). e.entry.v ≤ℤ (z +ℤ turn)) (sym f.same_d) ((fair.turn turn is).past t u e.entry f.entry (ran t runs) e.here f.here));
  };
}

as_it_is : (q : State) (t : ℕ) (x : Entry) → get q.runnable t ≡ Some x → IsLike q t x
as_it_is q t x at = record { entry = x; here = at; same_v = refl; same_d = refl }

sleeper_keeps : (q : State) (b : Bounds) (task slice : ℕ) (o : Option Sleeper) → IsFair q b → IsFair (set_sleeper_slice q task slice o) b
sleeper_keeps q b task slice None fair = fair
sleeper_keeps q b task slice (Some s) fair = fewer q _ b fair (λ t x at. at) (λ t runs. runs)

pub slice_keeps : (q : State) (b : Bounds) (task slice : ℕ) → IsFair q b → IsFair (set_slice q task slice) b
slice_keeps q b task slice fair =
    by (get q.runnable task) refl
  where
    by : (o : Option Entry) → get q.runnable task ≡ o → IsFair (set_entry_slice q task slice o) b
    by None here = sleeper_keeps q b task slice (get q.asleep task) fair
    by (Some e) here =
        all_like q (record q { runnable = insert q.runnable task (record e { slice = slice }) }) b fair
        (found_at_after (IsLike q) q.runnable task (record e { slice = slice })
        (record { entry = e; here = here; same_v = refl; same_d = refl }) (as_it_is q)) (λ t runs. runs)
