-- Where the tasks of a queue end one by one, none is left.
use Rattle.std.proofs.Common.{◌≡◌, ℕ, suc, ◌+◌, ◌<◌, Bool, true, false, cond, refl, sym, ap, ◌∙◌, arith}
use Rattle.std.specs.Prelude.{◌==◌, is_some, Option, Some, None}
use Rattle.std.specs.{Cmp.nat_cmp_total, Cmp.unsigned_tied, Ordering.nat_cmp}
use Rattle.std.specs.FinMap.{FinMap, remove, get, get-empty, get-remove, same_map, nat_cmp-IsAntisymmetric}
use Rattle.std.proofs.lemmas.Bool.Decides.{nat_tests}
use Rattle.eevdf_queue.specs.{declared.entry.Entry.Entry, State.State, declared.sleeper.Sleeper.Sleeper, Numbers.number_limit, Numbers.checked_number}
use Rattle.eevdf_queue.specs.{Kept.IsKept, Kept.AreApart, Kept.RunnerIsHere}
use Rattle.eevdf_queue.proofs.Ascending.{numbered}
use Rattle.eevdf_c.specs.Leaving.{carried_by, gone_by, end_with, end_by, ended_below, AreGone, IsEmptied}

earlier : (t k : ℕ) → (t == k) ≡ false → t < k + 1 → t < k
earlier t k e h = grind (arith, nat_tests)

same : (t k : ℕ) → (t == k) ≡ true → t ≡ k
same t k e = grind (arith, nat_tests)

removed_by : {X : Type 0} (m : FinMap nat_cmp X) (k t : ℕ) (b : Bool) → (t == k) ≡ b → (t < k → get m t ≡ None) → t < k + 1
    → cond b None (get m t) ≡ None
removed_by m k t true e h l = refl
removed_by m k t false e h l = h (earlier t k e l)

removed : {X : Type 0} (m : FinMap nat_cmp X) (k t : ℕ) → (t < k → get m t ≡ None) → t < k + 1 → get (remove m k) t ≡ None
removed m k t h l =
    get-remove nat_cmp_total m k t ∙ ap (λ (b : Bool). cond b None (get m t)) (unsigned_tied t k) ∙ removed_by m k t (t == k) refl h l

none_by : {X : Type 0} (m : FinMap nat_cmp X) (k t : ℕ) (b : Bool) → (t == k) ≡ b → (t < k → get m t ≡ None) → get m k ≡ None → t < k + 1
    → get m t ≡ None
none_by m k t true e h none l = ap (get m) (same t k e) ∙ none
none_by m k t false e h none l = h (earlier t k e l)

-- no task up to a number has an entry where none below has one, nor the task of the number
none_next : {X : Type 0} (m : FinMap nat_cmp X) (k t : ℕ) → (t < k → get m t ≡ None) → get m k ≡ None → t < k + 1 → get m t ≡ None
none_next m k t = none_by m k t (t == k) refl

module _ (q : State) (k : ℕ) (apart : AreApart q.runnable q.asleep) (gone : AreGone q k) where
  step : (r : Option Entry) (s : Option Sleeper) → get q.runnable k ≡ r → get q.asleep k ≡ s
      → AreGone (end_with q (carried_by q k r s) (gone_by q k r s)).1 (k + 1)
  step (Some e) s here rests t l = record {
    not_runnable = removed q.runnable k t (λ b. (gone t b).not_runnable) l;
    not_asleep = none_next q.asleep k t (λ b. (gone t b).not_asleep) (apart k (ap is_some here)) l;
  }
  step None (Some s) here rests t l = record {
    not_runnable = none_next q.runnable k t (λ b. (gone t b).not_runnable) here l;
    not_asleep = removed q.asleep k t (λ b. (gone t b).not_asleep) l;
  }
  step None None here rests t l = record {
    not_runnable = none_next q.runnable k t (λ b. (gone t b).not_runnable) here l;
    not_asleep = none_next q.asleep k t (λ b. (gone t b).not_asleep) rests l;
  }

-- the task of the next number is gone once it has ended
gone_next : (q : State) (k : ℕ) → IsKept q → AreGone q k → AreGone (end_by q (Some k)).1 (k + 1)
gone_next q k kept gone = step q k kept.sound.apart gone (get q.runnable k) (get q.asleep k) refl refl

-- the same of a queue that a call has left so
pub gone_after : (q after : State) (n t : ℕ) (number : Option ℕ) → number ≡ checked_number n → number ≡ Some t → after ≡ (end_by q (Some t)).1
    → IsKept q → AreGone q n → AreGone after (n + 1)
gone_after q after n t number given is left kept gone =
    let same : t ≡ n = numbered n t (sym given ∙ is) in
    rw (left, same) (gone_next q n kept gone)

none_of : {X : Type 0} (o : Option X) → ((x : X) → o ≡ Some x → ⊥) → o ≡ None
none_of None h = refl
none_of (Some x) h = absurd (h x refl)

differ : true ≡ false → ⊥
differ e = grind arith

clash : {X : Type 0} {o : Option X} {x : X} → o ≡ Some x → o ≡ None → ⊥
clash {X} {o} {x} here none = differ (ap is_some (sym here ∙ none))

nobody : (q : State) (r : Option ℕ) → RunnerIsHere q.runnable r → ((t : ℕ) → get q.runnable t ≡ None) → r ≡ None
nobody q None h none = refl
nobody q (Some t) h none = absurd (differ (sym h ∙ ap is_some (none t)))

-- a queue that has no task of a number that a task may have is empty
pub emptied : (q : State) → IsKept q → AreGone q number_limit → IsEmptied q
emptied q kept gone =
    let runnable : (t : ℕ) → get q.runnable t ≡ None = λ t. none_of (get q.runnable t) (λ e here. clash here (gone t (kept.in_range t e here).0).not_runnable) in
    let asleep : (t : ℕ) → get q.asleep t ≡ None = λ t. none_of (get q.asleep t) (λ s here. clash here (gone t (kept.limited t s here).0).not_asleep) in
    let places : (t : ℕ) → get q.places t ≡ None =
    λ t. none_of (get q.places t) (λ place here. differ (sym (kept.placed t (ap is_some here)) ∙ ap is_some (asleep t))) in
    record {
      runnable = same_map nat_cmp_total nat_cmp-IsAntisymmetric _ _ (λ t. runnable t ∙ sym (get-empty nat_cmp t));
      asleep = same_map nat_cmp_total nat_cmp-IsAntisymmetric _ _ (λ t. asleep t ∙ sym (get-empty nat_cmp t));
      running = nobody q q.running kept.sound.runs runnable;
      places = same_map nat_cmp_total nat_cmp-IsAntisymmetric _ _ (λ t. places t ∙ sym (get-empty nat_cmp t));
    }

pub ended_next : (q : State) (k : ℕ) → ended_below q (k + 1) ≡ (end_by (ended_below q k) (Some k)).1
unfolding ended_below
ended_next q k = let e : k + 1 ≡ suc k = omega arith in rw e refl

pub ended_first : (q : State) → ended_below q 0 ≡ q
unfolding ended_below
ended_first q = refl
