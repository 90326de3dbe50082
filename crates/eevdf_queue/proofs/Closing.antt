-- Tasks taken out one by one.
use Rattle.std.proofs.Common.{◌≡◌, ℕ, zero, suc, ◌+◌, ◌-◌, ◌≤◌, Bool, true, false, cond, List, [], ◌∷◌, Option, Some, None, refl, sym, ap, subst, ◌∙◌, length, arith}
use Rattle.std.specs.Prelude.{ℤ, map, is_some, ◌↔◌, IsNone}
use Rattle.std.specs.{Ordering.nat_cmp, Cmp.nat_cmp_total}
use Rattle.std.specs.FinMap.{FinMap, empty, get, remove, len, entries, find, contains_key, get-empty, get-entries, len-remove, len-entries, empty_of_len}
use Rattle.eevdf_queue.specs.{declared.entry.Entry.Entry, State.State, State.Sleeper, State.Contents, Ascending.with_lag, Ascending.sleeping_tasks}
use Rattle.eevdf_queue.specs.Leaving.{leave, without_entry, leave_asleep, without_sleeper}
use Rattle.eevdf_queue.specs.Closing.{task_count}
use Rattle.eevdf_queue.proofs.{Foremost.head}

module _ {X : Type 0} (m : FinMap nat_cmp X) where
  some_of : (t n : ℕ) → len m ≡ n → contains_key m t ≡ true → 1 ≤ len m
  some_of t zero e h =
      let none : contains_key m t ≡ false = ap (λ (z : FinMap nat_cmp X). contains_key z t) (empty_of_len m e) ∙ ap is_some (get-empty nat_cmp t) in cc
  some_of t (suc n) e h = omega (arith, e)

  pub one_fewer : (t : ℕ) → contains_key m t ≡ true → len m ≡ suc (len (remove m t))
  one_fewer t h =
      let fewer : len (remove m t) ≡ len m - 1 = len-remove nat_cmp_total m t ∙ ap (λ (b : Bool). cond b (len m - 1) (len m)) h in
      let some = some_of t (len m) refl h in
      omega (arith, fewer, some)

fewer_by : (q r : State) (t : ℕ) (o : Option Entry) → get q.runnable t ≡ o → is_some o ≡ true → r ≡ without_entry q t o → task_count q ≡ suc (task_count r)
fewer_by q r t None e h is = cc
fewer_by q r t (Some x) e h is =
    let one = one_fewer q.runnable t (ap is_some e) in
    let count : task_count r ≡ len (remove q.runnable t) + len q.asleep = ap task_count is in
    omega (arith, one, count)

pub fewer_runnable : (q r : State) (t : ℕ) → contains_key q.runnable t ≡ true → r ≡ leave q t → task_count q ≡ suc (task_count r)
fewer_runnable q r t h is = fewer_by q r t (get q.runnable t) refl h is

fewer_asleep_by : (q r : State) (t : ℕ) (o : Option Sleeper) → get q.asleep t ≡ o → is_some o ≡ true → r ≡ without_sleeper q t o → task_count q ≡ suc (task_count r)
fewer_asleep_by q r t None e h is = cc
fewer_asleep_by q r t (Some x) e h is =
    let one = one_fewer q.asleep t (ap is_some e) in
    let count : task_count r ≡ len q.runnable + len (remove q.asleep t) = ap task_count is in
    omega (arith, one, count)

pub fewer_asleep : (q r : State) (t : ℕ) → contains_key q.asleep t ≡ true → r ≡ leave_asleep q t → task_count q ≡ suc (task_count r)
fewer_asleep q r t h is = fewer_asleep_by q r t (get q.asleep t) refl h is

there_by : (es : List (ℕ × Sleeper)) (f : ℕ × ℤ) (rest : List (ℕ × ℤ)) → map with_lag es ≡ f ∷ rest → is_some (find nat_cmp f.0 es) ≡ true
there_by [] f rest h = cc
there_by (e ∷ es) f rest h =
    let same : with_lag e ≡ f = cc in
    subst (λ (n : ℕ). is_some (find nat_cmp n (e ∷ es)) ≡ true) (ap (λ (z : ℕ × ℤ). z.0) same) (ap is_some (head e es))

-- the sleeping task of lowest number
pub first_there : (q : State) (f : ℕ × ℤ) (rest : List (ℕ × ℤ)) → sleeping_tasks q ≡ f ∷ rest → contains_key q.asleep f.0 ≡ true
first_there q f rest h = ap is_some (get-entries q.asleep f.0) ∙ there_by (entries q.asleep) f rest h

none_in : (es : List (ℕ × Sleeper)) → map with_lag es ≡ [] → length es ≡ 0
none_in [] h = refl
none_in (e ∷ es) h = cc

pub none_asleep : (q : State) → sleeping_tasks q ≡ [] → q.asleep ≡ empty
none_asleep q h = empty_of_len q.asleep (len-entries q.asleep ∙ none_in (entries q.asleep) h)

-- no parcel comes exactly where none sleeps
pub none_where : (q : State) (t : ℕ) (r : Option Contents) → contains_key q.asleep t ≡ true → IsNone r ↔ (contains_key q.asleep t ≡ false) → IsNone r ↔ (q.asleep ≡ empty)
none_where q t r h k = (
  λ n. absurd (let not : contains_key q.asleep t ≡ false = k.0 n in let no : true ≡ false = sym h ∙ not in cc),
  λ e. k.1 (ap (λ (z : FinMap nat_cmp Sleeper). contains_key z t) e ∙ ap is_some (get-empty nat_cmp t)),
)
