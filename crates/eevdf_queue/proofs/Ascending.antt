-- To look the numbers up in turn is to go over a map's entries.
use Rattle.std.proofs.Common.{◌≡◌, ℕ, ◌+◌, ◌<◌, ◌≤◌, List, [], ◌∷◌, length, Option, Some, None, refl, sym, ap, ◌∙◌, arith}
use Rattle.std.specs.Ordering.{nat_cmp}
use lib.Dec.{T}
use Rattle.std.specs.FinMap as finite
use Rattle.std.specs.FinMap.Entries.{find, is_sorted, below_all}
use Rattle.std.proofs.{lemmas.Bool.Decides.nat_tests, lemmas.List.length-map}
use Rattle.std.specs.Prelude.{ℤ, map}
use Rattle.eevdf_queue.proofs.{ListMaps.same_number, SortedEntries.first_above, SortedEntries.sorted_parts, SortedEntries.none_found}
use Rattle.eevdf_queue.specs.{State.Sleeper, Numbers.checked_number, Lag.sleeping_lag, Ascending.from_number, Ascending.with_lag}

module _ {X : Type 0} where
  abbrev with_found : ℕ → Option X → List (ℕ × X) → List (ℕ × X)
  with_found k None es = es
  with_found k (Some x) es = (k, x) ∷ es

  all_above : (n x : ℕ) (es : List (ℕ × X)) → T (below_all nat_cmp x es) → n ≤ x + 1 → from_number n es ≡ es
  all_above n x [] h l = refl
  all_above n x (e ∷ es) h l = let above = first_above x e es h in grind (arith, nat_tests, above.0)

  -- from a number on there are the entry at it and those from the next number on
  one_step : (k : ℕ) (es : List (ℕ × X)) → T (is_sorted nat_cmp es) → from_number k es ≡ with_found k (find nat_cmp k es) (from_number (k + 1) es)
  one_step k [] s = refl
  one_step k (e ∷ es) s =
      let parts = sorted_parts e es s in
      grind (arith, nat_tests, same_number k e.0, all_above (k + 1) e.0 es parts.0, none_found k e.0 es parts.0, one_step k es parts.1)

  pub none_here : (k : ℕ) (m : finite.FinMap nat_cmp X) → finite.get m k ≡ None → from_number k (finite.entries m) ≡ from_number (k + 1) (finite.entries m)
  none_here k m h =
      one_step k (finite.entries m) (finite.entries_sorted m)
      ∙ ap (λ (o : Option X). with_found k o (from_number (k + 1) (finite.entries m))) (sym (finite.get-entries m k) ∙ h)

  pub one_here : (k : ℕ) (x : X) (m : finite.FinMap nat_cmp X) → finite.get m k ≡ Some x → from_number k (finite.entries m) ≡ (k, x) ∷ from_number (k + 1) (finite.entries m)
  one_here k x m h =
      one_step k (finite.entries m) (finite.entries_sorted m)
      ∙ ap (λ (o : Option X). with_found k o (from_number (k + 1) (finite.entries m))) (sym (finite.get-entries m k) ∙ h)

  other : (k : ℕ) (e : ℕ × X) (es : List (ℕ × X)) → find nat_cmp k (e ∷ es) ≡ None → find nat_cmp k es ≡ None
  other k e es h = grind (arith, nat_tests, same_number k e.0)

  -- no entry is left where each stands below
  none_left : (n : ℕ) (es : List (ℕ × X)) → ((k : ℕ) → n ≤ k → find nat_cmp k es ≡ None) → from_number n es ≡ []
  none_left n [] h = refl
  none_left n (e ∷ es) h =
      grind (arith, nat_tests, same_number e.0 e.0, h e.0, none_left n es (λ k b. other k e es (h k b)))

  none_from : (n : ℕ) (m : finite.FinMap nat_cmp X) → ((t : ℕ) (x : X) → finite.get m t ≡ Some x → t < n) → (k : ℕ) → n ≤ k → finite.get m k ≡ None
  none_from n m h k l =
      elim (finite.get m k) as (λ o. finite.get m k ≡ o → finite.get m k ≡ None) [
        | None ↦ λ e. e
        | Some x ↦ λ e. let below_n : k < n = h k x e in absurd (omega arith)
      ] refl

  pub at_end : (n : ℕ) (m : finite.FinMap nat_cmp X) → ((t : ℕ) (x : X) → finite.get m t ≡ Some x → t < n) → from_number n (finite.entries m) ≡ []
  at_end n m h = none_left n (finite.entries m) (λ k b. sym (finite.get-entries m k) ∙ none_from n m h k b)

  pub from_start : (es : List (ℕ × X)) → from_number 0 es ≡ es
  from_start [] = refl
  from_start (e ∷ es) = grind (arith, nat_tests)

  -- at the start as many are left as the map has entries
  pub all_left : (m : finite.FinMap nat_cmp X) → finite.len m ≡ length (from_number 0 (finite.entries m))
  all_left m = finite.len-entries m ∙ ap length (sym (from_start (finite.entries m)))

-- the number of a task that was made from a number
pub numbered : (n t : ℕ) → checked_number n ≡ Some t → t ≡ n
numbered n t h = grind (arith, nat_tests)

-- at the start as many lags are left as tasks sleep
pub all_lags_left : (m : finite.FinMap nat_cmp Sleeper) → finite.len m ≡ length (map with_lag (from_number 0 (finite.entries m)))
all_lags_left m = all_left m ∙ sym (length-map (from_number 0 (finite.entries m)) with_lag)

pub none_asleep : (o : Option Sleeper) → sleeping_lag o ≡ None → o ≡ None
none_asleep None h = refl
none_asleep (Some s) h = cc

pub one_asleep : (k : ℕ) (lag : ℤ) (m : finite.FinMap nat_cmp Sleeper) (o : Option Sleeper) → finite.get m k ≡ o → sleeping_lag o ≡ Some lag
    → map with_lag (from_number k (finite.entries m)) ≡ (k, lag) ∷ map with_lag (from_number (k + 1) (finite.entries m))
one_asleep k lag m None is h = cc
one_asleep k lag m (Some s) is h =
    let same : s.lag ≡ lag = grind arith in
    ap (map with_lag) (one_here k s m is)
    ∙ ap (λ (l : ℤ). (k, l) ∷ map with_lag (from_number (k + 1) (finite.entries m))) same
