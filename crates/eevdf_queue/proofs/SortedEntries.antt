-- The entries of a map rise by number.
use Rattle.std.proofs.Common.{◌≡◌, ℕ, ◌<◌, ◌≤◌, Bool, true, false, ◌&&◌, List, [], ◌∷◌, length, map, Option, Some, None, T, refl, ◌∙◌, arith}
use Rattle.std.specs.{Prelude.is_some, Ordering.nat_cmp, Ordering.is_lt, Cmp.nat_cmp_total, Cmp.eq_by_cmp_equiv}
use Rattle.std.specs.declared.cmp.Ordering.TheVariants.{Less}
use Rattle.std.specs.List.{All, AllByRecursion, Sorted.IsStrictlySortedBy}
use Rattle.std.specs.FinMap.{FinMap, entries, entries_sorted, get, keys, contains_key-keys, len, len-entries, find, is_sorted}
use Rattle.std.specs.FinMap.Entries.{below_all}
use Rattle.std.proofs.lemmas.{Bool.Decides.nat_tests, List.length-map, Map.Views.All-from_any, Map.Views.length-le_from_below}
use Rattle.eevdf_queue.proofs.{ListMaps.same_number, MapFolds.AreDistinct}

both : (a b : Bool) → T (a && b) → T a × T b
both true b h = (tt, h)
both false b h = absurd h

holds : (b : Bool) → T b → b ≡ true
holds true h = refl
holds false h = absurd h

less : (x y : ℕ) → is_lt (nat_cmp x y) ≡ true → x < y
less x y h = grind (arith, nat_tests)

module _ {X : Type 0} where
  pub first_above : (x : ℕ) (e : ℕ × X) (es : List (ℕ × X)) → T (below_all nat_cmp x (e ∷ es)) → (x < e.0) × T (below_all nat_cmp x es)
  first_above x e es h =
      let parts = both (is_lt (nat_cmp x e.0)) (below_all nat_cmp x es) h in
      (less x e.0 (holds (is_lt (nat_cmp x e.0)) parts.0), parts.1)

  pub sorted_parts : (e : ℕ × X) (es : List (ℕ × X)) → T (is_sorted nat_cmp (e ∷ es)) → T (below_all nat_cmp e.0 es) × T (is_sorted nat_cmp es)
  sorted_parts e es h = both (below_all nat_cmp e.0 es) (is_sorted nat_cmp es) h

  pub none_found : (k x : ℕ) (es : List (ℕ × X)) → T (below_all nat_cmp x es) → k ≤ x → find nat_cmp k es ≡ None
  none_found k x [] h l = refl
  none_found k x (e ∷ es) h l =
      let above = first_above x e es h in grind (arith, nat_tests, same_number k e.0, above.0, none_found k x es above.1 l)

  less_than_all : (x : ℕ) (es : List (ℕ × X)) → T (below_all nat_cmp x es) → AllByRecursion (λ y. nat_cmp x y ≡ Less) (map (λ e. e.0) es)
  less_than_all x [] h = tt
  less_than_all x (e ∷ es) h = let above = first_above x e es h in (grind (arith, nat_tests, above.0), less_than_all x es above.1)

  sorted_keys : (es : List (ℕ × X)) → T (is_sorted nat_cmp es) → IsStrictlySortedBy nat_cmp (map (λ e. e.0) es)
  unfolding IsStrictlySortedBy
  sorted_keys [] h = tt
  sorted_keys (e ∷ es) h = let parts = sorted_parts e es h in (less_than_all e.0 es parts.0, sorted_keys es parts.1)

  -- a map has no more entries than there are numbers
  pub few_entries : (n : ℕ) (m : FinMap nat_cmp X) → ((k : ℕ) (y : X) → get m k ≡ Some y → k < n) → len m ≤ n
  few_entries n m below =
      let each : All (λ k. k < n) (keys m) = All-from_any (eq_by_cmp_equiv nat_cmp_total) (λ k. k < n) (keys m) (λ k h. at k (get m k) refl (contains_key-keys m k ∙ h)) in
      let few : length (keys m) ≤ n = length-le_from_below n (keys m) (sorted_keys (entries m) (entries_sorted m)) each in
      omega (arith, few, len-entries m, length-map (entries m) (λ e. e.0))
    where
      at : (k : ℕ) (o : Option X) → get m k ≡ o → is_some o ≡ true → k < n
      at k None is h = cc
      at k (Some y) is h = below k y is

  sorted_distinct : (es : List (ℕ × X)) → T (is_sorted nat_cmp es) → AreDistinct es
  sorted_distinct [] h = tt
  sorted_distinct (e ∷ es) h = let parts = sorted_parts e es h in (none_found e.0 e.0 es parts.0 (omega arith), sorted_distinct es parts.1)

  pub distinct_entries : (m : FinMap nat_cmp X) → AreDistinct (entries m)
  distinct_entries m = sorted_distinct (entries m) (entries_sorted m)
