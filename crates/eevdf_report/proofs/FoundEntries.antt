-- The entries of a map are found in it.
use Rattle.std.proofs.Common.{◌≡◌, ℕ, ◌<◌, false, List, [], ◌∷◌, Option, Some, refl, ◌∙◌, arith}
use Rattle.std.specs.Prelude.{⊤}
use Rattle.std.specs.Ordering.{nat_cmp, eq_by_cmp}
use lib.Dec.{T}
use Rattle.std.specs.FinMap as finite
use Rattle.std.specs.FinMap.Entries.{find, is_sorted, below_all}
use Rattle.std.proofs.lemmas.Bool.Decides.{nat_tests}
use Rattle.eevdf_queue.proofs.{Foremost.itself, SortedEntries.first_above, SortedEntries.sorted_parts}

after : (x y : ℕ) → y < x → eq_by_cmp nat_cmp x y ≡ false
after x y h = grind (arith, nat_tests)

module _ {X : Type 0} (g : ℕ → Option X) where
  -- each number is found with what stands beside it
  abbrev pub AreFound : List (ℕ × X) → Type 0
  AreFound [] = ⊤
  AreFound (e ∷ es) = (g e.0 ≡ Some e.1) × AreFound es

  above : (x : ℕ) (es : List (ℕ × X)) → T (below_all nat_cmp x es) → T (is_sorted nat_cmp es) → ((k : ℕ) → x < k → g k ≡ find nat_cmp k es) → AreFound es
  above x [] b s is = tt
  above x (e ∷ es) b s is =
      let r : x < e.0 = (first_above x e es b).0 in
      let parts = sorted_parts e es s in
      (is e.0 r ∙ rw (itself e.0) refl, above e.0 es parts.0 parts.1 (λ k l. let on : x < k = omega arith in is k on ∙ rw (after k e.0 l) refl))

  pub all_found : (es : List (ℕ × X)) → T (is_sorted nat_cmp es) → ((k : ℕ) → g k ≡ find nat_cmp k es) → AreFound es
  all_found [] s is = tt
  all_found (e ∷ es) s is =
      let parts = sorted_parts e es s in (is e.0 ∙ rw (itself e.0) refl, above e.0 es parts.0 parts.1 (λ k l. is k ∙ rw (after k e.0 l) refl))

pub entries_found : {X : Type 0} (m : finite.FinMap nat_cmp X) → AreFound (finite.get m) (finite.entries m)
entries_found m = all_found (finite.get m) (finite.entries m) (finite.entries_sorted m) (finite.get-entries m)
