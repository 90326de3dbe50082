-- What holds of each value of a map, after a write.
use Rattle.std.proofs.Common.{◌≡◌, ℕ, Bool, true, false, cond, sym, subst, ◌∙◌}
use Rattle.std.specs.Prelude.{◌==◌, Option, Some, None}
use Rattle.std.specs.{Ordering.nat_cmp, Ordering.eq_by_cmp, Cmp.nat_cmp_total, Cmp.unsigned_tied}
use Rattle.std.specs.FinMap.{FinMap, get, insert, remove, get-insert, get-remove}
use Rattle.eevdf_ops.proofs.MapCounts.{equal}

module _ {X : Type 0} (Q : ℕ → X → Type 0) where
  same_value : (u t : ℕ) (x y : X) → u ≡ t → Some x ≡ Some y → Q t x → Q u y
  same_value u t x y at e q = let is : x ≡ y = cc in subst (Q u) is (subst (λ (k : ℕ). Q k x) (sym at) q)

  written : (u t : ℕ) (x y : X) (b : Bool) (o : Option X) → (u == t) ≡ b → Q t x → (o ≡ Some y → Q u y) → cond b (Some x) o ≡ Some y → Q u y
  written u t x y true o at q rest e = same_value u t x y (equal u t at) e q
  written u t x y false o at q rest e = rest e

  pub each-insert : (m : FinMap nat_cmp X) (t : ℕ) (x : X) → ((u : ℕ) (y : X) → get m u ≡ Some y → Q u y) → Q t x
      → (u : ℕ) (y : X) → get (insert m t x) u ≡ Some y → Q u y
  each-insert m t x each q u y e =
      written u t x y (eq_by_cmp nat_cmp u t) (get m u) (sym (unsigned_tied u t)) q (each u y) (sym (get-insert nat_cmp_total m t x u) ∙ e)

  unwritten : (u : ℕ) (y : X) (b : Bool) (o : Option X) → (o ≡ Some y → Q u y) → cond b None o ≡ Some y → Q u y
  unwritten u y true o rest e = cc
  unwritten u y false o rest e = rest e

  pub each-remove : (m : FinMap nat_cmp X) (t : ℕ) → ((u : ℕ) (y : X) → get m u ≡ Some y → Q u y)
      → (u : ℕ) (y : X) → get (remove m t) u ≡ Some y → Q u y
  each-remove m t each u y e = unwritten u y (eq_by_cmp nat_cmp u t) (get m u) (each u y) (sym (get-remove nat_cmp_total m t u) ∙ e)
