-- Whether a map has a key after a write, as a count of 0 or 1.
use Rattle.std.proofs.Common.{◌≡◌, ℕ, ◌+◌, Bool, true, false, cond, not, ◌||◌, ◌&&◌, refl, sym, ap, ◌∙◌, arith}
use Rattle.std.specs.Prelude.{◌==◌, is_some, Option, Some, None}
use Rattle.std.specs.{Ordering.nat_cmp, Ordering.eq_by_cmp, Cmp.nat_cmp_total, Cmp.unsigned_tied}
use Rattle.std.specs.FinMap.{FinMap, get, contains_key, insert, remove, get-insert, get-remove}
use Rattle.std.proofs.{lemmas.Bool.false≢true, lemmas.Bool.Decides.nat_tests}
use Rattle.eevdf_ops.specs.Places.{count}

pub equal : (u t : ℕ) → (u == t) ≡ true → u ≡ t
equal u t e = grind (arith, nat_tests)

pub itself : (t : ℕ) → (t == t) ≡ true
itself t = grind (arith, nat_tests)

added : (b c : Bool) → (b ≡ true → c ≡ false) → count (b || c) ≡ count c + count b
added true true h = absurd (false≢true (sym (h refl)))
added true false h = refl
added false c h = omega arith

taken : (b c : Bool) → (b ≡ true → c ≡ true) → count (not b && c) + count b ≡ count c
taken true true h = refl
taken true false h = absurd (false≢true (h refl))
taken false c h = omega arith

kept : (b c : Bool) → (b ≡ true → c ≡ true) → (b || c) ≡ c
kept true c h = sym (h refl)
kept false c h = refl

removed : (b c : Bool) → (not b && c) ≡ true → c ≡ true
removed true c e = absurd (false≢true e)
removed false c e = e

module _ {X : Type 0} where
  is_some_cond : (b : Bool) (v : X) (o : Option X) → is_some (cond b (Some v) o) ≡ (b || is_some o)
  is_some_cond true v o = refl
  is_some_cond false v o = refl

  is_some_unless : (b : Bool) (o : Option X) → is_some (cond b None o) ≡ (not b && is_some o)
  is_some_unless true o = refl
  is_some_unless false o = refl

  pub contains-insert : (m : FinMap nat_cmp X) (t u : ℕ) (x : X) → contains_key (insert m t x) u ≡ ((u == t) || contains_key m u)
  contains-insert m t u x =
      ap is_some (get-insert nat_cmp_total m t x u) ∙ is_some_cond (eq_by_cmp nat_cmp u t) x (get m u)
      ∙ ap (λ (b : Bool). b || contains_key m u) (unsigned_tied u t)

  contains-remove : (m : FinMap nat_cmp X) (t u : ℕ) → contains_key (remove m t) u ≡ (not (u == t) && contains_key m u)
  contains-remove m t u =
      ap is_some (get-remove nat_cmp_total m t u) ∙ is_some_unless (eq_by_cmp nat_cmp u t) (get m u)
      ∙ ap (λ (b : Bool). not b && contains_key m u) (unsigned_tied u t)

  here : (m : FinMap nat_cmp X) (t u : ℕ) (b : Bool) → contains_key m t ≡ b → (u == t) ≡ true → contains_key m u ≡ b
  here m t u b e at = ap (λ (k : ℕ). contains_key m k) (equal u t at) ∙ e

  pub count-insert : (m : FinMap nat_cmp X) (t u : ℕ) (x : X) → contains_key m t ≡ false → count (contains_key (insert m t x) u) ≡ count (contains_key m u) + count (u == t)
  count-insert m t u x absent = ap count (contains-insert m t u x) ∙ added (u == t) (contains_key m u) (here m t u false absent)

  pub count-remove : (m : FinMap nat_cmp X) (t u : ℕ) → contains_key m t ≡ true → count (contains_key (remove m t) u) + count (u == t) ≡ count (contains_key m u)
  count-remove m t u present =
      ap (λ (b : Bool). count b + count (u == t)) (contains-remove m t u) ∙ taken (u == t) (contains_key m u) (here m t u true present)

  pub contains-change : (m : FinMap nat_cmp X) (t u : ℕ) (x : X) → contains_key m t ≡ true → contains_key (insert m t x) u ≡ contains_key m u
  contains-change m t u x present = contains-insert m t u x ∙ kept (u == t) (contains_key m u) (here m t u true present)

  pub contains-removed : (m : FinMap nat_cmp X) (t u : ℕ) → contains_key (remove m t) u ≡ true → contains_key m u ≡ true
  contains-removed m t u e = removed (u == t) (contains_key m u) (sym (contains-remove m t u) ∙ e)
