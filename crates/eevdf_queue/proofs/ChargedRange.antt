-- An entry that is charged is in range where its request isn't used up, and else where its deadline is.
use Rattle.std.proofs.Common.{◌≡◌, Bool, true, false, ◌^◌, ◌≤◌, ap, ◌∙◌, sym, refl, arith}
use Rattle.std.specs.Prelude.{ℤ, ◌≤ℤ◌, unsigned_abs, ◌&&◌}
use Rattle.std.proofs.lemmas.Int.{ints}
use Rattle.eevdf_weight.specs.Limits.{is_in_range}
use Rattle.eevdf_queue.specs.{declared.entry.Entry.Entry, Moves.is_entry_in_range}
use Rattle.eevdf_queue.proofs.Bounds.{within, within_range, range_v, range_d}

bounded_between : (v r d : ℤ) → unsigned_abs v ≤ 2 ^ 60 → unsigned_abs d ≤ 2 ^ 60 → v ≤ℤ r → r ≤ℤ d → unsigned_abs r ≤ 2 ^ 60
bounded_between v r d h k i j = omega (arith, ints)

both_true : (a b : Bool) → a ≡ true → b ≡ true → (a && b) ≡ true
both_true a b h k = grind arith

-- between the older virtual runtime and the deadline
pub kept_in_range : (e r : Entry) → is_entry_in_range e ≡ true → r.d ≡ e.d → e.v ≤ℤ r.v → r.v ≤ℤ e.d → is_entry_in_range r ≡ true
kept_in_range e r h k i j =
    both_true (is_in_range r.v) (is_in_range r.d)
    (within_range r.v (bounded_between e.v r.v e.d (within e.v (range_v e h)) (within e.d (range_d e h)) i j))
    (ap is_in_range k ∙ range_d e h)

as_second : (a b : Bool) → (b ≡ true → a ≡ true) → b ≡ (a && b)
as_second a true h = sym (both_true a true (h refl) refl)
as_second a false h = grind arith

-- the deadline is later than the virtual runtime, which isn't before the older one
pub renewed_in_range : (e r : Entry) → is_entry_in_range e ≡ true → e.v ≤ℤ r.v → r.v ≤ℤ r.d → is_in_range r.d ≡ is_entry_in_range r
renewed_in_range e r h i j =
    as_second (is_in_range r.v) (is_in_range r.d)
    (λ k. within_range r.v (bounded_between e.v r.v r.d (within e.v (range_v e h)) (within r.d k) i j))
