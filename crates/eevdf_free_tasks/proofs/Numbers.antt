-- What taking a number and giving one back make of the numbers of a home.
use Rattle.std.proofs.Common.{◌≡◌, ℕ, ◌+◌, ◌<◌, List, ◌∷◌, length, ap, sym, ◌∙◌, arith, if◌then◌else◌, ◌==◌, Bool, true}
use Rattle.std.proofs.lemmas.List.Sums.{sum_by-cons}
use Rattle.std.proofs.lemmas.List.{get_or_past}
use Rattle.std.proofs.lemmas.Bool.{eq-eqb}
use Rattle.std.proofs.Math.Path.{refl}
use Rattle.eevdf_free_tasks.specs.Slots.{slot_of, free_count, times, AreFree}
use Rattle.eevdf_free_tasks.specs.declared.slot.Slot.{Slot}
use Rattle.eevdf_free_tasks.specs.declared.slot.Slot.TheVariants.{Elsewhere, Free, Begun, Taken}

one-more : (rest : List ℕ) (x task : ℕ) (b : Bool) → (x == task) ≡ b → times task (x ∷ rest) ≡ (if b then 1 else 0) + times task rest
one-more rest x task b is = sum_by-cons (λ t. if t == task then 1 else 0) x rest ∙ ap (λ (c : Bool). (if c then 1 else 0) + times task rest) is

is-free : (slot : Slot) (n : ℕ) → n + 1 ≡ free_count slot → slot ≡ Free
is-free Elsewhere n e = let h : ⊥ = omega (arith, e) in absurd h
is-free Free n e = refl
is-free Begun n e = let h : ⊥ = omega (arith, e) in absurd h
is-free Taken n e = let h : ⊥ = omega (arith, e) in absurd h

-- the number that is handed out next is free
pub top-is-free : {free : List ℕ} {capacity : ℕ} {slots : List Slot} (rest : List ℕ) (x : ℕ) → AreFree free capacity slots → free ≡ x ∷ rest → slot_of slots x ≡ Free
top-is-free {slots = slots} rest x kept is =
    let once : times x (x ∷ rest) ≡ 1 + times x rest = one-more rest x x true (eq-eqb x x refl) in
    let here : times x (x ∷ rest) ≡ free_count (slot_of slots x) = ap (times x) (sym is) ∙ kept.once x in
    is-free (slot_of slots x) (times x rest) (omega (arith, once, here))

-- a number that is free or taken has a slot
pub within-slots : (slots : List Slot) (x : ℕ) → slot_of slots x ≡ Free → x < length slots
within-slots slots x here = grind (arith, get_or_past slots x Elsewhere)

-- a list with the same numbers and the same room
pub same-free : {free after : List ℕ} {capacity after_capacity : ℕ} {slots : List Slot} → AreFree free capacity slots → free ≡ after → after_capacity ≡ capacity
    → AreFree after after_capacity slots
same-free {after = after} {slots = slots} kept is same = record {
  once = λ task. ap (times task) (sym is) ∙ kept.once task;
  room = omega (arith, kept.room, ap length is, same);
}
