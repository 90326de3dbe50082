-- What a rebase answers and leaves, by its two tests.
use Rattle.std.proofs.Common.{◌≡◌, Bool, true, false, ◌&&◌, cond, Some, None, refl, sym, ap, ◌∙◌}
use Rattle.std.specs.Prelude.{ℤ, pos, ◌+ℤ◌}
use Rattle.eevdf_queue.specs.{State.State, Sums.virtual_time}
use Rattle.eevdf_queue.specs.Rebase.{is_shift, checked_shift, can_lower, lowered_tasks, rebased, rebase}

none_by : (b : Bool) (z : ℤ) → cond b (Some z) None ≡ None → b ≡ false
none_by true z h = cc
none_by false z h = refl

some_by : (b : Bool) (z s : ℤ) → cond b (Some z) None ≡ Some s → (b ≡ true) × (z ≡ s)
some_by true z s h = (refl, cc)
some_by false z s h = cc

-- the shift that was checked is one
pub shift_kept : (z s : ℤ) → checked_shift z ≡ Some s → is_shift s ≡ true
shift_kept z s h = let by = some_by (is_shift z) z s h in ap is_shift (sym by.1) ∙ by.0

either_false : (b : Bool) (q : State) → cond {A = ℤ × State} (b && false) (virtual_time q, rebased q) (pos 0, q) ≡ (pos 0, q)
either_false true q = refl
either_false false q = refl

module _ (q : State) where
  abbrev after : ℤ
  after = q.shift +ℤ virtual_time q

  pub too_far : checked_shift after ≡ None → rebase q ≡ (pos 0, q)
  too_far h = ap (λ (b : Bool). cond {A = ℤ × State} (b && can_lower (virtual_time q) q.runnable) (virtual_time q, rebased q) (pos 0, q)) (none_by (is_shift after) after h)

  pub not_lowered : can_lower (virtual_time q) q.runnable ≡ false → rebase q ≡ (pos 0, q)
  not_lowered h =
      ap (λ (b : Bool). cond {A = ℤ × State} (is_shift after && b) (virtual_time q, rebased q) (pos 0, q)) h ∙ either_false (is_shift after) q

  pub is_lowered : (s : ℤ) → checked_shift after ≡ Some s → can_lower (virtual_time q) q.runnable ≡ true
      → rebase q ≡ (virtual_time q, record q { runnable = lowered_tasks (virtual_time q) q.runnable; base = pos 0; shift = s })
  is_lowered s h k =
      let by = some_by (is_shift after) after s h in
      ap (λ (b : Bool). cond {A = ℤ × State} (b && can_lower (virtual_time q) q.runnable) (virtual_time q, rebased q) (pos 0, q)) by.0
      ∙ ap (λ (b : Bool). cond {A = ℤ × State} b (virtual_time q, rebased q) (pos 0, q)) k
      ∙ ap (λ (z : ℤ). (virtual_time q, record q { runnable = lowered_tasks (virtual_time q) q.runnable; base = pos 0; shift = z })) by.1
