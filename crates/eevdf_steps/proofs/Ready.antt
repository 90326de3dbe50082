-- While a caller isn't done, some caller may do its next step: since locks are acquired in ascending order, who waits for a
-- lock waits for a holder that waits, if at all, for a higher one.
use Rattle.std.proofs.Common.{◌≡◌, ℕ, zero, suc, ◌+◌, ◌<◌, ◌≤◌, Bool, true, false, cond, List, [], ◌∷◌, inl, inr, ◌⊎◌, sym, ap, subst, ◌∙◌, arith, refl}
use Rattle.std.proofs.lemmas.Bool.{false≢true}
use Rattle.std.specs.Option.{option_map}
use Rattle.std.specs.Prelude.{is_none, is_some, nat_lt, length, MatchOption, Option, Some, None}
use Rattle.eevdf_ops.specs.declared.deeds.Op.{Op}
use Rattle.eevdf_steps.specs.{declared.micro.Micro.Micro, declared.micro.Micro.TheVariants.Acquire, declared.plan.Step.Step}
use Rattle.eevdf_steps.specs.Plan.{IsSound, Plan, callers}
use Rattle.eevdf_steps.specs.Counters.{Counters, blocked_by, counted, holder, holds, is_under_way, least, may_step, next, ready, refused, step_next, unfinished}
use Rattle.eevdf_steps.proofs.Walks.{Acquiring, FitsWalk, FitsMicro, Walk, is_above, is_in}
use Rattle.eevdf_steps.proofs.Walking.{walking}

-- a number that passes, of those from one on
pub record Found (f : ℕ → Bool) (from n k : ℕ) : Type 0 where
  pub passes : f k ≡ true
  pub within : k < from + n

found_by : (f : ℕ → Bool) (from n k : ℕ) (b : Bool) → f from ≡ b → cond b (Some from) (least f (from + 1) n) ≡ Some k
    → (least f (from + 1) n ≡ Some k → Found f (from + 1) n k) → Found f from (suc n) k
found_by f from n k true e h later = grind arith
found_by f from n k false e h later = let there : Found f (from + 1) n k = later h in record { passes = there.passes; within = omega (arith, there.within) }

pub least_found : (f : ℕ → Bool) (from n k : ℕ) → least f from n ≡ Some k → Found f from n k
least_found f from zero k h = cc
least_found f from (suc n) k h = found_by f from n k (f from) refl h (least_found f (from + 1) n k)

some_passes : (f : ℕ → Bool) (from n k : ℕ) (b : Bool) → f from ≡ b → f k ≡ true → (from + 1 ≤ k → is_none (least f (from + 1) n) ≡ false) → from ≤ k
    → is_none (cond b (Some from) (least f (from + 1) n)) ≡ false
some_passes f from n k true e passes later low = refl
some_passes f from n k false e passes later low = grind arith

-- where a number passes there is a least one
pub least_there : (f : ℕ → Bool) (from n k : ℕ) → f k ≡ true → from ≤ k → k < from + n → is_none (least f from n) ≡ false
least_there f from zero k passes low high = absurd (omega arith)
least_there f from (suc n) k passes low high = grind (arith, least_there f (from + 1) n k)

-- a caller that may do its next step
record Free (plan : Plan) (counters : Counters) : Type 0 where
  caller : ℕ
  below : caller < callers plan
  may : may_step plan counters caller ≡ true

-- a lock that a step waits for, and who holds it
record Waiting (plan : Plan) (counters : Counters) (m : Micro) : Type 0 where
  cpu : ℕ
  holding : ℕ
  acquires : m ≡ Acquire cpu
  below : holding < callers plan
  holds_it : holds plan counters cpu holding ≡ true

may_if : (plan : Plan) (counters : Counters) (p : ℕ) (m : Micro) → p < callers plan → next plan counters p ≡ Some m → refused plan counters m ≡ None
    → may_step plan counters p ≡ true
may_if plan counters p m below e free = grind arith

free_if : (plan : Plan) (counters : Counters) (p : ℕ) (m : Micro) → p < callers plan → next plan counters p ≡ Some m → refused plan counters m ≡ None → Free plan counters
free_if plan counters p m below e free = record { caller = p; below = below; may = may_if plan counters p m below e free }

acquires_or_waits : (plan : Plan) (counters : Counters) (p c : ℕ) (h : Option ℕ) → p < callers plan → next plan counters p ≡ Some (Acquire c) → holder plan counters c ≡ h
    → Free plan counters ⊎ Waiting plan counters (Acquire c)
acquires_or_waits plan counters p c None below e held = inl (free_if plan counters p (Acquire c) below e (ap (λ (o : Option ℕ). blocked_by c o) held))
acquires_or_waits plan counters p c (Some q) below e held =
    let found : Found (holds plan counters c) 0 (callers plan) q = least_found (holds plan counters c) 0 (callers plan) q held in
    inr (record { cpu = c; holding = q; acquires = refl; below = omega (arith, found.within); holds_it = found.passes })

-- a caller that isn't done may step, or waits for a lock
steps_or_waits : (plan : Plan) (counters : Counters) (p : ℕ) (m : Micro) → p < callers plan → next plan counters p ≡ Some m → Free plan counters ⊎ Waiting plan counters m
steps_or_waits plan counters p (Acquire c) below e = acquires_or_waits plan counters p c (holder plan counters c) below e refl
steps_or_waits plan counters p m below e = inl (free_if plan counters p m below e refl)

-- what is in a list is below what is above the list
below_above : (c d : ℕ) (held : List ℕ) → is_above c held ≡ true → is_in d held ≡ true → d < c
below_above c d [] above there = absurd (false≢true there)
below_above c d (h ∷ held) above there = grind (arith, below_above c d held)

fits_acquire : (plan : Plan) (p : ℕ) (held : List ℕ) (o : Op) (m : Micro) (following : Option Step) (c : ℕ) → FitsMicro plan p held o m following → m ≡ Acquire c
    → Acquiring plan held o c following
fits_acquire plan p held o m following c fits e = subst (λ (k : Micro). FitsMicro plan p held o k following) e fits

-- who holds a lock isn't done, and waits for no lock but a higher one
holder_by : (plan : Plan) (counters : Counters) (p c : ℕ) (w : Walk plan counters p) (r : Option Step) → p < callers plan → holds plan counters c p ≡ true → step_next plan counters p ≡ r
    → MatchOption r (w.held ≡ []) (λ s. FitsWalk plan p w.held s (step_next plan (counted counters p) p))
    → ((d q : ℕ) → c < d → d < callers plan → q < callers plan → holds plan counters d q ≡ true → Free plan counters) → Free plan counters
holder_by plan counters p c w None below held e fits higher = grind arith
holder_by plan counters p c w (Some s) below held e fits higher =
    elim (steps_or_waits plan counters p s.micro below (ap (λ (o : Option Step). option_map (λ (t : Step). t.micro) o) e)) [
      | inl free ↦ free
      | inr waits ↦ let acquiring : Acquiring plan w.held s.op waits.cpu (step_next plan (counted counters p) p)
          = fits_acquire plan p w.held s.op s.micro (step_next plan (counted counters p) p) waits.cpu fits waits.acquires in
          higher waits.cpu waits.holding (below_above waits.cpu c w.held acquiring.above (sym (w.holds_them c) ∙ held)) acquiring.below waits.below waits.holds_it
    ]

-- above a lock that is held there are only so many
holder_frees : (n : ℕ) (plan : Plan) (counters : Counters) (c p : ℕ) → IsSound plan → length counters ≡ callers plan → callers plan ≤ c + n → c < callers plan → p < callers plan
    → holds plan counters c p ≡ true → Free plan counters
holder_frees zero plan counters c p sound each few lock below held = absurd (omega arith)
holder_frees (suc n) plan counters c p sound each few lock below held =
    let w : Walk plan counters p = walking plan counters p sound each below in
    holder_by plan counters p c w (step_next plan counters p) below held refl w.fits
    (λ d q above inside caller holds_it. holder_frees n plan counters d q sound each (omega (arith, above, few)) inside caller holds_it)

under_way : (plan : Plan) (counters : Counters) (p : ℕ) (r : Option Step) → IsSound plan → length counters ≡ callers plan → p < callers plan → step_next plan counters p ≡ r
    → is_some r ≡ true → Free plan counters
under_way plan counters p None sound each below e some = absurd (false≢true some)
under_way plan counters p (Some s) sound each below e some =
    elim (steps_or_waits plan counters p s.micro below (ap (λ (o : Option Step). option_map (λ (t : Step). t.micro) o) e)) [
      | inl free ↦ free
      | inr waits ↦ let w : Walk plan counters p = walking plan counters p sound each below in
          let fits : FitsWalk plan p w.held s (step_next plan (counted counters p) p)
          = subst (λ (o : Option Step). MatchOption o (w.held ≡ []) (λ t. FitsWalk plan p w.held t (step_next plan (counted counters p) p))) e w.fits in
          let acquiring : Acquiring plan w.held s.op waits.cpu (step_next plan (counted counters p) p)
          = fits_acquire plan p w.held s.op s.micro (step_next plan (counted counters p) p) waits.cpu fits waits.acquires in
          holder_frees (callers plan) plan counters waits.cpu waits.holding sound each (omega arith) acquiring.below waits.below waits.holds_it
    ]

-- who may step isn't done
may_under_way : (plan : Plan) (counters : Counters) (p : ℕ) (b : Bool) (r : Option Step) → nat_lt p (callers plan) ≡ b → step_next plan counters p ≡ r
    → may_step plan counters p ≡ true → is_under_way plan counters p ≡ true
may_under_way plan counters p b (Some s) e next_is may = ap (λ (o : Option Step). is_some o) next_is
may_under_way plan counters p true None e next_is may = grind arith
may_under_way plan counters p false None e next_is may = grind arith

none_by : (plan : Plan) (counters : Counters) (a b : Option ℕ) → IsSound plan → length counters ≡ callers plan → ready plan counters ≡ a → unfinished plan counters ≡ b
    → is_none a ≡ is_none b
none_by plan counters None None sound each e f = refl
none_by plan counters (Some p) (Some q) sound each e f = refl
none_by plan counters (Some p) None sound each e f =
    let found : Found (may_step plan counters) 0 (callers plan) p = least_found (may_step plan counters) 0 (callers plan) p e in
    let way : is_under_way plan counters p ≡ true = may_under_way plan counters p (nat_lt p (callers plan)) (step_next plan counters p) refl refl found.passes in
    absurd (false≢true (sym (least_there (is_under_way plan counters) 0 (callers plan) p way (omega arith) found.within) ∙ ap (λ (o : Option ℕ). is_none o) f))
none_by plan counters None (Some q) sound each e f =
    let found : Found (is_under_way plan counters) 0 (callers plan) q = least_found (is_under_way plan counters) 0 (callers plan) q f in
    let free : Free plan counters = under_way plan counters q (step_next plan counters q) sound each (omega (arith, found.within)) refl found.passes in
    absurd (false≢true (sym (least_there (may_step plan counters) 0 (callers plan) free.caller free.may (omega arith) (omega (arith, free.below))) ∙ ap (λ (o : Option ℕ). is_none o) e))

-- nobody may step exactly where all are done
pub none_ready : (plan : Plan) (counters : Counters) → IsSound plan → length counters ≡ callers plan → is_none (ready plan counters) ≡ is_none (unfinished plan counters)
none_ready plan counters sound each = none_by plan counters (ready plan counters) (unfinished plan counters) sound each refl refl
