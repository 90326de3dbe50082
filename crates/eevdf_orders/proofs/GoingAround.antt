-- The search for a caller that may step, around from one on.
use Rattle.std.proofs.Common.{◌≡◌, ℕ, zero, suc, ◌+◌, ◌-◌, ◌%◌, ◌<◌, ◌≤◌, Bool, true, false, cond, ◌⊎◌, inl, inr, sym, ap, subst, ◌∙◌, arith, refl}
use Rattle.std.proofs.lemmas.Bool.{false≢true, cases_eq}
use Rattle.std.proofs.Math.Nat.{add-mod_right, mod-eq_of_lt}
use Rattle.std.specs.Prelude.{is_none, is_some, is_ok, Option, Some, None, Result, Ok, Err}
use Rattle.eevdf_steps.specs.{declared.step_fault.StepFault.StepFault, Plan.callers, Players.IsStep, Players.Player}
use Rattle.eevdf_steps.specs.Counters.{least, may_step, ready}
use Rattle.eevdf_steps.proofs.Holders.{least_past}
use Rattle.eevdf_steps.proofs.Ready.{Found, least_found, least_there}
use Rattle.eevdf_orders.specs.CallerSteps.{IsStepAmong, IsStepFrom, ahead}

-- whether a caller may step
abbrev may : Player → ℕ → Bool
may a = may_step a.plan a.state.progress.counters

-- ---- a caller that is passed over

pub record PassedOver (a : Player) (caller : ℕ) (b : Player) : Type 0 where
  pub refused : may a caller ≡ false
  pub stays : b ≡ a

pub passed_over : (a : Player) (caller : ℕ) (r : Result (Unit {0}) StepFault) (b : Player) → IsStep a caller r b → false ≡ is_ok r → PassedOver a caller b
passed_over a caller (Ok u) b s e = absurd (false≢true e)
passed_over a caller (Err f) b s e = record { refused = ap (λ (o : Option StepFault). is_none o) s.0; stays = s.1 }

pub least_beyond : (a b : Player) (from caller end : ℕ) → PassedOver a caller b → caller < end → least (may a) from (end - from) ≡ least (may a) caller (end - caller)
    → least (may b) from (end - from) ≡ least (may b) (caller + 1) (end - (caller + 1))
least_beyond a b from caller end p within e =
    subst (λ (c : Player). least (may c) from (end - from) ≡ least (may c) (caller + 1) (end - (caller + 1))) (sym p.stays)
    (e ∙ least_past (may a) caller end within p.refused)

-- ---- the two sides

split : (k n : ℕ) → (k < n) ⊎ (n ≤ k)
split k n = grind arith

pub none_in : (f : ℕ → Bool) (from n k : ℕ) → least f from n ≡ None → from ≤ k → k < from + n → f k ≡ false
none_in f from n k none low high = go (f k) refl
  where
    go : (b : Bool) → f k ≡ b → f k ≡ false
    go false e = e
    go true e = absurd (false≢true (sym (least_there f from n k e low high) ∙ ap (λ (o : Option ℕ). is_none o) none))

least_above_by : (f : ℕ → Bool) (from n k : ℕ) (b : Bool) → cond b (Some from) (least f (from + 1) n) ≡ Some k → (least f (from + 1) n ≡ Some k → from + 1 ≤ k) → from ≤ k
least_above_by f from n k true h later = let same : from ≡ k = cc in omega (arith, same)
least_above_by f from n k false h later = let above : from + 1 ≤ k = later h in omega (arith, above)

least_above : (f : ℕ → Bool) (from n k : ℕ) → least f from n ≡ Some k → from ≤ k
least_above f from zero k h = cc
least_above f from (suc n) k h = least_above_by f from n k (f from) h (least_above f (from + 1) n k)

none_below_by : (f : ℕ → Bool) (from n k q : ℕ) (b : Bool) → f from ≡ b → cond b (Some from) (least f (from + 1) n) ≡ Some k → from ≤ q → q < k
    → (least f (from + 1) n ≡ Some k → from + 1 ≤ q → f q ≡ false) → f q ≡ false
none_below_by f from n k q true e h low high later = let same : from ≡ k = cc in absurd (omega (arith, same, low, high))
none_below_by f from n k q false e h low high later =
    elim (cases_eq from q) [
      | inl same ↦ sym (ap f same) ∙ e
      | inr apart ↦ later h (omega (arith, low, apart))
    ]

-- none before the least passes
none_below : (f : ℕ → Bool) (from n k q : ℕ) → least f from n ≡ Some k → from ≤ q → q < k → f q ≡ false
none_below f from zero k q h low high = cc
none_below f from (suc n) k q h low high =
    none_below_by f from n k q (f from) refl h low high (λ later above. none_below f (from + 1) n k q later above high)

-- ---- how far ahead

ahead_above : (n first q : ℕ) → first ≤ q → q < n → ahead n first q ≡ q - first
ahead_above n first q low high =
    let turn : q + n - first ≡ q - first + n = omega (arith, low) in
    ap (λ (k : ℕ). k % n) turn ∙ add-mod_right (q - first) n ∙ mod-eq_of_lt (omega (arith, high))

ahead_below : (n first q : ℕ) → q < first → first < n → ahead n first q ≡ q + n - first
ahead_below n first q low high = mod-eq_of_lt (omega (arith, low, high))

nearest_above : (f : ℕ → Bool) (n first p q : ℕ) → least f first (n - first) ≡ Some p → p < n → q < n → first < n → ahead n first q < ahead n first p → f q ≡ false
nearest_above f n first p q found p_below q_below within nearer =
    let low : first ≤ p = least_above f first (n - first) p found in
    let p_ahead : ahead n first p ≡ p - first = ahead_above n first p low p_below in
    elim (split q first) [
      | inl under ↦
          let q_ahead : ahead n first q ≡ q + n - first = ahead_below n first q under within in
          absurd (omega (arith, nearer, p_ahead, q_ahead, p_below, under))
      | inr over ↦
          let q_ahead : ahead n first q ≡ q - first = ahead_above n first q over q_below in
          none_below f first (n - first) p q found over (omega (arith, nearer, p_ahead, q_ahead, over))
    ]

nearest_below : (f : ℕ → Bool) (n first p q : ℕ) → least f first (n - first) ≡ None → least f 0 first ≡ Some p → p < first → q < n → first < n
    → ahead n first q < ahead n first p → f q ≡ false
nearest_below f n first p q none found p_below q_below within nearer =
    let p_ahead : ahead n first p ≡ p + n - first = ahead_below n first p p_below within in
    elim (split q first) [
      | inl under ↦
          let q_ahead : ahead n first q ≡ q + n - first = ahead_below n first q under within in
          none_below f 0 first p q found (omega arith) (omega (arith, nearer, p_ahead, q_ahead, under, within))
      | inr over ↦ none_in f first (n - first) q none over (omega (arith, q_below, over))
    ]

-- ---- who is found

least_of : (f : ℕ → Bool) (first count n : ℕ) (r : Option ℕ) → r ≡ least f first (count - first) → count ≡ n → least f first (n - first) ≡ r
least_of f first count n r e all = sym (e ∙ ap (λ (k : ℕ). least f first (k - first)) all)

-- who was found from the first on did its step
pub found_above : (a b : Player) (first count p : ℕ) → IsStepAmong a first (count - first) (Some p) b → count ≡ callers a.plan → first < count → IsStepFrom a first p b
found_above a b first count p s all within =
    let n : ℕ = callers a.plan in
    let least_is : least (may a) first (n - first) ≡ Some p = least_of (may a) first count n (Some p) s.least all in
    let found : Found (may a) first (n - first) p = least_found (may a) first (n - first) p least_is in
    let first_below : first < n = omega (arith, all, within) in
    let below : p < n = omega (arith, found.within, first_below) in
    record {
      next = record { below = below; may = found.passes; nearest = λ q q_below nearer. nearest_above (may a) n first p q least_is below q_below first_below nearer };
      done = s.done;
    }

-- a caller that is ready is found on one of the two sides
found_around : (f : ℕ → Bool) (first count : ℕ) → first < count → least f first (count - first) ≡ None → least f 0 first ≡ None → is_some (least f 0 count) ≡ true → ⊥
found_around f first count within above below some = go (least f 0 count) refl some
  where
    at : (k : ℕ) → Found f 0 count k → (k < first) ⊎ (first ≤ k) → ⊥
    at k found (inl low) = false≢true (sym (none_in f 0 first k below (omega arith) (omega (arith, low))) ∙ found.passes)
    at k found (inr high) = false≢true (sym (none_in f first (count - first) k above high (omega (arith, found.within, within))) ∙ found.passes)

    go : (o : Option ℕ) → least f 0 count ≡ o → is_some o ≡ true → ⊥
    go None e h = false≢true h
    go (Some k) e h = at k (least_found f 0 count k e) (split k first)

from_first : (a b : Player) (first : ℕ) (r : Option ℕ) → IsStepAmong a 0 (first - 0) r b → IsStepAmong a 0 first r b
from_first a b first r s = subst (λ (n : ℕ). IsStepAmong a 0 n r b) (let e : first - 0 ≡ first = omega arith in e) s

pub nobody_around : (a b c : Player) (first count : ℕ) → IsStepAmong a first (count - first) None b → IsStepAmong b 0 (first - 0) None c → count ≡ callers a.plan → first < count
    → is_some (ready a.plan a.state.progress.counters) ≡ true → ⊥
nobody_around a b c first count above below all within some =
    let same : IsStepAmong a 0 (first - 0) None c = subst (λ (d : Player). IsStepAmong d 0 (first - 0) None c) above.done below in
    found_around (may a) first count within (sym above.least) (sym (from_first a c first None same).least)
    (ap (λ (n : ℕ). is_some (least (may a) 0 n)) all ∙ some)

-- where nobody was found from the first on, who was found below it did its step
pub found_below : (a b c : Player) (first count p : ℕ) → IsStepAmong a first (count - first) None b → IsStepAmong b 0 (first - 0) (Some p) c → count ≡ callers a.plan → first < count
    → IsStepFrom a first p c
found_below a b c first count p above below all within =
    let n : ℕ = callers a.plan in
    let same : IsStepAmong a 0 (first - 0) (Some p) c = subst (λ (d : Player). IsStepAmong d 0 (first - 0) (Some p) c) above.done below in
    let least_is : least (may a) 0 first ≡ Some p = sym (from_first a c first (Some p) same).least in
    let none : least (may a) first (n - first) ≡ None = least_of (may a) first count n None above.least all in
    let found : Found (may a) 0 first p = least_found (may a) 0 first p least_is in
    let first_below : first < n = omega (arith, all, within) in
    let under : p < first = omega (arith, found.within) in
    record {
      next = record {
        below = omega (arith, under, first_below);
        may = found.passes;
        nearest = λ q q_below nearer. nearest_below (may a) n first p q none least_is under q_below first_below nearer;
      };
      done = same.done;
    }
