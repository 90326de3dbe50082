-- How late requests can be, by what every fair queue keeps.
use Rattle.std.proofs.Common.{◌≡◌, ℕ, ◌^◌, ◌≤◌, ◌⊎◌, Bool, true, false, Option, Some, None, refl, ap, ◌∙◌, subst, inl, inr, arith}
use Rattle.std.specs.Prelude.{ℤ, pos, neg_ℤ, ◌+ℤ◌, ◌-ℤ◌, ◌*ℤ◌, ◌≤ℤ◌, ◌<ℤ◌, is_some}
use Rattle.std.specs.{Ordering.nat_cmp, FinMap.get, FinMap.empty, FinMap.get-empty, Int.int_max, Int.int_min}
use Rattle.std.proofs.{lemmas.Int.ints, lemmas.Int.clamps}
use Rattle.eevdf_queue.specs.{declared.entry.Entry.Entry, State.State, Sums.Tasks, Sums.virtual_time, Sums.total_weight, Sums.total_moment, Kept.IsKept, Laws.PickIsFirst, Laws.PickOfNobody}
use Rattle.eevdf_queue.proofs.Scaled.{scaled_le}
use Rattle.eevdf_queue.specs.Pick.{IsPick, is_eligible, pick_of}
use Rattle.eevdf_dozes.specs.{Stretches.NoneIsPastDue, Punctual.IsTimeWithin}
use Rattle.eevdf_dozes.proofs.Punctual.{time_within}
use Rattle.eevdf_fair_queue.specs.{declared.bounds.Bounds.Bounds, Bounds.held, Bounds.late_by}
use Rattle.eevdf_fair_queue.specs.{Fair.IsFair, Lateness.IsLateBy, Lateness.NoneIsLaterThan}
use Rattle.eevdf_fair_queue.proofs.{Nearness.each_near, Nearness.small, Nearness.held_past, MeanTimes.floor_within, MeanTimes.over_some, MeanTimes.weighs}
use Rattle.eevdf_fair_queue.proofs.Orders.{lesser, lesser_other, nothing_less, one, then}

from_front : (v front d x : ℤ) → v ≤ℤ front → x ≤ℤ d → v ≤ℤ (d +ℤ (front -ℤ x))
from_front v front d x h k = omega (arith, ints, h, k)

greater : (v d a b : ℤ) → v ≤ℤ (d +ℤ b) → v ≤ℤ (d +ℤ int_max a b)
greater v d a b h = omega (arith, ints, clamps, h)

greater_other : (v d a b : ℤ) → v ≤ℤ (d +ℤ a) → v ≤ℤ (d +ℤ int_max a b)
greater_other v d a b h = omega (arith, ints, clamps, h)

-- who is near a deadline isn't past it by more than a bound that is reckoned from that deadline or from an earlier time
pub within_bound : (v front d x longest : ℤ) → v ≤ℤ pos (2 ^ 60) → neg_ℤ (pos (2 ^ 60)) ≤ℤ d → x ≤ℤ d → (v ≤ℤ front) ⊎ (v ≤ℤ (d +ℤ longest))
    → v ≤ℤ (d +ℤ int_max longest (held (front -ℤ x)))
within_bound v front d x longest little low h (inl n) =
    greater v d longest (held (front -ℤ x)) (held_past v d (front -ℤ x) little low (from_front v front d x n h))
within_bound v front d x longest little low h (inr n) = greater_other v d longest (held (front -ℤ x)) n

pub late_within : (q : State) (b : Bounds) → IsKept q → IsFair q b → (x : ℤ) (task : ℕ) (e : Entry) → get q.runnable task ≡ Some e → x ≤ℤ e.d
    → IsTimeWithin q.runnable (e.d +ℤ late_by b x)
late_within q b kept fair x task e here before =
    time_within q.runnable (e.d +ℤ late_by b x) (λ t y at.
    within_bound y.v b.front e.d x b.longest (small q.runnable kept.in_range t y at).v (small q.runnable kept.in_range task e here).d before
    (each_near q b fair t task y e at here))

-- ---- the earliest deadline
no_later : (d e : ℤ) (t u : ℕ) → (d <ℤ e) ⊎ ((d ≡ e) × (t ≤ u)) → d ≤ℤ e
no_later d e t u (inl h) = omega (arith, ints, h)
no_later d e t u (inr h) = omega (arith, ints, h.0)

-- the virtual time is no further than who isn't eligible
time_before : (q : State) (t : ℕ) (e : Entry) → get q.runnable t ≡ Some e → is_eligible q.runnable e ≡ false → virtual_time q ≤ℤ e.v
time_before q t e here is =
    over_some (total_weight q.runnable) (total_moment q.runnable) q.base e.v (weighs q.runnable t e here)
    (floor_within (total_moment q.runnable) e.v (total_weight q.runnable) (weighs q.runnable t e here) (omega (arith, ints, is)))

-- so the lesser one of it and of the pick's deadline is before each deadline
pub before_by : (q : State) (p : ℕ) (pick : IsPick q.runnable p) → NoneIsPastDue q.runnable → (t : ℕ) (e : Entry) → get q.runnable t ≡ Some e
    → (c : Bool) → is_eligible q.runnable e ≡ c → int_min (virtual_time q) pick.entry.d ≤ℤ e.d
before_by q p pick due t e here true is =
    then (int_min (virtual_time q) pick.entry.d) pick.entry.d e.d (lesser_other (virtual_time q) pick.entry.d)
    (no_later pick.entry.d e.d p t (pick.first t e (record { here = here; owed = is })))
before_by q p pick due t e here false is =
    then (int_min (virtual_time q) pick.entry.d) (virtual_time q) e.d (lesser (virtual_time q) pick.entry.d)
    (then (virtual_time q) e.v e.d (time_before q t e here is) (due t e here))

pub none_later : PickIsFirst → (q : State) (b : Bounds) (p : ℕ) (f : Entry) → IsKept q → IsFair q b → pick_of q.runnable ≡ Some p → get q.runnable p ≡ Some f
    → NoneIsLaterThan q (late_by b (int_min (virtual_time q) f.d))
none_later first q b p f kept fair is at task e here =
    let pick : IsPick q.runnable p = first q.runnable p is in
    late_within q b kept fair (int_min (virtual_time q) f.d) task e here
    (subst (λ (x : Entry). int_min (virtual_time q) x.d ≤ℤ e.d) (one pick.entry f (get q.runnable p) pick.eligible.here at)
    (before_by q p pick fair.due task e here (is_eligible q.runnable e) refl))

pub none_at_all : PickOfNobody → (q : State) → pick_of q.runnable ≡ None → NoneIsLaterThan q (pos 0)
none_at_all nobody q is task e here =
    let none : q.runnable ≡ empty = (nobody q.runnable).0 (ap (λ (o : Option ℕ). is_some o) is) in
    let gone : get q.runnable task ≡ None = ap (λ (m : Tasks). get m task) none ∙ get-empty nat_cmp task in
    absurd (cc)

pub late_of : (q : State) (b : Bounds) (task : ℕ) (f : Entry) → IsKept q → IsFair q b → get q.runnable task ≡ Some f → IsLateBy q task (late_by b f.d)
late_of q b task f kept fair at e here =
    late_within q b kept fair f.d task e here (subst (λ (x : Entry). f.d ≤ℤ x.d) (one f e (get q.runnable task) at here) (nothing_less f.d))

-- ---- a greater number
no_earlier : (d a b : ℤ) → a ≤ℤ b → (d +ℤ a) ≤ℤ (d +ℤ b)
no_earlier d a b h = omega (arith, ints, h)

pub none_later_than_more : (q : State) (a b : ℤ) → NoneIsLaterThan q a → a ≤ℤ b → NoneIsLaterThan q b
none_later_than_more q a b late more task e here =
    then (total_moment q.runnable) ((e.d +ℤ a) *ℤ pos (total_weight q.runnable)) ((e.d +ℤ b) *ℤ pos (total_weight q.runnable)) (late task e here)
    (scaled_le (e.d +ℤ a) (e.d +ℤ b) (total_weight q.runnable) (no_earlier e.d a b more))
