-- The virtual time is no further than the furthest task.
use Rattle.std.proofs.Common.{◌≡◌, ℕ, ◌≤◌, Bool, true, false, cond, Some, refl, arith}
use Rattle.std.specs.Prelude.{ℤ, pos, negsuc, ◌-ℤ◌, ◌*ℤ◌, ◌≤ℤ◌, ◌==◌}
use Rattle.std.specs.{FinMap.get}
use Rattle.std.proofs.{lemmas.Int.ints, lemmas.Bool.Decides.nat_tests, Math.Nat.div-le_self}
use Rattle.eevdf_weight.specs.{Placement.floor_div}
use Rattle.eevdf_weight.proofs.Weighing.{weight_of-least}
use Rattle.eevdf_queue.specs.{declared.entry.Entry.Entry, State.State, Sums.Tasks, Sums.total_weight, Sums.total_moment, Sums.time_over, Sums.virtual_time}
use Rattle.eevdf_queue.proofs.Floors.{floor_lowered}
use Rattle.eevdf_fairness.proofs.EntrySums.{no_heavier}
use Rattle.eevdf_dozes.proofs.Punctual.{time_within}

floor_of_none : (z : ℤ) (n : ℕ) → z ≤ℤ pos 0 → floor_div z n ≤ℤ pos 0
floor_of_none (pos a) n h = omega (arith, ints, h, div-le_self a n)
floor_of_none (negsuc a) n h = omega (arith, ints)

less_by : (a b : ℤ) → a ≤ℤ b → (a -ℤ b) ≤ℤ pos 0
less_by a b h = omega (arith, ints, h)

less_than : (f g limit : ℤ) → g ≡ f -ℤ limit → g ≤ℤ pos 0 → f ≤ℤ limit
less_than f g limit h k = omega (arith, ints, h, k)

-- a quotient rounded down of a sum that is within a time
pub floor_within : (moment limit : ℤ) (weight : ℕ) → 1 ≤ weight → moment ≤ℤ (limit *ℤ pos weight) → floor_div moment weight ≤ℤ limit
floor_within moment limit weight some h =
    less_than (floor_div moment weight) (floor_div (moment -ℤ (limit *ℤ pos weight)) weight) limit (floor_lowered moment limit weight some)
    (floor_of_none (moment -ℤ (limit *ℤ pos weight)) weight (less_by moment (limit *ℤ pos weight) h))

pub over_some : (weight : ℕ) (moment base limit : ℤ) → 1 ≤ weight → floor_div moment weight ≤ℤ limit → time_over weight moment base ≤ℤ limit
over_some weight moment base limit some h =
    by (weight == 0) refl
  where
    by : (b : Bool) → (weight == 0) ≡ b → cond b base (floor_div moment weight) ≤ℤ limit
    by true is = absurd (nothing (grind (arith, nat_tests)))
      where
        nothing : weight ≡ 0 → ⊥
        nothing e = omega (arith, some, e)
    by false is = h

pub weighs : (tasks : Tasks) (t : ℕ) (e : Entry) → get tasks t ≡ Some e → 1 ≤ total_weight tasks
weighs tasks t e here = omega (arith, no_heavier tasks t e here, weight_of-least e.nice)

-- where no runnable task is past a time, the virtual time isn't
pub mean_within : (q : State) (limit : ℤ) (t : ℕ) (e : Entry) → get q.runnable t ≡ Some e
    → ((u : ℕ) (x : Entry) → get q.runnable u ≡ Some x → x.v ≤ℤ limit) → virtual_time q ≤ℤ limit
mean_within q limit t e here within =
    let some : 1 ≤ total_weight q.runnable = weighs q.runnable t e here in
    over_some (total_weight q.runnable) (total_moment q.runnable) q.base limit some
    (floor_within (total_moment q.runnable) limit (total_weight q.runnable) some (time_within q.runnable limit within))
