-- From a fresh start every list of turns keeps each task fair, and from any state counted from a front.
use Rattle.std.proofs.Common.{◌≡◌, ℕ, ◌+◌, Bool, true, false, List, Some, refl, arith}
use Rattle.std.specs.Prelude.{ℤ, pos, ◌+ℤ◌, ◌-ℤ◌, ◌*ℤ◌, ◌≤ℤ◌, ◌<ℤ◌, int_lt}
use Rattle.std.specs.{FinMap.get, Int.int_max}
use Rattle.std.proofs.lemmas.Int.{ints, clamps}
use Rattle.eevdf_weight.specs.{Weight.weight_of, Charge.charge_of}
use Rattle.eevdf_queue.specs.{declared.entry.Entry.Entry, State.State, Moves.request_of, Laws.PickIsFirst, Laws.PickOfNobody}
use Rattle.eevdf_queue.specs.Sums.{Tasks, total_weight, total_moment}
use Rattle.eevdf_fairness.specs.Turns.{Turn, AreNoLonger, IsFresh, after_turns}
use Rattle.eevdf_fairness.specs.Anywhere.{HasPassedFront, IsStillFairPast, TurnsAreFairAnywhere, LeavingsKeepFairAnywhere}
use Rattle.eevdf_fairness.specs.{Fair.TurnsAreFair, Fair.turns_of_others, Healing.IsPunctual, Leavings.after_steps, Leavings.lowered_by, Leavings.LeavingsKeepFair}
use Rattle.eevdf_fairness.proofs.Rules.{IsWithin, Keeps, rule_of, settled, Everyone, Nobody, Nothing, Short, keeps_nothing, keeps_short, fresh_within, anywhere_within}
use Rattle.eevdf_fairness.proofs.{Steps.turns_within, Steps.steps_within, Steps.settled_steps, Steps.nothing_steps, Falling.falls_short, Bounds.itself, Bounds.rest_after, Bounds.late_after, Bounds.ahead_now, Bounds.punctual_now, Bounds.fair}

-- ---- from a fresh start
pub fresh_turns : PickIsFirst → PickOfNobody → (q : State) (v : ℤ) (ns : ℕ) (turns : List Turn) → IsFresh v q.runnable → AreNoLonger ns turns
    → IsWithin (settled ns v Everyone) (after_turns q turns).runnable
fresh_turns first nobody q v ns turns fresh short =
    turns_within first nobody (settled ns v Everyone) q turns short (fresh_within v ns Everyone q.runnable fresh)

pub turns_are_fair : PickIsFirst → PickOfNobody → TurnsAreFair
turns_are_fair first nobody q v ns turns fresh short t e here =
    fair ns v (after_turns q turns).runnable (fresh_turns first nobody q v ns turns fresh short) t e here

-- ---- while tasks leave
apart_by : (v u d : ℤ) (a c : ℕ) → v ≤ℤ (d +ℤ pos a) → d ≤ℤ (u +ℤ pos c) → v ≤ℤ (u +ℤ pos (c + a))
apart_by v u d a c h k = omega (arith, ints, h, k)

pub leavings_keep_fair : PickIsFirst → PickOfNobody → LeavingsKeepFair
leavings_keep_fair first nobody q v ns steps fresh short t e here =
    let w : IsWithin (settled ns (v -ℤ lowered_by q steps) Nobody) (after_steps q steps).runnable =
    steps_within first nobody ns (λ front. settled ns front Nobody) (settled_steps ns Short keeps_short falls_short) q v steps short (fresh_within v ns Nobody q.runnable fresh) in
    let kept = w.kept t e here in
    let punctual : IsPunctual ns (after_steps q steps).runnable e = punctual_now ns (v -ℤ lowered_by q steps) Nobody _ _ (after_steps q steps).runnable w t e here kept.0 in
    record {
      past = punctual.past;
      late = punctual.late;
      rest = punctual.rest;
      behind = punctual.behind kept.1;
      apart = λ u f found.
          let other = w.kept u f found in
          apart_by e.v f.v f.d (charge_of ns (weight_of e.nice)) (request_of f.nice f.slice)
          (w.past f.d other.0 u f found tt (itself f.d) t e here) other.1;
    }

-- ---- from anywhere
max_first : (a b : ℤ) → a ≤ℤ int_max a b
max_first a b = omega (arith, ints, clamps)

max_second : (a b : ℤ) → b ≤ℤ int_max a b
max_second a b = omega (arith, ints, clamps)

healed_by : (d front a b : ℤ) → (d ≤ℤ front → a ≤ℤ b) → b <ℤ a → front <ℤ d
healed_by d front a b h k =
    by (int_lt front d) refl
  where
    by : (t : Bool) → int_lt front d ≡ t → front <ℤ d
    by true is = omega (arith, ints, is)
    by false is =
        let early : d ≤ℤ front = omega (arith, ints, is) in
        let bound : a ≤ℤ b = h early in
        absurd (omega (arith, ints, k, bound))

module _ (ns : ℕ) (front : ℤ) (Guard : Entry → Type 0) (Kept : ℕ → Entry → Type 0) (keeps : Keeps Kept) (tasks : Tasks)
    (w : IsWithin (rule_of ns front Guard Kept keeps) tasks) (t : ℕ) (e : Entry) (here : get tasks t ≡ Some e) where
  -- where the virtual time has passed the front, so has each deadline
  pub healed : HasPassedFront front ns tasks → front <ℤ e.d
  healed =
      healed_by e.d front (total_moment tasks) ((front *ℤ pos (total_weight tasks)) +ℤ pos (turns_of_others ns tasks))
      (late_after ns front Guard Kept keeps tasks w t e here front (itself front))

  pub still : IsStillFairPast front ns tasks e
  still = record {
    past = w.past (int_max e.d front) (max_second e.d front) t e here tt (max_first e.d front);
    late = late_after ns front Guard Kept keeps tasks w t e here (int_max e.d front) (max_second e.d front) (max_first e.d front);
    rest = rest_after ns front Guard Kept keeps tasks w t e here (int_max e.d front) (max_second e.d front) (max_first e.d front);
    healed = healed;
  }

pub turns_are_fair_anywhere : PickIsFirst → PickOfNobody → TurnsAreFairAnywhere
turns_are_fair_anywhere first nobody q front ns turns none short t e here =
    let w : IsWithin (rule_of ns front (λ e. front <ℤ e.v) Nothing keeps_nothing) (after_turns q turns).runnable =
    turns_within first nobody (rule_of ns front (λ e. front <ℤ e.v) Nothing keeps_nothing) q turns short
    (anywhere_within ns front (λ e. front <ℤ e.v) Nothing keeps_nothing q.runnable (λ e so. so) none (λ t e here. tt)) in
    record {
      still = still ns front (λ e. front <ℤ e.v) Nothing keeps_nothing (after_turns q turns).runnable w t e here;
      ahead = ahead_now ns front (λ e. front <ℤ e.v) Nothing keeps_nothing (after_turns q turns).runnable w t e here;
    }

pub leavings_keep_fair_anywhere : PickIsFirst → PickOfNobody → LeavingsKeepFairAnywhere
leavings_keep_fair_anywhere first nobody q front ns steps none short t e here =
    still ns (front -ℤ lowered_by q steps) Nobody Nothing keeps_nothing (after_steps q steps).runnable
    (steps_within first nobody ns (λ time. rule_of ns time Nobody Nothing keeps_nothing) (nothing_steps ns) q front steps short
    (anywhere_within ns front Nobody Nothing keeps_nothing q.runnable (λ e so. absurd so) none (λ t e here. tt))) t e here
