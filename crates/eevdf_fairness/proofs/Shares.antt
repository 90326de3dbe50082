-- Each task has its share of the time, but for what it can be behind and ahead.
use Rattle.std.proofs.Common.{◌≡◌, ℕ, ◌+◌, ◌*◌, ◌≤◌, List, Some, subst, arith}
use Rattle.std.specs.Prelude.{ℤ}
use Rattle.std.specs.FinMap.{get}
use Rattle.std.proofs.{Math.Nat.mul-le-mul_right}
use Rattle.eevdf_weight.specs.Weight.{weight_of}
use Rattle.eevdf_queue.specs.{declared.entry.Entry.Entry, State.State, Laws.PickIsFirst, Laws.PickOfNobody, Sums.total_weight}
use Rattle.eevdf_fairness.specs.Turns.{Turn, HaveNoShorterTicks, after_turns}
use Rattle.eevdf_fairness.specs.Share.{swing, most_lost, NoneLosesMore, IsShare, HasItsShare, TurnsGiveShares}
use Rattle.eevdf_fairness.specs.Tallies.{cpu_time, cpu_charges, cpu_rounding, task_time, task_charges, task_rounding}
use Rattle.eevdf_fairness.proofs.{Passing.IsServed, Passing.turns_passed, Rules.IsWithin, Rules.settled, Rules.Everyone, Steps.turns_within}
use Rattle.eevdf_fairness.proofs.{Bounds.fair, Ends.share_by_ends, Fairness.fresh_turns, LongTicks.cpu_charges_long, LongTicks.task_charges_long}

in_time_by : (A B C X Y m u p : ℕ) → A + Y ≤ B + p * X + C → m * X ≤ u → A * m ≤ B * m + p * u + C * m
in_time_by A B C X Y m u p h k =
    let all : (A + Y) * m ≤ (B + p * X + C) * m = mul-le-mul_right m h in
    let part : (m * X) * p ≤ u * p = mul-le-mul_right p k in
    omega (arith, all, part)

in_time_most : (w W swing m T R s r u : ℕ) → W * (1024 * s) + w * R ≤ w * (1024 * T) + W * r + swing → m * r ≤ u
    → W * (1024 * m * s) ≤ w * (1024 * m * T) + W * u + m * swing
in_time_most w W swing m T R s r u h k =
    let is = in_time_by (W * (1024 * s)) (w * (1024 * T)) swing r (w * R) m u W h k in
    omega (arith, is)

in_time_least : (w W swing m T R s r u : ℕ) → w * (1024 * T) + W * r ≤ W * (1024 * s) + w * R + swing → m * R ≤ u
    → w * (1024 * m * T) ≤ W * (1024 * m * s) + w * u + m * swing
in_time_least w W swing m T R s r u h k =
    let is = in_time_by (w * (1024 * T)) (W * (1024 * s)) swing R (W * r) m u w h k in
    omega (arith, is)

by_charges : (A B C X Y u p : ℕ) → A + Y ≤ B + p * X + C → X ≤ u → A ≤ B + p * u + C
by_charges A B C X Y u p h k =
    let part : X * p ≤ u * p = mul-le-mul_right p k in
    omega (arith, h, part)

little_lost : (m x u k t : ℕ) → x ≤ u * k → m * k ≤ t → m * x ≤ u * t
little_lost m x u k t h l =
    let lost : x * m ≤ (u * k) * m = mul-le-mul_right m h in
    let long : (m * k) * u ≤ t * u = mul-le-mul_right u l in
    omega (arith, lost, long)

none_run : (W m a b c s : ℕ) → s ≡ 0 → a ≤ W * (m * s) + b + c → a ≤ b + c
none_run W m a b c s idle h =
    let is : a ≤ W * (m * 0) + b + c = subst (λ (x : ℕ). a ≤ W * (m * x) + b + c) idle h in
    omega (arith, is)

pub share_of : (ns : ℕ) (front : ℤ) (q : State) (turns : List Turn) (t : ℕ) (e : Entry) → get q.runnable t ≡ Some e
    → IsWithin (settled ns front Everyone) q.runnable → IsWithin (settled ns front Everyone) (after_turns q turns).runnable → HasItsShare ns q turns t e
share_of ns front q turns t e here w z =
    let passed = turns_passed t q turns in
    let served : IsServed e (task_time t q turns) (task_rounding t q turns) (task_charges t q turns) (get (after_turns q turns).runnable t) = passed.served e here in
    let share : IsShare (weight_of e.nice) (total_weight q.runnable) (swing ns q.runnable e) (cpu_time q turns) (cpu_rounding q turns) (task_time t q turns) (task_rounding t q turns) =
    share_by_ends ns q.runnable (after_turns q turns).runnable t e (cpu_time q turns) (cpu_rounding q turns) (cpu_charges q turns) (task_time t q turns) (task_rounding t q turns)
    (task_charges t q turns) served passed (fair ns front q.runnable w t e here) (fair ns front (after_turns q turns).runnable z t served.entry served.here) in
    let least_in_time : (least most : ℕ) → HaveNoShorterTicks least turns → NoneLosesMore most q.runnable
    → weight_of e.nice * (1024 * least * cpu_time q turns)
    ≤ total_weight q.runnable * (1024 * least * task_time t q turns) + weight_of e.nice * (most * cpu_time q turns) + least * swing ns q.runnable e =
    λ least most long none.
    in_time_least (weight_of e.nice) (total_weight q.runnable) (swing ns q.runnable e) least (cpu_time q turns) (cpu_rounding q turns) (task_time t q turns)
    (task_rounding t q turns) (most * cpu_time q turns) share.at_least
    (little_lost least (cpu_rounding q turns) most (cpu_charges q turns) (cpu_time q turns) (passed.rounded most none) (cpu_charges_long least q turns long)) in
    let least_by_charges : (most : ℕ) → NoneLosesMore most q.runnable → weight_of e.nice * (1024 * cpu_time q turns)
    ≤ total_weight q.runnable * (1024 * task_time t q turns) + weight_of e.nice * (most * cpu_charges q turns) + swing ns q.runnable e =
    λ most none.
    by_charges (weight_of e.nice * (1024 * cpu_time q turns)) (total_weight q.runnable * (1024 * task_time t q turns)) (swing ns q.runnable e) (cpu_rounding q turns)
    (total_weight q.runnable * task_rounding t q turns) (most * cpu_charges q turns) (weight_of e.nice) share.at_least (passed.rounded most none) in
    record {
      share = share;
      task_rounded = served.rounded;
      cpu_rounded = passed.rounded;
      by_charges = λ most none. record {
        at_most = by_charges (total_weight q.runnable * (1024 * task_time t q turns)) (weight_of e.nice * (1024 * cpu_time q turns)) (swing ns q.runnable e) (task_rounding t q turns)
            (weight_of e.nice * cpu_rounding q turns) (most_lost (weight_of e.nice) * task_charges t q turns) (total_weight q.runnable) share.at_most served.rounded;
        at_least = least_by_charges most none;
      };
      waits_by_charges = λ most none idle.
          none_run (total_weight q.runnable) 1024 (weight_of e.nice * (1024 * cpu_time q turns)) (weight_of e.nice * (most * cpu_charges q turns))
          (swing ns q.runnable e) (task_time t q turns) idle (least_by_charges most none);
      in_time = λ least most long none. record {
        at_most = in_time_most (weight_of e.nice) (total_weight q.runnable) (swing ns q.runnable e) least (cpu_time q turns) (cpu_rounding q turns) (task_time t q turns)
            (task_rounding t q turns) (most_lost (weight_of e.nice) * task_time t q turns) share.at_most
            (little_lost least (task_rounding t q turns) (most_lost (weight_of e.nice)) (task_charges t q turns) (task_time t q turns) served.rounded (task_charges_long t least q turns long));
        at_least = least_in_time least most long none;
      };
      waits = λ least most long none idle.
          none_run (total_weight q.runnable) (1024 * least) (weight_of e.nice * (1024 * least * cpu_time q turns)) (weight_of e.nice * (most * cpu_time q turns))
          (least * swing ns q.runnable e) (task_time t q turns) idle (least_in_time least most long none);
    }

pub turns_give_shares : PickIsFirst → PickOfNobody → TurnsGiveShares
turns_give_shares first nobody q v ns before turns fresh short more t e here =
    let start : IsWithin (settled ns v Everyone) (after_turns q before).runnable = fresh_turns first nobody q v ns before fresh short in
    share_of ns v (after_turns q before) turns t e here start
    (turns_within first nobody (settled ns v Everyone) (after_turns q before) turns more start)
