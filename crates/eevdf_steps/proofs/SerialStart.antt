-- At the start nothing is under way, and the machine is the history's.
use Rattle.std.proofs.Common.{◌≡◌, ℕ, false, [], replicate, take, ap, arith}
use Rattle.std.specs.Prelude.{None}
use Rattle.eevdf_ops.specs.Machine.{Machine}
use Rattle.eevdf_steps.specs.Plan.{IsSound, Plan, callers}
use Rattle.eevdf_steps.specs.{MicroSteps.steps_by, Orders.counters_at_start, Serial.IsSerial, Serial.begun_by}
use Rattle.eevdf_steps.specs.Counters.{held_by_steps, holds, step_next}
use Rattle.eevdf_steps.proofs.{Holders.count_first, Holders.none_first, Walking.fresh_at_start, OwnSteps.fresh_begun}
use Rattle.eevdf_steps.proofs.OwnSteps.{no_answer}

holds_nothing : (plan : Plan) (c p : ℕ) → holds plan (counters_at_start plan) c p ≡ false
holds_nothing plan c p = ap (λ (n : ℕ). held_by_steps c false (take n (steps_by plan p))) (count_first (callers plan) p)

begun_first : (plan : Plan) (p : ℕ) → IsSound plan → begun_by plan (counters_at_start plan) p ≡ None
begun_first plan p sound = fresh_begun p (step_next plan (counters_at_start plan) p) (fresh_at_start plan p sound)

pub serial_start : (plan : Plan) (m : Machine) → IsSound plan → m ≡ plan.start
    → IsSerial plan plan.start (counters_at_start plan) (record { machine = m; hands = replicate (callers plan) None; answers = replicate (callers plan) None }) []
serial_start plan m sound is = grind (arith, holds_nothing, none_first, begun_first, no_answer)
