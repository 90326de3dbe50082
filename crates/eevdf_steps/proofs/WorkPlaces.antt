-- Each task stands in one place while the callers work.
use Rattle.std.proofs.Common.{◌≡◌, ℕ, zero, suc, ◌<◌, ◌≤◌, Bool, true, List, [], ◌∷◌, get_or, ap, arith}
use Rattle.std.specs.Prelude.{◌==◌, IfSome, Option, Some, None}
use Rattle.eevdf_queue.specs.State.{Contents}
use Rattle.eevdf_ops.specs.{Machine.queue_at, Places.count, Places.places_in}
use Rattle.eevdf_ops.proofs.MachinePlaces.{places-at}
use Rattle.eevdf_steps.specs.{Plan.Plan, Plan.callers, Playing.IsWork, Places.hands_with, Places.is_in_hand, Work.Work, Work.hand}

own_hand : (p : Contents) → count (is_in_hand (Some p) p.task) ≡ 1
own_hand p = ap count (let same : (p.task == p.task) ≡ true = grind arith in same)

-- what is in a hand is in one
in_one : (hands : List (Option Contents)) (k : ℕ) (p : Contents) → get_or hands k None ≡ Some p → 1 ≤ hands_with hands p.task
in_one [] k p e = cc
in_one (h ∷ hands) zero p e = grind arith
in_one (h ∷ hands) (suc k) p e = let rest : 1 ≤ hands_with hands p.task = in_one hands k p e in omega arith

pub count-le : (b : Bool) → count b ≤ 1
count-le b = grind arith

-- a task in a hand stands in no queue
pub held_nowhere : (plan : Plan) (w : Work) (k c : ℕ) (p : Contents) → IsWork plan w → c < callers plan → hand w k ≡ Some p → places_in (queue_at w.machine c) p.task ≡ 0
held_nowhere plan w k c p works below e = grind (arith, in_one, count-le, places-at)

pub hand_nowhere : (plan : Plan) (w : Work) (k c : ℕ) (h : Option Contents) → IsWork plan w → c < callers plan → hand w k ≡ h
    → IfSome h (λ (p : Contents). places_in (queue_at w.machine c) p.task ≡ 0)
hand_nowhere plan w k c h works below e = grind (arith, held_nowhere)
