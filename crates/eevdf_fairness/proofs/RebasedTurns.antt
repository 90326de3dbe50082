-- Turns and rebases keep each task fair, from a fresh start and from any state.
use Rattle.std.proofs.Common.{◌≡◌, ℕ, ◌≤◌, List, [], ◌∷◌, refl, sym, subst, arith}
use Rattle.std.specs.Prelude.{ℤ, ◌-ℤ◌, ◌<ℤ◌}
use Rattle.std.proofs.lemmas.Int.{ints}
use Rattle.eevdf_queue.specs.{State.State, Laws.PickIsFirst, Laws.PickOfNobody, Rebase.rebase}
use Rattle.eevdf_ops.specs.Machine.{queue_at}
use Rattle.eevdf_fairness.specs.{Turns.turn_length, Turns.after_turn, Fair.AllAreFair, Anywhere.AllAreFairPast, OneCpuSteps.StepsOfOneCpu}
use Rattle.eevdf_fairness.specs.Leavings.{Step, Takes, Leaves, Rebases, after_steps, lowered_by, HaveNoLongerTurns}
use Rattle.eevdf_fairness.specs.RebasedTurns.{NobodyLeaves, RebasedTurnsAreFair, RebasedTurnsAreFairAnywhere, RebasedCpuIsFair, RebasedCpuIsFairAnywhere}
use Rattle.eevdf_fairness.proofs.Rules.{Rule, IsWithin, After, Everyone, Nothing, Short, rule_of, settled, keeps_after, keeps_nothing, keeps_short, fresh_within, anywhere_within}
use Rattle.eevdf_fairness.proofs.Falling.{IsLowerRule, falls_after, falls_nothing, falls_short, lower_rule_of, rebase_within}
use Rattle.eevdf_fairness.proofs.{Steps.turns_within, Steps.lower_again, Steps.no_lower, Bounds.fair, Bounds.ahead_now, Fairness.still}

-- ---- turns and rebases, one after the other
module _ (first : PickIsFirst) (nobody : PickOfNobody) (ns : ℕ) (by_front : ℤ → Rule) (same_ns : (front : ℤ) → (by_front front).ns ≡ ns)
    (falls : (front by : ℤ) → IsLowerRule by (by_front front) (by_front (front -ℤ by))) where
  rebased_within : (q : State) (front : ℤ) (steps : List Step) → NobodyLeaves steps → HaveNoLongerTurns ns steps → IsWithin (by_front front) q.runnable
      → IsWithin (by_front (front -ℤ lowered_by q steps)) (after_steps q steps).runnable
  rebased_within q front [] stay h w = subst (λ (z : ℤ). IsWithin (by_front z) q.runnable) (no_lower front) w
  rebased_within q front (Takes turn ∷ steps) stay h w =
      rebased_within (after_turn q turn) front steps stay h.1
      (turns_within first nobody (by_front front) q (turn ∷ []) (subst (λ (n : ℕ). turn_length turn ≤ n) (sym (same_ns front)) h.0, tt) w)
  rebased_within q front (Leaves task ∷ steps) stay h w = absurd stay
  rebased_within q front (Rebases ∷ steps) stay h w =
      subst (λ (z : ℤ). IsWithin (by_front z) (after_steps (rebase q).1 steps).runnable) (lower_again front ((rebase q).0) (lowered_by (rebase q).1 steps))
      (rebased_within (rebase q).1 (front -ℤ (rebase q).0) steps stay h
      (rebase_within q (by_front front) (by_front (front -ℤ (rebase q).0)) (falls front ((rebase q).0)) w))

-- ---- from a fresh start
pub rebased_turns_are_fair : PickIsFirst → PickOfNobody → RebasedTurnsAreFair
rebased_turns_are_fair first nobody q v ns steps stay fresh short t e here =
    fair ns (v -ℤ lowered_by q steps) (after_steps q steps).runnable
    (rebased_within first nobody ns (λ front. settled ns front Everyone) (λ front. refl)
    (λ front by. lower_rule_of ns front by Everyone Everyone (After front Short) (After (front -ℤ by) Short) (keeps_after front Short keeps_short)
    (keeps_after (front -ℤ by) Short keeps_short) (λ e so. tt) (falls_after front Short falls_short by))
    q v steps stay short (fresh_within v ns Everyone q.runnable fresh)) t e here

-- ---- from any state
past_again : (front v by : ℤ) → (front -ℤ by) <ℤ (v -ℤ by) → front <ℤ v
past_again front v by h = omega (arith, ints, h)

abbrev past_rule : ℕ → ℤ → Rule
past_rule ns front = rule_of ns front (λ e. front <ℤ e.v) Nothing keeps_nothing

pub rebased_turns_are_fair_anywhere : PickIsFirst → PickOfNobody → RebasedTurnsAreFairAnywhere
rebased_turns_are_fair_anywhere first nobody q front ns steps stay none short t e here =
    let now : ℤ = front -ℤ lowered_by q steps in
    let w : IsWithin (past_rule ns now) (after_steps q steps).runnable =
    rebased_within first nobody ns (past_rule ns) (λ time. refl)
    (λ time by. lower_rule_of ns time by (λ f. time <ℤ f.v) (λ f. (time -ℤ by) <ℤ f.v) Nothing Nothing keeps_nothing keeps_nothing
    (λ f so. past_again time f.v by so) (falls_nothing by))
    q front steps stay short (anywhere_within ns front (λ f. front <ℤ f.v) Nothing keeps_nothing q.runnable (λ f so. so) none (λ t f found. tt)) in
    record {
      still = still ns now (λ f. now <ℤ f.v) Nothing keeps_nothing (after_steps q steps).runnable w t e here;
      ahead = ahead_now ns now (λ f. now <ℤ f.v) Nothing keeps_nothing (after_steps q steps).runnable w t e here;
    }

-- ---- on a machine
pub rebased_cpu_is_fair : StepsOfOneCpu → RebasedTurnsAreFair → RebasedCpuIsFair
rebased_cpu_is_fair same fair_turns homes m cpu deeds v ns steps h only stay fresh short =
    subst (AllAreFair ns) (sym (same homes m cpu deeds steps h only).runnable) (fair_turns (queue_at m cpu) v ns steps stay fresh short)

pub rebased_cpu_is_fair_anywhere : StepsOfOneCpu → RebasedTurnsAreFairAnywhere → RebasedCpuIsFairAnywhere
rebased_cpu_is_fair_anywhere same fair_turns homes m cpu deeds front ns steps h only stay none short =
    subst (AllAreFairPast (front -ℤ lowered_by (queue_at m cpu) steps) ns) (sym (same homes m cpu deeds steps h only).runnable)
    (fair_turns (queue_at m cpu) front ns steps stay none short)
