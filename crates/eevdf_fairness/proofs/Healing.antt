-- When the state that turns began in counts no more.
use Rattle.std.proofs.Common.{◌≡◌, ℕ, ◌+◌, ◌-◌, ◌*◌, ◌≤◌, List, Some, sym, subst, arith}
use Rattle.std.specs.Prelude.{ℤ, pos, ◌+ℤ◌, ◌-ℤ◌, ◌*ℤ◌, ◌≤ℤ◌, ◌<ℤ◌}
use Rattle.std.specs.FinMap.{get}
use Rattle.std.proofs.{lemmas.Int.ints, lemmas.Int.by_lt_z, Math.Nat.mul-le-mul_right}
use Rattle.eevdf_weight.specs.{Weight.weight_of, Charge.charge_of}
use Rattle.eevdf_queue.specs.{declared.entry.Entry.Entry, State.State, Laws.PickIsFirst, Laws.PickOfNobody}
use Rattle.eevdf_queue.specs.Sums.{Tasks, total_weight, total_moment}
use Rattle.eevdf_queue.proofs.Scaled.{scaled_le}
use Rattle.eevdf_fairness.specs.{Turns.Turn, Turns.AreNoLonger, Turns.after_turns, Leavings.Step, Leavings.HaveNoLongerTurns, Leavings.after_steps, Leavings.lowered_by, Fair.turns_of_others, Anywhere.NoneIsPast, Anywhere.HasPassedFront}
use Rattle.eevdf_fairness.specs.Healing.{HasCaughtUp, TurnsHeal, HealedTurnsGiveShares, LeavingsHeal}
use Rattle.eevdf_fairness.specs.Tallies.{cpu_time, cpu_rounding}
use Rattle.eevdf_fairness.proofs.Rules.{Rule, IsWithin, IsLittleAhead, Keeps, rule_of, settled, After, keeps_after, Everyone, Nobody, Nothing, keeps_nothing, Short, keeps_short, anywhere_within}
use Rattle.eevdf_fairness.proofs.{EntrySums.no_heavier, Passing.turns_passed, Steps.turns_within, Steps.steps_within, Steps.settled_steps, Steps.nothing_steps, Falling.falls_nothing}
use Rattle.eevdf_fairness.proofs.{Bounds.ahead_now, Bounds.punctual_now, Owed.owed, Fairness.healed, Shares.share_of}

-- ---- once the virtual time has passed the front, no deadline lies before that
low : (v front S : ℤ) (w W c x : ℕ) → v ≤ℤ front → ((front *ℤ pos W) +ℤ pos x) <ℤ S → w ≤ W → ((v *ℤ pos W) +ℤ pos (w * c)) ≤ℤ (S +ℤ pos (W * c))
low v front S w W c x h passed l =
    let more : w * c ≤ W * c = mul-le-mul_right c l in
    omega (arith, ints, scaled_le v front W h, passed, more)

earlier : (a b : ℤ) → a <ℤ b → a ≤ℤ b
earlier a b h = omega (arith, ints, h)

module _ (ns : ℕ) (front : ℤ) (Guard Then : Entry → Type 0) (Kept : ℕ → Entry → Type 0) (keeps : Keeps Kept) (tasks : Tasks)
    (w : IsWithin (rule_of ns front Guard Kept keeps) tasks) (passed : HasPassedFront front ns tasks) where
  settled_within : ((t : ℕ) (e : Entry) → get tasks t ≡ Some e → Then e → IsLittleAhead ns (total_weight tasks) (total_moment tasks) e)
      → IsWithin (rule_of ns front Then (After front Kept) (keeps_after front Kept keeps)) tasks
  settled_within ahead = record {
    within = w.within;
    past = w.past;
    ahead = ahead;
    kept = λ t e here. (earlier front e.d (healed ns front Guard Kept keeps tasks w t e here passed), w.kept t e here);
  }

module _ (ns : ℕ) (front : ℤ) (Kept : ℕ → Entry → Type 0) (keeps : Keeps Kept) (tasks : Tasks)
    (w : IsWithin (rule_of ns front (λ e. front <ℤ e.v) Kept keeps) tasks) (passed : HasPassedFront front ns tasks) where
  all_ahead : (t : ℕ) (e : Entry) → get tasks t ≡ Some e → IsLittleAhead ns (total_weight tasks) (total_moment tasks) e
  all_ahead t e here =
      by_lt_z front e.v (λ past. w.ahead t e here past)
      (λ low_v. low e.v front (total_moment tasks) (weight_of e.nice) (total_weight tasks) (charge_of ns (weight_of e.nice)) (turns_of_others ns tasks)
      low_v passed (no_heavier tasks t e here))

  pub healed_within : IsWithin (rule_of ns front Everyone (After front Kept) (keeps_after front Kept keeps)) tasks
  healed_within = settled_within ns front (λ e. front <ℤ e.v) Everyone Kept keeps tasks w passed (λ t e here so. all_ahead t e here)

-- ---- turns
moved : (a S Z : ℤ) (x r t : ℕ) → Z +ℤ pos r ≡ S +ℤ pos t → (a +ℤ pos (x + r)) <ℤ (S +ℤ pos t) → (a +ℤ pos x) <ℤ Z
moved a S Z x r t h k = omega (arith, ints, h, k)

passed_after : (q : State) (front : ℤ) (ns : ℕ) (turns : List Turn) → HasCaughtUp front ns q turns → HasPassedFront front ns (after_turns q turns).runnable
passed_after q front ns turns caught =
    let passed = turns_passed 0 q turns in
    let far : ((front *ℤ pos (total_weight q.runnable)) +ℤ pos (turns_of_others ns q.runnable)) <ℤ total_moment (after_turns q turns).runnable =
    moved (front *ℤ pos (total_weight q.runnable)) (total_moment q.runnable) (total_moment (after_turns q turns).runnable) (turns_of_others ns q.runnable)
    (cpu_rounding q turns) (1024 * cpu_time q turns) passed.moment caught in
    subst (λ (w : ℕ). ((front *ℤ pos w) +ℤ pos (turns_of_others ns (after_turns q turns).runnable)) <ℤ total_moment (after_turns q turns).runnable) (sym passed.weight)
    (subst (λ (n : ℕ). ((front *ℤ pos (total_weight q.runnable)) +ℤ pos ((n - 1) * (1024 * ns))) <ℤ total_moment (after_turns q turns).runnable) (sym passed.count) far)

module _ (first : PickIsFirst) (nobody : PickOfNobody) (q : State) (front : ℤ) (ns : ℕ) (Kept : ℕ → Entry → Type 0) (keeps : Keeps Kept)
    (none : NoneIsPast front q.runnable) (kept : (t : ℕ) (e : Entry) → get q.runnable t ≡ Some e → Kept t e) where
  healed_turns : (turns : List Turn) → AreNoLonger ns turns → HasCaughtUp front ns q turns
      → IsWithin (rule_of ns front Everyone (After front Kept) (keeps_after front Kept keeps)) (after_turns q turns).runnable
  healed_turns turns short caught =
      healed_within ns front Kept keeps (after_turns q turns).runnable
      (turns_within first nobody (rule_of ns front (λ e. front <ℤ e.v) Kept keeps) q turns short
      (anywhere_within ns front (λ e. front <ℤ e.v) Kept keeps q.runnable (λ e so. so) none kept))
      (passed_after q front ns turns caught)

pub turns_heal : PickIsFirst → PickOfNobody → TurnsHeal
turns_heal first nobody q front ns turns none short caught t e here =
    let w : IsWithin (rule_of ns front Everyone (After front Nothing) (keeps_after front Nothing keeps_nothing)) (after_turns q turns).runnable =
    healed_turns first nobody q front ns Nothing keeps_nothing none (λ t e here. tt) turns short caught in
    let kept = w.kept t e here in
    record {
      punctual = punctual_now ns front Everyone _ _ (after_turns q turns).runnable w t e here kept.0;
      owed = owed ns (after_turns q turns).runnable (λ u f found. w.ahead u f found tt) t e here;
      ahead = ahead_now ns front Everyone _ _ (after_turns q turns).runnable w t e here tt;
    }

pub healed_turns_give_shares : PickIsFirst → PickOfNobody → HealedTurnsGiveShares
healed_turns_give_shares first nobody q front ns before turns none kept short more caught t e here =
    let start : IsWithin (settled ns front Everyone) (after_turns q before).runnable =
    healed_turns first nobody q front ns Short keeps_short none kept before short caught in
    share_of ns front (after_turns q before) turns t e here start
    (turns_within first nobody (settled ns front Everyone) (after_turns q before) turns more start)

-- ---- while tasks leave
abbrev pub healed_rule : ℕ → ℤ → Rule
healed_rule ns front = rule_of ns front Nobody (After front Nothing) (keeps_after front Nothing keeps_nothing)

pub healed_steps : PickIsFirst → PickOfNobody → (q : State) (front : ℤ) (ns : ℕ) (before steps : List Step) → NoneIsPast front q.runnable
    → HaveNoLongerTurns ns before → HaveNoLongerTurns ns steps → HasPassedFront (front -ℤ lowered_by q before) ns (after_steps q before).runnable
    → IsWithin (healed_rule ns ((front -ℤ lowered_by q before) -ℤ lowered_by (after_steps q before) steps)) (after_steps (after_steps q before) steps).runnable
healed_steps first nobody q front ns before steps none short more passed =
    let now : ℤ = front -ℤ lowered_by q before in
    let middle : IsWithin (rule_of ns now Nobody Nothing keeps_nothing) (after_steps q before).runnable =
    steps_within first nobody ns (λ time. rule_of ns time Nobody Nothing keeps_nothing) (nothing_steps ns) q front before short
    (anywhere_within ns front Nobody Nothing keeps_nothing q.runnable (λ e so. absurd so) none (λ t e here. tt)) in
    steps_within first nobody ns (healed_rule ns) (settled_steps ns Nothing keeps_nothing falls_nothing) (after_steps q before) now steps more
    (settled_within ns now Nobody Nobody Nothing keeps_nothing (after_steps q before).runnable middle passed (λ t e here so. absurd so))

pub leavings_heal : PickIsFirst → PickOfNobody → LeavingsHeal
leavings_heal first nobody q front ns before steps none short more passed t e here =
    let now : ℤ = (front -ℤ lowered_by q before) -ℤ lowered_by (after_steps q before) steps in
    let w : IsWithin (healed_rule ns now) (after_steps (after_steps q before) steps).runnable =
    healed_steps first nobody q front ns before steps none short more passed in
    let kept = w.kept t e here in
    punctual_now ns now Nobody _ _ (after_steps (after_steps q before) steps).runnable w t e here kept.0
