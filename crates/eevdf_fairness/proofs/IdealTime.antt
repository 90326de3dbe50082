-- Shares of weights and shares of time, put together.
use Rattle.std.proofs.Common.{◌≡◌, ℕ, ◌+◌, ◌*◌, ◌<◌, ◌≤◌, Bool, true, false, cond, not, List, [], ◌∷◌, length, Some, refl, sym, ap, subst, ◌∙◌, arith}
use Rattle.std.specs.Prelude.{ℤ}
use Rattle.std.specs.FinMap.{get}
use Rattle.std.proofs.Math.Nat.{mul-le-mul_left, mul-le-mul_right}
use Rattle.eevdf_weight.specs.Weight.{weight_of}
use Rattle.eevdf_queue.specs.{declared.entry.Entry.Entry, State.State, Sums.total_weight}
use Rattle.eevdf_ops.specs.{declared.deeds.Answer.Answer, declared.deeds.Line.Line}
use Rattle.eevdf_ops.specs.declared.deeds.Deed.TheVariants.{Tick, Pull}
use Rattle.eevdf_ops.specs.{declared.deeds.Deed.Deed, Machine.Machine, Machine.queue_at, PartsLaws.OthersStay, Whole.lines_of, Whole.machine_after}
use Rattle.eevdf_balance.specs.FailedPulls.{has_failed, without_failed, effective, FailedPullsCanBeLeftOut}
use Rattle.eevdf_balance.specs.HalfShare.{ideal, IsIdealRate, RefusesTwo, BalancedGivesAtLeast}
use Rattle.eevdf_fairness.specs.Turns.{Turn, AreNoLonger, HaveNoShorterTicks}
use Rattle.eevdf_fairness.specs.{Healing.HealedTurnsGiveShares}
use Rattle.eevdf_fairness.specs.{Share.swing, Share.NoneLosesMore, Share.IsShareOfTime, Lines.time_on, Lines.time_of, Lines.HasItsShareOfLines}
use Rattle.eevdf_fairness.specs.Lines.{ticked_on, charged, charged_to, over_lines}
use Rattle.eevdf_fairness.specs.IdealTime.{CatchesUp, OnlyTurnsCount, HealedCpuGivesShares, HasOfIdealTime, BalancedGivesOfTime}
use Rattle.eevdf_fairness.proofs.Lines.{shares_of_lines, none_charged, none_charged_to}

-- ---- pulls that fail tell no time
unticked : (cpu : ℕ) (d : Deed) (a : Answer) → has_failed d a ≡ true → ticked_on cpu d ≡ 0
unticked cpu (Pull at source) a h = refl
unticked cpu (Tick at ns) a h = cc
unticked cpu d a h = refl

module _ (f : Answer → ℕ → ℕ) (none : (a : Answer) → f a 0 ≡ 0) (cpu : ℕ) where
  by_first : (l : Line) (rest all : List Line) (b : Bool) → has_failed l.deed l.answer ≡ b → over_lines f cpu rest ≡ over_lines f cpu all
      → over_lines f cpu (cond (not b) (l ∷ rest) rest) ≡ f l.answer (ticked_on cpu l.deed) + over_lines f cpu all
  by_first l rest all true failed same =
      let nothing : f l.answer (ticked_on cpu l.deed) ≡ 0 = ap (f l.answer) (unticked cpu l.deed l.answer failed) ∙ none l.answer in
      omega (arith, nothing, same)
  by_first l rest all false failed same = ap (λ (n : ℕ). f l.answer (ticked_on cpu l.deed) + n) same

  same_time : (lines : List Line) → over_lines f cpu (without_failed lines) ≡ over_lines f cpu lines
  same_time [] = refl
  same_time (l ∷ ls) = by_first l (without_failed ls) ls (has_failed l.deed l.answer) refl (same_time ls)

-- the share of the time that other lines tell alike
alike : (ns cpu : ℕ) (lines others : List Line) (q : State) (turns : List Turn) (t : ℕ) (e : Entry) → time_on cpu others ≡ time_on cpu lines
    → ((u : ℕ) → time_of u cpu others ≡ time_of u cpu lines) → HasItsShareOfLines ns cpu others q turns t e → HasItsShareOfLines ns cpu lines q turns t e
alike ns cpu lines others q turns t e all each h = record {
  share = h.share;
  told = record { of_all = sym all ∙ h.told.of_all; of_each = λ u. sym (each u) ∙ h.told.of_each u };
  in_time = λ least most long none.
      subst (λ (s : ℕ). IsShareOfTime (weight_of e.nice) (total_weight q.runnable) (swing ns q.runnable e) least most (time_on cpu lines) s) (each t)
      (subst (λ (T : ℕ). IsShareOfTime (weight_of e.nice) (total_weight q.runnable) (swing ns q.runnable e) least most T (time_of t cpu others)) all
      (h.in_time least most long none));
}

pub healed_cpu_gives_shares : OthersStay → FailedPullsCanBeLeftOut → HealedTurnsGiveShares → HealedCpuGivesShares
healed_cpu_gives_shares stay left_out shares homes m cpu earlier deeds front ns before turns h up these more t e here =
    let n : Machine = machine_after homes m earlier in
    let counted : List Deed = effective homes n deeds in
    let out = left_out homes n deeds in
    let of_others = subst (λ (k : Machine). (u : ℕ) (f : Entry) → get (queue_at k cpu).runnable u ≡ Some f → HasItsShareOfLines ns cpu (lines_of homes k counted) (queue_at k cpu) turns u f)
    (left_out homes m earlier).machine
    (shares_of_lines stay homes m cpu (effective homes m earlier) counted ns before turns h up.only these
    (shares (queue_at m cpu) front ns before turns up.none_past up.none_yielded up.no_longer more up.caught_up)) in
    let told = subst (λ (ls : List Line). HasItsShareOfLines ns cpu ls (queue_at n cpu) turns t e) out.lines (of_others t e here) in
    alike ns cpu (lines_of homes n deeds) (without_failed (lines_of homes n deeds)) (queue_at n cpu) turns t e
    (same_time charged none_charged cpu (lines_of homes n deeds)) (λ u. same_time (charged_to u) (none_charged_to u) cpu (lines_of homes n deeds)) told

-- a share of the time, of a task that has so much of its ideal share
of_time : (part of ideal parts w W time had : ℕ) → part * (W * ideal) ≤ of * (parts * w) → w * time ≤ had → part * (ideal * (W * time)) ≤ of * (parts * had)
of_time part of ideal parts w W time had share took =
    let one : part * (W * ideal) * time ≤ of * (parts * w) * time = mul-le-mul_right time share in
    let two : of * parts * (w * time) ≤ of * parts * had = mul-le-mul_left (of * parts) took in
    let left : part * (W * ideal) * time ≡ part * (ideal * (W * time)) = omega arith in
    let middle : of * (parts * w) * time ≡ of * parts * (w * time) = omega arith in
    let right : of * parts * had ≡ of * (parts * had) = omega arith in
    omega (arith, one, two, left, middle, right)

on_machine : HealedCpuGivesShares → BalancedGivesAtLeast (λ n. n + 1) (λ n. 2 * n) → (homes : List ℕ) (begun : Machine) (cpu source rate parts : ℕ) (earlier deeds : List Deed) (front : ℤ) (ns : ℕ) (before turns : List Turn)
    → source < length begun → CatchesUp homes begun source earlier before front ns → RefusesTwo (machine_after homes begun earlier) cpu source
    → IsIdealRate (machine_after homes begun earlier) rate parts → OnlyTurnsCount homes (machine_after homes begun earlier) source deeds turns → AreNoLonger ns turns
    → (least most : ℕ) → HaveNoShorterTicks least turns → NoneLosesMore most (queue_at (machine_after homes begun earlier) source).runnable
    → (t : ℕ) (e : Entry) → get (queue_at (machine_after homes begun earlier) source).runnable t ≡ Some e
    → HasOfIdealTime (length (machine_after homes begun earlier) + 1) (2 * length (machine_after homes begun earlier)) (ideal rate parts e) parts (weight_of e.nice)
    (total_weight (queue_at (machine_after homes begun earlier) source).runnable) (swing ns (queue_at (machine_after homes begun earlier) source).runnable e) least most
    (time_on source (lines_of homes (machine_after homes begun earlier) deeds)) (time_of t source (lines_of homes (machine_after homes begun earlier) deeds))
on_machine shares half homes begun cpu source rate parts earlier deeds front ns before turns own up refuses ideal_rate these more least most long none t e here =
    let m : Machine = machine_after homes begun earlier in
    let share = shares homes begun source earlier deeds front ns before turns own up these more t e here in
    let W : ℕ = total_weight (queue_at m source).runnable in
    let T : ℕ = time_on source (lines_of homes m deeds) in
    let s : ℕ = time_of t source (lines_of homes m deeds) in
    record {
      at_least =
          of_time (length m + 1) (2 * length m) (ideal rate parts e) parts (weight_of e.nice) W (1024 * least * T)
          (W * (1024 * least * s) + weight_of e.nice * (most * T) + least * swing ns (queue_at m source).runnable e)
          (half m rate parts cpu source t e ideal_rate refuses here) (share.in_time least most long none).at_least;
    }

pub balanced_gives_half_of_time : HealedCpuGivesShares → BalancedGivesAtLeast (λ n. n + 1) (λ n. 2 * n) → BalancedGivesOfTime (λ n. n + 1) (λ n. 2 * n)
balanced_gives_half_of_time shares half homes begun m cpu source rate parts earlier deeds front ns before turns own up is =
    subst (λ (n : Machine). RefusesTwo n cpu source → IsIdealRate n rate parts → OnlyTurnsCount homes n source deeds turns → AreNoLonger ns turns
    → (least most : ℕ) → HaveNoShorterTicks least turns → NoneLosesMore most (queue_at n source).runnable
    → (t : ℕ) (e : Entry) → get (queue_at n source).runnable t ≡ Some e
    → HasOfIdealTime (length n + 1) (2 * length n) (ideal rate parts e) parts (weight_of e.nice) (total_weight (queue_at n source).runnable)
    (swing ns (queue_at n source).runnable e) least most (time_on source (lines_of homes n deeds)) (time_of t source (lines_of homes n deeds))) (sym is)
    (on_machine shares half homes begun cpu source rate parts earlier deeds front ns before turns own up)
