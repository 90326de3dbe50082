-- A join after a fresh start, or once a queue has healed, keeps the others fair.
use Rattle.std.proofs.Common.{◌≡◌, ℕ, ◌+◌, ◌-◌, ◌*◌, ◌/◌, ◌≤◌, [], ◌∷◌, List, Some, refl, sym, subst, arith}
use Rattle.std.specs.Prelude.{ℤ, pos, ◌+ℤ◌, ◌-ℤ◌, ◌*ℤ◌, ◌≤ℤ◌}
use Rattle.std.specs.FinMap.{get}
use Rattle.std.proofs.{lemmas.Int.ints, lemmas.Int.by_lt_z}
use Rattle.eevdf_weight.specs.Weight.{weight_of}
use Rattle.eevdf_queue.specs.{declared.entry.Entry.Entry, declared.sleeper.Sleeper.Sleeper, State.State, Laws.PickIsFirst, Laws.PickOfNobody, Placing.placement, Moves.request_of}
use Rattle.eevdf_queue.specs.Sums.{Tasks, total_weight, total_moment}
use Rattle.eevdf_queue.proofs.Scaled.{sum_scaled, scaled_le}
use Rattle.eevdf_fairness.specs.{Leavings.Step, Leavings.HaveNoLongerTurns, Leavings.after_steps, Leavings.lowered_by, Fair.turns_of_others}
use Rattle.eevdf_fairness.specs.{Joining.Joins, Joining.lag_limit, Joining.reach, Joining.most_late, Healing.HasNotYielded}
use Rattle.eevdf_fairness.specs.Joining.{IsNotLateAfterJoin, IsNotBehindAfterJoin, JoinKeepsFair, HealedJoinKeepsFair}
use Rattle.eevdf_fairness.proofs.Rules.{IsWithin, Keeps, rule_of, settled, After, Short, Nothing, keeps_after, keeps_short, keeps_nothing, Nobody, fresh_within}
use Rattle.eevdf_fairness.proofs.{Steps.steps_within, Steps.settled_steps, Bounds.itself as no_later, Bounds.late_after}
use Rattle.eevdf_fairness.proofs.Falling.{Falls, falls_nothing, falls_short}
use Rattle.eevdf_fairness.proofs.{Healing.healed_rule, Healing.healed_steps, Joining.joiner, Joining.joined_tasks, Joining.joiner_near}
use Rattle.eevdf_fairness.proofs.Joiners.{Joiner, joined, nobody_joined, joined_within, joined_steps, late_beyond}

-- ---- how far past a deadline a task joins
quotient : (x W : ℕ) → 1 ≤ W → x + 1 ≤ (x / W + 1) * W
quotient x W h = omega arith

pub near_by : (p d S : ℤ) (W x y : ℕ) → 1 ≤ W → (p *ℤ pos W) ≤ℤ (S +ℤ pos (y + W)) → S ≤ℤ ((d *ℤ pos W) +ℤ pos x) → p ≤ℤ (d +ℤ pos ((x + y) / W + 1))
near_by p d S W x y some h k =
    by_lt_z (d +ℤ pos ((x + y) / W + 1)) p
    (λ beyond.
    let least : (d +ℤ pos ((x + y) / W + 2)) ≤ℤ p = omega (arith, ints, beyond) in
    absurd (omega (arith, ints, h, k, scaled_le (d +ℤ pos ((x + y) / W + 2)) p W least, sum_scaled d (pos ((x + y) / W + 2)) W, quotient (x + y) W some)))
    (λ within. within)

-- ---- after a join
pub behind_by : (v d S : ℤ) (W c x : ℕ) → d ≤ℤ (v +ℤ pos c) → S ≤ℤ ((d *ℤ pos W) +ℤ pos x) → S ≤ℤ ((v *ℤ pos W) +ℤ pos (W * c + x))
behind_by v d S W c x short late = omega (arith, ints, late, scaled_le d (v +ℤ pos c) W short, sum_scaled v (pos c) W)

not_behind : (ns : ℕ) (before : Tasks) (s : Sleeper) (tasks : Tasks) (e : Entry) → IsNotLateAfterJoin ns before s tasks e → HasNotYielded e
    → IsNotBehindAfterJoin ns before s tasks e
not_behind ns before s tasks e late short =
    behind_by e.v e.d (total_moment tasks) (total_weight tasks) (request_of e.nice e.slice) (most_late ns before s tasks) short late

none_before : (S d : ℤ) (W x y : ℕ) → S ≤ℤ ((d *ℤ pos W) +ℤ pos (x + (0 + y))) → S ≤ℤ ((d *ℤ pos W) +ℤ pos (x + y))
none_before S d W x y h = omega (arith, ints, h)

module _ (first : PickIsFirst) (nobody : PickOfNobody) (m r : State) (front : ℤ) (ns : ℕ) (Kept : ℕ → Entry → Type 0) (keeps : Keeps Kept)
    (w : IsWithin (rule_of ns front Nobody (After front Kept) (keeps_after front Kept keeps)) m.runnable) (task : ℕ) (s : Sleeper) (j : Joins m task s r)
    (falls : Falls Kept) (steps : List Step) (short : HaveNoLongerTurns ns steps) where
  near_each : (u : ℕ) (f : Entry) → get m.runnable u ≡ Some f → (placement m s) ≤ℤ (f.d +ℤ pos (reach ns m.runnable s))
  near_each u f found =
      near_by (placement m s) f.d (total_moment m.runnable) (total_weight m.runnable) (turns_of_others ns m.runnable)
      (lag_limit s * (total_weight m.runnable + weight_of s.nice)) j.some (joiner_near m r task s j)
      (late_after ns front Nobody (After front Kept) (keeps_after front Kept keeps) m.runnable w u f found f.d ((w.kept u f found).0) (no_later f.d))

  -- the task that joins
  abbrev one : List Joiner
  one = record { task = task; nice = s.nice; reach = reach ns m.runnable s } ∷ []

  start : IsWithin (joined ns front Kept keeps one) r.runnable
  start =
      subst (IsWithin (joined ns front Kept keeps one)) (sym (joined_tasks m r task s j))
      (joined_within ns front Kept keeps [] task (reach ns m.runnable s) m.runnable (joiner m s) (nobody_joined ns front Kept keeps m.runnable w) (request_of s.nice s.slice) refl
      j.absent (λ u f other found. near_each u f found))

  stays : IsWithin (joined ns (front -ℤ lowered_by r steps) Kept keeps one) (after_steps r steps).runnable
  stays = steps_within first nobody ns (λ time. joined ns time Kept keeps one) (joined_steps ns Kept keeps falls one) r front steps short start

  kept_then : (t : ℕ) (e : Entry) → (t ≡ task → ⊥) → get (after_steps r steps).runnable t ≡ Some e → Kept t e
  kept_then t e other here = ((stays.kept t e here).0 (other, tt)).1

  late_then : (t : ℕ) (e : Entry) → (t ≡ task → ⊥) → get (after_steps r steps).runnable t ≡ Some e
      → IsNotLateAfterJoin ns m.runnable s (after_steps r steps).runnable e
  late_then t e other here =
      none_before (total_moment (after_steps r steps).runnable) e.d (total_weight (after_steps r steps).runnable) (turns_of_others ns (after_steps r steps).runnable)
      (weight_of s.nice * reach ns m.runnable s - 1024 * ns)
      (late_beyond ns (front -ℤ lowered_by r steps) Kept keeps one (after_steps r steps).runnable stays t e (other, tt) here)

pub join_keeps_fair : PickIsFirst → PickOfNobody → JoinKeepsFair
join_keeps_fair first nobody q m r v ns before steps task s fresh short more same j t e other here =
    let now : ℤ = v -ℤ lowered_by q before in
    let w : IsWithin (settled ns now Nobody) m.runnable =
    subst (IsWithin (settled ns now Nobody)) (sym same)
    (steps_within first nobody ns (λ front. settled ns front Nobody) (settled_steps ns Short keeps_short falls_short) q v before short (fresh_within v ns Nobody q.runnable fresh)) in
    let late : IsNotLateAfterJoin ns m.runnable s (after_steps r steps).runnable e =
    late_then first nobody m r now ns Short keeps_short w task s j falls_short steps more t e other here in
    record {
      late = late;
      behind = not_behind ns m.runnable s (after_steps r steps).runnable e late
          (kept_then first nobody m r now ns Short keeps_short w task s j falls_short steps more t e other here);
    }

pub healed_join_keeps_fair : PickIsFirst → PickOfNobody → HealedJoinKeepsFair
healed_join_keeps_fair first nobody q m r front ns before more steps task s none short further last passed same j t e other here =
    let now : ℤ = (front -ℤ lowered_by q before) -ℤ lowered_by (after_steps q before) more in
    let w : IsWithin (healed_rule ns now) m.runnable =
    subst (IsWithin (healed_rule ns now)) (sym same)
    (healed_steps first nobody q front ns before more none short further passed) in
    let late : IsNotLateAfterJoin ns m.runnable s (after_steps r steps).runnable e =
    late_then first nobody m r now ns Nothing keeps_nothing w task s j falls_nothing steps last t e other here in
    record { late = late; behind = not_behind ns m.runnable s (after_steps r steps).runnable e late }
