-- No call puts a task far behind all that are runnable.
use Rattle.std.proofs.Common.{◌≡◌, ℕ, ◌+◌, ◌*◌, ◌≤◌, ◌<◌, Bool, true, false, cond, List, [], ◌∷◌, Option, Some, None, refl, sym, ◌∙◌, subst, arith}
use Rattle.std.specs.Prelude.{ℤ, pos, negsuc, ◌+ℤ◌, ◌-ℤ◌, ◌*ℤ◌, ◌≤ℤ◌, ◌==◌}
use Rattle.std.specs.{Ordering.nat_cmp, Ordering.eq_by_cmp, Int.int_max}
use Rattle.std.specs.FinMap.{get, remove, entries}
use Rattle.std.proofs.{lemmas.Int.ints, lemmas.Int.clamps, Math.Nat.mul-le-mul_left}
use Rattle.eevdf_weight.specs.{Weight.weight_of, Charge.charge_of, Charge.lag_limit_of, Placement.floor_div, Placement.placement_of}
use Rattle.eevdf_weight.proofs.Weighing.{weight_of-least}
use Rattle.eevdf_queue.specs.{declared.entry.Entry.Entry, declared.sleeper.Sleeper.Sleeper, State.State, Placing.placement, Doze.doze, Wake.waking_runtime, Wake.wake}
use Rattle.eevdf_queue.specs.Sums.{sum_weights, sum_moments, total_weight, total_moment, virtual_time}
use Rattle.eevdf_queue.proofs.{Foremost.equal_number, Sound.gone as gone_from, Floors.not_above, Floors.below_next, Floors.no_more, Scaled.scaled_sum, Scaled.scaled_le}
use Rattle.eevdf_fairness.proofs.{EntrySums.Each, EntrySums.each, EntrySums.no_heavier, Inequalities.not_zero, Growing.rounded_down}
use Rattle.eevdf_dozes.specs.{Stretches.Watch, Stretches.IsWatched, Calls.Touches, Calls.IsDozing, Calls.DozesIfItCounts}
use Rattle.eevdf_dozes.specs.Bounds.{Bounds, IsWithin}
use Rattle.eevdf_dozes.specs.Ahead.{setback}
use Rattle.eevdf_dozes.proofs.{Optional.one_entry, Optional.there, PutPast.some_weight}
use Rattle.eevdf_dozes.proofs.Standing.{AllStand, StandsStill}
use Rattle.eevdf_dozes.proofs.Dozing.{awake_entry, awake_in, doze_is, wake_is}
use Rattle.eevdf_dozes.proofs.Touching.{doze_touches, wake_touches}
use Rattle.eevdf_dozes.proofs.Changes.{differs, here_now, none_there, uncounted}
use Rattle.eevdf_dozes.proofs.Near.{AllStandAfter, PutsNoneFarBehind}
use Rattle.eevdf_fairness.proofs.Days.{mean_is}

-- ---- where nobody becomes runnable
absent_still : (by : ℤ) (o now : Option Entry) (e : Entry) → StandsStill by o now → o ≡ None → now ≡ Some e → ⊥
absent_still by None now e h none is = cc
absent_still by (Some x) now e h none is = cc

pub stand_behind : (w : Watch) (cost : ℕ → ℕ) (q r : State) (by : ℤ) → AllStand q r by → PutsNoneFarBehind w cost q r
stand_behind w cost q r by h limit all t e counts none here =
    absurd (absent_still by (get q.runnable t) (get r.runnable t) e (h.tasks t) none here)

-- where one is touched alone
but_one : (w : Watch) (cost : ℕ → ℕ) (task : ℕ) (q r : State) → Touches task q r
    → ((limit : ℤ) → AllStandAfter limit q → (e : Entry) → w.counts task ≡ true → get q.runnable task ≡ None → get r.runnable task ≡ Some e
    → limit ≤ℤ ((e.v +ℤ r.shift) +ℤ pos (cost task)))
    → PutsNoneFarBehind w cost q r
but_one w cost task q r h one limit all t e counts none here =
    by (eq_by_cmp nat_cmp t task) refl
  where
    by : (c : Bool) → eq_by_cmp nat_cmp t task ≡ c → limit ≤ℤ ((e.v +ℤ r.shift) +ℤ pos (cost t))
    by true is =
        let same : t ≡ task = equal_number t task is in
        subst (λ (u : ℕ). w.counts u ≡ true → get q.runnable u ≡ None → get r.runnable u ≡ Some e → limit ≤ℤ ((e.v +ℤ r.shift) +ℤ pos (cost u)))
        (sym same) (one limit all e) counts none here
    by false is =
        absurd (none_there (get q.runnable t) e none (sym (h.runnable t (differs t task is)) ∙ here))

pub others_behind : (w : Watch) (cost : ℕ → ℕ) (q r : State) (task : ℕ) → w.counts task ≡ false → Touches task q r → PutsNoneFarBehind w cost q r
others_behind w cost q r task not h =
    but_one w cost task q r h (λ limit all e counts. absurd (uncounted (w.counts task) not counts))

-- ---- a doze
pub dozes_behind : (w : Watch) (cost : ℕ → ℕ) (q : State) (task : ℕ) → PutsNoneFarBehind w cost q (doze q task)
dozes_behind w cost q task =
    but_one w cost task q (doze q task) (doze_touches q task)
    (λ limit all e counts none here. absurd (doze_is (λ r. get r.runnable task ≡ Some e → ⊥) q task
    (λ at. none_there (get q.runnable task) e none at)
    (λ x runs there at. none_there (get (remove q.runnable task) task) e (gone_from q.runnable task) at) here))

-- ---- the virtual time isn't before all that are runnable
one_moment : (v time M : ℤ) (w n : ℕ) → time ≤ℤ v → (time *ℤ pos n) ≤ℤ M → (time *ℤ pos (w + n)) ≤ℤ ((v *ℤ pos w) +ℤ M)
one_moment v time M w n h k = omega (arith, ints, k, scaled_le time v w h, scaled_sum time w n)

moments_after : (time : ℤ) (es : List (ℕ × Entry)) → Each (λ e. time ≤ℤ e.v) es → (time *ℤ pos (sum_weights es)) ≤ℤ sum_moments es
moments_after time [] h = omega (arith, ints)
moments_after time (e ∷ es) h =
    one_moment e.1.v time (sum_moments es) (weight_of e.1.nice) (sum_weights es) h.0 (moments_after time es h.1)

time_after : (q : State) (time : ℤ) → 1 ≤ total_weight q.runnable → ((t : ℕ) (e : Entry) → get q.runnable t ≡ Some e → time ≤ℤ e.v)
    → time ≤ℤ virtual_time q
time_after q time some h =
    subst (λ (z : ℤ). time ≤ℤ z) (sym (mean_is q some))
    (no_more time (floor_div (total_moment q.runnable) (total_weight q.runnable)) (total_moment q.runnable) (total_weight q.runnable)
    (moments_after time (entries q.runnable) (each (λ e. time ≤ℤ e.v) q.runnable h))
    (below_next (total_moment q.runnable) (total_weight q.runnable) some))

-- ---- a credit of two slices, stretched
below : (ns w : ℕ) → 1 ≤ w → 1024 * ns < charge_of ns w * w + w
unfolding charge_of
below ns w h = omega (arith, h)

stretched : (a total w x y v ns : ℕ) → a ≤ x → x * w ≤ 1024 * ns → 1024 * ns < y * v + v → v ≤ total
    → a * (total + w) < (x + y) * total + total
stretched a total w x y v ns h k l m =
    let first : total * a ≤ total * x = mul-le-mul_left total h in
    let second : w * a ≤ w * x = mul-le-mul_left w h in
    let third : (y + 1) * v ≤ (y + 1) * total = mul-le-mul_left (y + 1) m in
    omega (arith, first, second, third, k, l)

credit_by : (lag : ℤ) (total w x y v ns : ℕ) → 1 ≤ total → lag ≤ℤ pos x → pos 0 ≤ℤ lag → x * w ≤ 1024 * ns → 1024 * ns < y * v + v → v ≤ total
    → floor_div (lag *ℤ pos (total + w)) total ≤ℤ pos (x + y)
credit_by (pos a) total w x y v ns some h no_debt k l m =
    let less : a * (total + w) < (x + y) * total + total = stretched a total w x y v ns (omega (arith, ints, h)) k l m in
    no_more (floor_div (pos a *ℤ pos (total + w)) total) (pos (x + y)) (pos a *ℤ pos (total + w)) total
    (not_above (pos a *ℤ pos (total + w)) total some) (omega (arith, ints, less))
credit_by (negsuc a) total w x y v ns some h no_debt k l m = absurd (omega (arith, ints, no_debt))

placed_by : (time lag nice : ℤ) (total most : ℕ) (c : Bool) → c ≡ false → floor_div (lag *ℤ pos (total + weight_of nice)) total ≤ℤ pos most
    → time ≤ℤ (cond c time (placement_of time total lag (weight_of nice)) +ℤ pos most)
placed_by time lag nice total most false is h = omega (arith, ints, h)
placed_by time lag nice total most true is h = cc

later_of_both : (place shift placed time limit : ℤ) (most : ℕ) → (limit -ℤ shift) ≤ℤ time → time ≤ℤ (placed +ℤ pos most)
    → limit ≤ℤ ((int_max place placed +ℤ shift) +ℤ pos most)
later_of_both place shift placed time limit most h k = omega (arith, ints, clamps, h, k)

unshifted : (v shift limit : ℤ) → limit ≤ℤ (v +ℤ shift) → (limit -ℤ shift) ≤ℤ v
unshifted v shift limit h = omega (arith, ints, h)

-- ---- a wake
module _ (w : Watch) (b : Bounds) (q : State) (task : ℕ) (watched : IsWatched w q) (stays : w.counts w.stays ≡ true) (within : IsWithin w b q)
    (dozing : DozesIfItCounts w q task) where
  stay : (e : Entry) × (get q.runnable w.stays ≡ Some e)
  stay = there (get q.runnable w.stays) watched.here

  heavier : weight_of (w.nice_of w.stays) ≤ total_weight q.runnable
  heavier =
      subst (λ (z : ℤ). weight_of z ≤ total_weight q.runnable) (watched.levels w.stays stay.0 stays stay.1) (no_heavier q.runnable w.stays stay.0 stay.1)

  some : 1 ≤ total_weight q.runnable
  some = some_weight (weight_of (w.nice_of w.stays)) (total_weight q.runnable) (weight_of-least (w.nice_of w.stays)) heavier

  placed_behind : (s : Sleeper) → w.counts task ≡ true → get q.asleep task ≡ Some s → virtual_time q ≤ℤ (placement q s +ℤ pos (setback w b task))
  placed_behind s counts asleep =
      let d : IsDozing w q task s = dozing s counts asleep in
      let slice : ℕ = b.slice_of task in
      let weight : ℕ = weight_of (w.nice_of w.stays) in
      subst (λ (z : ℤ). virtual_time q ≤ℤ (placement q s +ℤ pos (lag_limit_of slice (weight_of z) + lag_limit_of slice weight))) d.level
      (placed_by (virtual_time q) s.lag s.nice (total_weight q.runnable) (lag_limit_of slice (weight_of s.nice) + lag_limit_of slice weight)
      (total_weight q.runnable == 0) (not_zero (total_weight q.runnable) some)
      (credit_by s.lag (total_weight q.runnable) (weight_of s.nice) (lag_limit_of slice (weight_of s.nice)) (lag_limit_of slice weight) weight (2 * slice)
      some (within.credits task s counts asleep) d.no_debt (rounded_down (2 * slice) (weight_of s.nice))
      (below (2 * slice) weight (some_weight weight weight (weight_of-least (w.nice_of w.stays)) (same weight))) heavier))
    where
      same : (n : ℕ) → n ≤ n
      same n = omega arith

  awake_behind : (limit : ℤ) → AllStandAfter limit q → (s : Sleeper) (e : Entry) → w.counts task ≡ true → get q.asleep task ≡ Some s
      → get (awake_in q task s).runnable task ≡ Some e → limit ≤ℤ ((e.v +ℤ q.shift) +ℤ pos (setback w b task))
  awake_behind limit all s e counts asleep here =
      let d : IsDozing w q task s = dozing s counts asleep in
      let same : awake_entry q task s ≡ e =
      one_entry (awake_entry q task s) e (get (awake_in q task s).runnable task) (here_now q.runnable task (awake_entry q task s)) here in
      let waking : limit ≤ℤ ((waking_runtime q s (get q.places task) +ℤ q.shift) +ℤ pos (setback w b task)) =
      subst (λ (o : Option ℤ). limit ≤ℤ ((waking_runtime q s o +ℤ q.shift) +ℤ pos (setback w b task))) (sym d.kept)
      (later_of_both (d.place -ℤ q.shift) q.shift (placement q s) (virtual_time q) limit (setback w b task)
      (time_after q (limit -ℤ q.shift) some (λ t f at. unshifted f.v q.shift limit (all t f at)))
      (placed_behind s counts asleep)) in
      subst (λ (x : Entry). limit ≤ℤ ((x.v +ℤ q.shift) +ℤ pos (setback w b task))) same waking

  pub wakes_behind : PutsNoneFarBehind w (setback w b) q (wake q task).1
  wakes_behind =
      but_one w (setback w b) task q (wake q task).1 (wake_touches q task)
      (λ limit all e counts none here.
      wake_is (λ r. get r.runnable task ≡ Some e → limit ≤ℤ ((e.v +ℤ r.shift) +ℤ pos (setback w b task))) q task
      (λ at. absurd (none_there (get q.runnable task) e none at))
      (λ s asleep at. awake_behind limit all s e counts asleep at) here)
