-- A task joins no further from the virtual time than its lag limit says, and so makes the others little later.
use Rattle.std.proofs.Common.{◌≡◌, ℕ, suc, ◌+◌, ◌*◌, ◌≤◌, Bool, true, false, cond, Some, None, sym, ap, ◌∙◌, subst, arith, leb-true}
use Rattle.std.specs.Prelude.{ℤ, pos, negsuc, ◌+ℤ◌, ◌-ℤ◌, ◌*ℤ◌, ◌≤ℤ◌, unsigned_abs, nat_le}
use Rattle.std.specs.FinMap.{get, insert}
use Rattle.std.proofs.{lemmas.Int.ints}
use Rattle.eevdf_weight.specs.{Weight.weight_of, Placement.floor_div, Placement.placement_of}
use Rattle.eevdf_queue.specs.{declared.entry.Entry.Entry, State.State, declared.sleeper.Sleeper.Sleeper, Placing.placement}
use Rattle.eevdf_queue.specs.{Moves.fresh_entry, Moves.is_entry_in_range, Moves.with_runnable, Lag.is_lag}
use Rattle.eevdf_queue.specs.Sums.{Tasks, total_weight, total_moment, virtual_time}
use Rattle.eevdf_queue.proofs.Floors.{not_above, below_next}
use Rattle.eevdf_queue.proofs.Scaled.{sum_scaled, scaled_sum, scaled_twice, difference_scaled, scaled_le}
use Rattle.eevdf_fairness.specs.Joining.{Joins, lag_limit, IsNear, JoinIsNear, JoinIsLittleLater}
use Rattle.eevdf_fairness.proofs.{EntrySums.the_same, Growing.get_here, Inequalities.not_zero}
use Rattle.eevdf_fairness.proofs.Removing.{weight_added, moment_added}

-- a quotient that is rounded down
not_below : (z : ℤ) (n : ℕ) → 1 ≤ n → z ≤ℤ ((floor_div z n *ℤ pos n) +ℤ pos n)
not_below z n h = omega (arith, ints, below_next z n h)

limited : (lag : ℤ) (limit : ℕ) → nat_le (unsigned_abs lag) limit ≡ true → pos 0 ≤ℤ (lag +ℤ pos limit)
limited (pos a) limit h = omega (arith, ints)
limited (negsuc a) limit h = let small : suc a ≤ limit = leb-true (suc a) limit h in omega (arith, ints)

unlimited : (lag : ℤ) (limit : ℕ) → nat_le (unsigned_abs lag) limit ≡ true → lag ≤ℤ pos limit
unlimited (pos a) limit h = let small : a ≤ limit = leb-true a limit h in omega (arith, ints)
unlimited (negsuc a) limit h = omega (arith, ints)

near : (time f lag S : ℤ) (W w limit : ℕ) → (time *ℤ pos W) ≤ℤ S → (lag *ℤ pos (W + w)) ≤ℤ ((f *ℤ pos W) +ℤ pos W) → pos 0 ≤ℤ (lag +ℤ pos limit)
    → ((time -ℤ f) *ℤ pos W) ≤ℤ (S +ℤ pos (limit * (W + w) + W))
near time f lag S W w limit h k l =
    omega (arith, ints, h, k, scaled_le (pos 0) (lag +ℤ pos limit) (W + w) l, sum_scaled lag (pos limit) (W + w), difference_scaled time f W)

placed_at : (q : State) (s : Sleeper) → 1 ≤ total_weight q.runnable
    → placement q s ≡ placement_of (floor_div (total_moment q.runnable) (total_weight q.runnable)) (total_weight q.runnable) s.lag (weight_of s.nice)
placed_at q s some =
    ap (λ (b : Bool). cond b (virtual_time q) (placement_of (virtual_time q) (total_weight q.runnable) s.lag (weight_of s.nice))) (not_zero (total_weight q.runnable) some)
    ∙ ap (λ (b : Bool). placement_of (cond b q.base (floor_div (total_moment q.runnable) (total_weight q.runnable))) (total_weight q.runnable) s.lag (weight_of s.nice))
    (not_zero (total_weight q.runnable) some)

joined_by : (q r : State) (task : ℕ) (f : Entry) (b : Bool) → with_runnable q task (cond b (Some f) None) ≡ Some r → r.runnable ≡ insert q.runnable task f
joined_by q r task f false is = cc
joined_by q r task f true is =
    let same : r ≡ record q { runnable = insert q.runnable task f } = cc in
    ap (λ (x : State). x.runnable) same

far : (time f lag S : ℤ) (W w limit : ℕ) → S ≤ℤ ((time *ℤ pos W) +ℤ pos W) → (f *ℤ pos W) ≤ℤ (lag *ℤ pos (W + w)) → lag ≤ℤ pos limit
    → S ≤ℤ (((time -ℤ f) *ℤ pos W) +ℤ pos (limit * (W + w) + W))
far time f lag S W w limit h k l =
    omega (arith, ints, h, k, scaled_le lag (pos limit) (W + w) l, difference_scaled time f W)

-- ---- the entry that a task joins with
abbrev pub joiner : State → Sleeper → Entry
joiner q s = fresh_entry (placement q s) s.nice s.slice

-- and so far past its placement
abbrev pub joiner_past : State → Sleeper → ℕ → Entry
joiner_past q s past = fresh_entry ((placement q s) +ℤ pos past) s.nice s.slice

pub joined_tasks : (q r : State) (task : ℕ) (s : Sleeper) → Joins q task s r → r.runnable ≡ insert q.runnable task (joiner q s)
joined_tasks q r task s j = j.runnable ∙ joined_by q j.placed task (joiner q s) (is_entry_in_range (joiner q s)) j.is_put

joined_entry : (q r : State) (task : ℕ) (s : Sleeper) (e : Entry) → Joins q task s r → get r.runnable task ≡ Some e → joiner q s ≡ e
joined_entry q r task s e j found =
    the_same (joiner q s) e
    (sym (get_here q.runnable task (joiner q s)) ∙ ap (λ (m : Tasks). get m task) (sym (joined_tasks q r task s j)) ∙ found)

module _ (q : State) (s : Sleeper) (some : 1 ≤ total_weight q.runnable) (within : is_lag s.lag s.nice s.slice ≡ true) where
  pub near_joiner : ((placement q s) *ℤ pos (total_weight q.runnable))
      ≤ℤ (total_moment q.runnable +ℤ pos (lag_limit s * (total_weight q.runnable + weight_of s.nice) + total_weight q.runnable))
  near_joiner =
      subst (λ (z : ℤ). (z *ℤ pos (total_weight q.runnable))
      ≤ℤ (total_moment q.runnable +ℤ pos (lag_limit s * (total_weight q.runnable + weight_of s.nice) + total_weight q.runnable))) (sym (placed_at q s some))
      (near (floor_div (total_moment q.runnable) (total_weight q.runnable)) (floor_div (s.lag *ℤ pos (total_weight q.runnable + weight_of s.nice)) (total_weight q.runnable)) s.lag
      (total_moment q.runnable) (total_weight q.runnable) (weight_of s.nice) (lag_limit s)
      (not_above (total_moment q.runnable) (total_weight q.runnable) some)
      (not_below (s.lag *ℤ pos (total_weight q.runnable + weight_of s.nice)) (total_weight q.runnable) some)
      (limited s.lag (lag_limit s) within))

module _ (q r : State) (task : ℕ) (s : Sleeper) (j : Joins q task s r) where
  pub joiner_near : ((placement q s) *ℤ pos (total_weight q.runnable))
      ≤ℤ (total_moment q.runnable +ℤ pos (lag_limit s * (total_weight q.runnable + weight_of s.nice) + total_weight q.runnable))
  joiner_near = near_joiner q s j.some j.limited

  joiner_far : total_moment q.runnable
      ≤ℤ (((placement q s) *ℤ pos (total_weight q.runnable)) +ℤ pos (lag_limit s * (total_weight q.runnable + weight_of s.nice) + total_weight q.runnable))
  joiner_far =
      subst (λ (z : ℤ). total_moment q.runnable
      ≤ℤ ((z *ℤ pos (total_weight q.runnable)) +ℤ pos (lag_limit s * (total_weight q.runnable + weight_of s.nice) + total_weight q.runnable))) (sym (placed_at q s j.some))
      (far (floor_div (total_moment q.runnable) (total_weight q.runnable)) (floor_div (s.lag *ℤ pos (total_weight q.runnable + weight_of s.nice)) (total_weight q.runnable)) s.lag
      (total_moment q.runnable) (total_weight q.runnable) (weight_of s.nice) (lag_limit s)
      (not_below (total_moment q.runnable) (total_weight q.runnable) j.some)
      (not_above (s.lag *ℤ pos (total_weight q.runnable + weight_of s.nice)) (total_weight q.runnable) j.some)
      (unlimited s.lag (lag_limit s) j.limited))

  weight_then : total_weight r.runnable ≡ total_weight q.runnable + weight_of s.nice
  weight_then = ap total_weight (joined_tasks q r task s j) ∙ weight_added q.runnable task (joiner q s) j.absent

  moment_then : total_moment r.runnable ≡ total_moment q.runnable +ℤ ((placement q s) *ℤ pos (weight_of s.nice))
  moment_then = ap total_moment (joined_tasks q r task s j) ∙ moment_added q.runnable task (joiner q s) j.absent

-- ---- from the virtual time with it
ahead_then : (p S Z : ℤ) (W w X limit : ℕ) → X ≡ W + w → Z ≡ S +ℤ (p *ℤ pos w) → (p *ℤ pos W) ≤ℤ (S +ℤ pos (limit * (W + w) + W))
    → (p *ℤ pos X) ≤ℤ (Z +ℤ pos (limit * X + W))
ahead_then p S Z W w X limit all moves h =
    subst (λ (x : ℕ). (p *ℤ pos x) ≤ℤ (Z +ℤ pos (limit * x + W))) (sym all) (omega (arith, ints, moves, h, scaled_sum p W w))

behind_then : (p S Z : ℤ) (W w X limit : ℕ) → X ≡ W + w → Z ≡ S +ℤ (p *ℤ pos w) → S ≤ℤ ((p *ℤ pos W) +ℤ pos (limit * (W + w) + W))
    → Z ≤ℤ ((p *ℤ pos X) +ℤ pos (limit * X + W))
behind_then p S Z W w X limit all moves h =
    subst (λ (x : ℕ). Z ≤ℤ ((p *ℤ pos x) +ℤ pos (limit * x + W))) (sym all) (omega (arith, ints, moves, h, scaled_sum p W w))

pub join_is_near : JoinIsNear
join_is_near q r task s e j found =
    subst (λ (x : Entry). IsNear q s r x) (joined_entry q r task s e j found)
    (record {
      near = joiner_near q r task s j;
      ahead = ahead_then (placement q s) (total_moment q.runnable) (total_moment r.runnable) (total_weight q.runnable) (weight_of s.nice) (total_weight r.runnable) (lag_limit s)
          (weight_then q r task s j) (moment_then q r task s j) (joiner_near q r task s j);
      behind = behind_then (placement q s) (total_moment q.runnable) (total_moment r.runnable) (total_weight q.runnable) (weight_of s.nice) (total_weight r.runnable) (lag_limit s)
          (weight_then q r task s j) (moment_then q r task s j) (joiner_far q r task s j);
    })

-- ---- how much later the others are
scaled_near : (p S : ℤ) (W w x : ℕ) → (p *ℤ pos W) ≤ℤ (S +ℤ pos x) → ((p *ℤ pos w) *ℤ pos W) ≤ℤ ((S *ℤ pos w) +ℤ pos (x * w))
scaled_near p S W w x h = omega (arith, ints, scaled_twice p w W, scaled_le (p *ℤ pos W) (S +ℤ pos x) w h, sum_scaled S (pos x) w)

scaled_late : (S d : ℤ) (W X late : ℕ) → S ≤ℤ ((d *ℤ pos W) +ℤ pos late) → (S *ℤ pos X) ≤ℤ (((d *ℤ pos X) *ℤ pos W) +ℤ pos (late * X))
scaled_late S d W X late h = omega (arith, ints, scaled_twice d W X, scaled_le S ((d *ℤ pos W) +ℤ pos late) X h, sum_scaled (d *ℤ pos W) (pos late) X)

later_by : (p S d : ℤ) (W w limit late : ℕ) → (p *ℤ pos W) ≤ℤ (S +ℤ pos (limit * (W + w) + W)) → S ≤ℤ ((d *ℤ pos W) +ℤ pos late)
    → ((S +ℤ (p *ℤ pos w)) *ℤ pos W) ≤ℤ (((d *ℤ pos (W + w)) *ℤ pos W) +ℤ pos ((late + w * limit) * (W + w) + w * W))
later_by p S d W w limit late h k =
    omega (
      arith,
      ints,
      sum_scaled S (p *ℤ pos w) W,
      scaled_near p S W w (limit * (W + w) + W) h,
      scaled_sum S W w,
      scaled_late S d W (W + w) late k,
    )

pub join_is_little_later : JoinIsLittleLater
join_is_little_later q r task s time late j before =
    subst (λ (z : ℤ). (z *ℤ pos (total_weight q.runnable))
    ≤ℤ (((time *ℤ pos (total_weight r.runnable)) *ℤ pos (total_weight q.runnable))
    +ℤ pos ((late + weight_of s.nice * lag_limit s) * total_weight r.runnable + weight_of s.nice * total_weight q.runnable))) (sym (moment_then q r task s j))
    (subst (λ (x : ℕ). ((total_moment q.runnable +ℤ ((placement q s) *ℤ pos (weight_of s.nice))) *ℤ pos (total_weight q.runnable))
    ≤ℤ (((time *ℤ pos x) *ℤ pos (total_weight q.runnable))
    +ℤ pos ((late + weight_of s.nice * lag_limit s) * x + weight_of s.nice * total_weight q.runnable))) (sym (weight_then q r task s j))
    (later_by (placement q s) (total_moment q.runnable) time (total_weight q.runnable) (weight_of s.nice) (lag_limit s) late (joiner_near q r task s j) before))
