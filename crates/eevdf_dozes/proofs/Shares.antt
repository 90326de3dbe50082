-- Who stays has its share of the time, and who sleeps has no more than its own.
use Rattle.std.proofs.Common.{◌≡◌, ℕ, ◌+◌, ◌*◌, ◌≤◌, true, List, [], ◌∷◌, length, Some, ap, subst, arith}
use Rattle.std.specs.Prelude.{ℤ, pos, ◌+ℤ◌}
use Rattle.std.specs.{List.AllByRecursion}
use Rattle.std.proofs.Math.Nat.{mul-le-mul_left}
use Rattle.eevdf_weight.specs.{Weight.weight_of}
use Rattle.eevdf_queue.specs.{declared.entry.Entry.Entry, State.State, Moves.request_of, Laws.PickIsFirst, Laws.PickOfNobody}
use Rattle.eevdf_fairness.proofs.Growing.{rounded_down}
use Rattle.eevdf_dozes.specs.Places.{place_of}
use Rattle.eevdf_dozes.specs.Stretches.{Event, Watch, IsWatched, IsStretch, picked, after_events, charges}
use Rattle.eevdf_dozes.specs.Gains.{turn_charge, ComesNoFurther, IsLevel, sum_weights, sum_charges}
use Rattle.eevdf_dozes.specs.Shares.{time_of, lost_by, sum_times, sum_lost, HaveNoShorterTicks, LosesNoMore, lack_of, WhoStaysHasItsShare, IsBeside, numbers, sum_slices, WhoSleepsHasNoMore}
use Rattle.eevdf_dozes.proofs.Steps.{pick_watched, watched_after}
use Rattle.eevdf_dozes.proofs.Gains.{nobody_gains, one_gains, together_nobody_gains}
use Rattle.eevdf_dozes.proofs.Times.{whole_time, little_lost, none_lost}

-- ---- several tasks
one_time : (w c l t C L T : ℕ) → w * c + l ≡ 1024 * t → C + L ≡ 1024 * T → (w * c + C) + (l + L) ≡ 1024 * (t + T)
one_time w c l t C L T h k = omega (arith, h, k)

no_time : 0 + 0 ≡ 1024 * 0
no_time = omega arith

sum_times_are : (w : Watch) (q : State) (events : List Event) (e : Entry) (p : State) → IsWatched w q → IsStretch w 0 q events → (ts : List ℕ)
    → AllByRecursion (IsLevel w p e) ts → sum_charges w q events ts + sum_lost q events ts ≡ 1024 * sum_times q events ts
sum_times_are w q events e p watched h [] level = no_time
sum_times_are w q events e p watched h (t ∷ ts) level =
    one_time (weight_of (w.nice_of t)) (charges t q events) (lost_by t q events) (time_of t q events) (sum_charges w q events ts) (sum_lost q events ts)
    (sum_times q events ts) (whole_time w t level.0.counts 0 q events watched h) (sum_times_are w q events e p watched h ts level.1)

one_lost : (least most l t L T : ℕ) → least * l ≤ most * t → least * L ≤ most * T → least * (l + L) ≤ most * (t + T)
one_lost least most l t L T h k = omega (arith, h, k)

sum_little_lost : (w : Watch) (least most : ℕ) (q : State) (events : List Event) (e : Entry) (p : State) → IsWatched w q → IsStretch w 0 q events
    → HaveNoShorterTicks least events → (ts : List ℕ) → AllByRecursion (IsLevel w p e) ts → AllByRecursion (LosesNoMore most w) ts
    → least * sum_lost q events ts ≤ most * sum_times q events ts
sum_little_lost w least most q events e p watched h long [] level loses = none_lost least most
sum_little_lost w least most q events e p watched h long (t ∷ ts) level loses =
    one_lost least most (lost_by t q events) (time_of t q events) (sum_lost q events ts) (sum_times q events ts)
    (little_lost w t level.0.counts 0 least most q events watched h long loses.0)
    (sum_little_lost w least most q events e p watched h long ts level.1 loses.1)

-- ---- one that stays
share_by : (w o x c n l s L T C turn : ℕ) → w * x + l ≡ 1024 * s → C + L ≡ 1024 * T → C ≤ o * (x + c) + n * turn
    → w * (1024 * (s + T)) + (w + o) * l ≤ (w + o) * (1024 * s) + w * (l + L) + w * (o * c + n * turn)
share_by w o x c n l s L T C turn own others most =
    let mine : w * (w * x + l) ≡ w * (1024 * s) = ap (λ (z : ℕ). w * z) own in
    let mine_too : o * (w * x + l) ≡ o * (1024 * s) = ap (λ (z : ℕ). o * z) own in
    let theirs : w * (C + L) ≡ w * (1024 * T) = ap (λ (z : ℕ). w * z) others in
    let bound : w * C ≤ w * (o * (x + c) + n * turn) = mul-le-mul_left w most in
    omega (arith, mine, mine_too, theirs, bound)

in_time_by : (w o lack least most s T l R : ℕ) → w * (1024 * T) + (w + o) * l ≤ (w + o) * (1024 * s) + w * R + lack → least * R ≤ most * T
    → w * (1024 * least * T) ≤ (w + o) * (1024 * least * s) + w * (most * T) + least * lack
in_time_by w o lack least most s T l R share lost =
    let all : least * (w * (1024 * T) + (w + o) * l) ≤ least * ((w + o) * (1024 * s) + w * R + lack) = mul-le-mul_left least share in
    let part : w * (least * R) ≤ w * (most * T) = mul-le-mul_left w lost in
    omega (arith, all, part)

pub who_stays_has_its_share : PickIsFirst → PickOfNobody → WhoStaysHasItsShare
who_stays_has_its_share first nobody w q events e f begins stays short counts ts level =
    let after : State = picked q in
    let watched : IsWatched w after = pick_watched w q begins.watched in
    let j : ℕ = w.stays in
    let own = whole_time w j counts 0 after events watched begins.stretch in
    let others = sum_times_are w after events e q watched begins.stretch ts level in
    let share = share_by (weight_of (w.nice_of j)) (sum_weights w ts) (charges j after events) (request_of f.nice f.slice) (length ts) (lost_by j after events)
    (time_of j after events) (sum_lost after events ts) (sum_times after events ts) (sum_charges w after events ts) (1024 * w.turn) own others
    (together_nobody_gains first nobody w q events e f begins stays short ts level) in
    record {
      share = record { at_least = share };
      in_time = λ least most long loses. record {
        at_least = in_time_by (weight_of (w.nice_of j)) (sum_weights w ts) (lack_of w f ts) least most (time_of j after events)
            (sum_times after events (j ∷ ts)) (lost_by j after events) (sum_lost after events (j ∷ ts)) share
            (one_lost least most (lost_by j after events) (time_of j after events) (sum_lost after events ts) (sum_times after events ts)
            (little_lost w j counts 0 least most after events watched begins.stretch long loses.0)
            (sum_little_lost w least most after events e q watched begins.stretch long ts level loses.1));
      };
    }

-- ---- one that counts beside tasks that stay
-- one more of these: `x` is what the sleeper was charged for, `turn` what a turn of its is charged
one_beside : (v x y c turn l s slice W L S slices : ℕ) → x ≤ y + c + turn → v * y + l ≡ 1024 * s → v * c ≤ 1024 * slice
    → W * x + L ≤ 1024 * (S + slices) + W * turn → (v + W) * x + (l + L) ≤ 1024 * ((s + S) + (slice + slices)) + (v + W) * turn
one_beside v x y c turn l s slice W L S slices h own request rest =
    let mine : v * x ≤ v * (y + c + turn) = mul-le-mul_left v h in
    omega (arith, mine, own, request, rest)

none_beside : (x turn : ℕ) → 0 * x + 0 ≤ 1024 * (0 + 0) + 0 * turn
none_beside x turn = omega arith

swapped : (c w slice : ℕ) → c * w ≤ 1024 * slice → w * c ≤ 1024 * slice
swapped c w slice h = omega (arith, h)

module _ (first : PickIsFirst) (nobody : PickOfNobody) (w : Watch) (q : State) (events : List Event) (t : ℕ) (place : ℤ)
    (counts : w.counts t ≡ true) (at : place_of q t ≡ Some place) where
  beside : (ts : List (ℕ × Entry)) → AllByRecursion (IsBeside w q events place) ts
      → sum_weights w (numbers ts) * charges t (picked q) events + sum_lost (picked q) events (numbers ts)
      ≤ 1024 * (sum_times (picked q) events (numbers ts) + sum_slices ts) + sum_weights w (numbers ts) * turn_charge w t
  beside [] all = none_beside (charges t (picked q) events) (turn_charge w t)
  beside (u ∷ us) all =
      let b : IsBeside w q events place u = all.0 in
      let v : Watch = record w { stays = u.0 } in
      let after : State = picked q in
      let watched : IsWatched v after = pick_watched v q b.begins.watched in
      let last : IsWatched v (after_events after events) = watched_after v 0 after events watched b.begins.stretch in
      let level : u.1.nice ≡ w.nice_of u.0 = last.levels u.0 u.1 b.counts b.stays.in_the_end in
      let gains : ComesNoFurther place (charges t after events) ((b.entry.v +ℤ q.shift) +ℤ pos (charges u.0 after events + request_of u.1.nice u.1.slice + turn_charge w t)) =
      nobody_gains first nobody v q events b.entry u.1 b.begins b.stays b.short t place counts at in
      let request : weight_of (w.nice_of u.0) * request_of u.1.nice u.1.slice ≤ 1024 * u.1.slice =
      subst (λ (z : ℤ). weight_of z * request_of u.1.nice u.1.slice ≤ 1024 * u.1.slice) level
      (swapped (request_of u.1.nice u.1.slice) (weight_of u.1.nice) u.1.slice (rounded_down u.1.slice (weight_of u.1.nice))) in
      one_beside (weight_of (w.nice_of u.0)) (charges t after events) (charges u.0 after events) (request_of u.1.nice u.1.slice) (turn_charge w t)
      (lost_by u.0 after events) (time_of u.0 after events) u.1.slice (sum_weights w (numbers us)) (sum_lost after events (numbers us))
      (sum_times after events (numbers us)) (sum_slices us)
      (one_gains place (b.entry.v +ℤ q.shift) (charges t after events) (charges u.0 after events + request_of u.1.nice u.1.slice) (turn_charge w t) gains b.not_behind)
      (whole_time v u.0 b.counts 0 after events watched b.begins.stretch) request (beside us all.1)

  -- the sleeper's own time is told by any of the stretches, and so is what rounding takes of it
  own_time : (u : ℕ × Entry) (us : List (ℕ × Entry)) → AllByRecursion (IsBeside w q events place) (u ∷ us)
      → weight_of (w.nice_of t) * charges t (picked q) events + lost_by t (picked q) events ≡ 1024 * time_of t (picked q) events
  own_time u us all =
      let v : Watch = record w { stays = u.0 } in
      whole_time v t counts 0 (picked q) events (pick_watched v q all.0.begins.watched) all.0.begins.stretch

  own_lost : (u : ℕ × Entry) (us : List (ℕ × Entry)) → AllByRecursion (IsBeside w q events place) (u ∷ us) → (least most : ℕ)
      → HaveNoShorterTicks least events → LosesNoMore most w t → least * lost_by t (picked q) events ≤ most * time_of t (picked q) events
  own_lost u us all least most long loses =
      let v : Watch = record w { stays = u.0 } in
      little_lost v t counts 0 least most (picked q) events (pick_watched v q all.0.begins.watched) all.0.begins.stretch long loses

share_of_sleeper : (w o x turn l L s S slices ns : ℕ) → o * x + L ≤ 1024 * (S + slices) + o * turn → w * x + l ≡ 1024 * s → turn * w ≤ 1024 * ns
    → (w + o) * (1024 * s) + w * L ≤ w * (1024 * ((s + S) + slices)) + o * (1024 * ns) + o * l
share_of_sleeper w o x turn l L s S slices ns h own brief =
    let all : w * (o * x + L) ≤ w * (1024 * (S + slices) + o * turn) = mul-le-mul_left w h in
    let mine : o * (w * x + l) ≡ o * (1024 * s) = ap (λ (z : ℕ). o * z) own in
    let part : o * (turn * w) ≤ o * (1024 * ns) = mul-le-mul_left o brief in
    omega (arith, all, mine, part)

sleeper_in_time : (w o slices ns least most T s L l : ℕ) → (w + o) * (1024 * s) + w * L ≤ w * (1024 * (T + slices)) + o * (1024 * ns) + o * l
    → least * l ≤ most * s → (w + o) * (1024 * least * s) ≤ w * (1024 * least * (T + slices)) + o * (1024 * least * ns) + o * (most * s)
sleeper_in_time w o slices ns least most T s L l share lost =
    let all : least * ((w + o) * (1024 * s) + w * L) ≤ least * (w * (1024 * (T + slices)) + o * (1024 * ns) + o * l) = mul-le-mul_left least share in
    let part : o * (least * l) ≤ o * (most * s) = mul-le-mul_left o lost in
    omega (arith, all, part)

alone : (w s ns l : ℕ) → (w + 0) * (1024 * s) + w * 0 ≤ w * (1024 * ((s + 0) + 0)) + 0 * (1024 * ns) + 0 * l
alone w s ns l = omega arith

pub alone_in_time : (w s ns least most : ℕ) → (w + 0) * (1024 * least * s) ≤ w * (1024 * least * ((s + 0) + 0)) + 0 * (1024 * least * ns) + 0 * (most * s)
alone_in_time w s ns least most = omega arith

pub who_sleeps_has_no_more : PickIsFirst → PickOfNobody → WhoSleepsHasNoMore
who_sleeps_has_no_more first nobody w q events t place [] counts at all = record {
  share = record { at_most = alone (weight_of (w.nice_of t)) (time_of t (picked q) events) w.turn (lost_by t (picked q) events) };
  in_time = λ least most long loses. record { at_most = alone_in_time (weight_of (w.nice_of t)) (time_of t (picked q) events) w.turn least most };
}
who_sleeps_has_no_more first nobody w q events t place (u ∷ us) counts at all =
    let o : ℕ = sum_weights w (numbers (u ∷ us)) in
    let share = share_of_sleeper (weight_of (w.nice_of t)) o (charges t (picked q) events) (turn_charge w t) (lost_by t (picked q) events)
    (sum_lost (picked q) events (numbers (u ∷ us))) (time_of t (picked q) events) (sum_times (picked q) events (numbers (u ∷ us))) (sum_slices (u ∷ us)) w.turn
    (beside first nobody w q events t place counts at (u ∷ us) all) (own_time first nobody w q events t place counts at u us all)
    (rounded_down w.turn (weight_of (w.nice_of t))) in
    record {
      share = record { at_most = share };
      in_time = λ least most long loses. record {
        at_most = sleeper_in_time (weight_of (w.nice_of t)) o (sum_slices (u ∷ us)) w.turn least most (sum_times (picked q) events (t ∷ numbers (u ∷ us)))
            (time_of t (picked q) events) (sum_lost (picked q) events (numbers (u ∷ us))) (lost_by t (picked q) events) share
            (own_lost first nobody w q events t place counts at u us all least most long loses);
      };
    }
