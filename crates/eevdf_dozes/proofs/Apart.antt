-- At any moment of a history in which all tasks may doze no runnable task is far ahead of another.
use Rattle.std.proofs.Common.{◌≡◌, ℕ, suc, ◌+◌, ◌*◌, ◌≤◌, Bool, true, false, cond, List, [], ◌∷◌, Some, refl, sym, subst, arith}
use Rattle.std.specs.Prelude.{ℤ, pos, ◌+ℤ◌, ◌-ℤ◌, ◌≤ℤ◌, is_some}
use Rattle.std.specs.{Ordering.nat_cmp, Ordering.eq_by_cmp, FinMap.get}
use Rattle.std.proofs.{lemmas.Int.ints}
use Rattle.eevdf_weight.specs.{Weight.weight_of, Charge.charge_of, Charge.lag_limit_of}
use Rattle.eevdf_weight.proofs.Weighing.{weight_of-least}
use Rattle.eevdf_queue.specs.{declared.entry.Entry.Entry, State.State, Laws.PickIsFirst, Laws.PickOfNobody}
use Rattle.eevdf_queue.specs.{Leaving.stopped, Doze.doze, Wake.wake}
use Rattle.eevdf_queue.proofs.Foremost.{equal_number}
use Rattle.eevdf_dozes.specs.{Places.place_of, Stretches.Watch, Stretches.HaveLevels, Stretches.NoneIsPastDue, Stretches.IsChange, Stretches.picked, Stretches.ticked}
use Rattle.eevdf_dozes.specs.{Punctual.NoneStandsPast, Shares.times_in}
use Rattle.eevdf_dozes.specs.Calls.{Touches, IsDozing, DozesIfItCounts}
use Rattle.eevdf_dozes.specs.Histories.{Call, Pick, Tick, Doze, Wake, Touch, after_call, after_calls, SleepersDoze}
use Rattle.eevdf_dozes.specs.{Bounds.Bounds, Bounds.IsWithin, Bounds.IsWithinAlong, Ahead.setback, Ahead.IsAheadByNoMore}
use Rattle.eevdf_dozes.specs.Apart.{AreAllowedOfAll, SomeIsRunnable, SomeIsRunnableAlong, BeginsTogether, greatest_setback, sum_greatest, most_apart, IsLeast, LeastWeightIs15, NobodyIsEverFarApart}
use Rattle.eevdf_dozes.proofs.{Standing.all_stand, Standing.nobody_moves, Standing.standing_is_change, StandingCalls.Stands, StandingCalls.stands}
use Rattle.eevdf_dozes.proofs.Changes.{differs, uncounted, nobody_is, stopped_is, others_may_be_touched, calls_are_changes}
use Rattle.eevdf_dozes.proofs.Sleepers.{others_doze, doze_dozes, wake_dozes}
use Rattle.eevdf_dozes.proofs.{Optional.one_place, Optional.there, Optional.IsThen, Optional.standing, Dozing.doze_is, Dozing.wake_is, PutPast.by_stand, PutPast.calls_put_none_past, Punctual.lighter_turn_is_longer}
use Rattle.eevdf_dozes.proofs.Setbacks.{sum_seen, both_grow, one_within}
use Rattle.eevdf_dozes.proofs.Near.{level_is_near}
use Rattle.eevdf_dozes.proofs.Behind.{stand_behind, others_behind, dozes_behind, wakes_behind}
use Rattle.eevdf_dozes.proofs.Close.{watching, reach, IsClose, IsStep, watched_of, within_of, close_by_pick, close_by_tick, close_by_step}
use Rattle.eevdf_dozes.proofs.Steps.{some_is}

-- ---- the setbacks
heavier_is_less : (w : Watch) (b : Bounds) (least x t : ℕ) → IsLeast w least → w.counts x ≡ true → setback (watching w x) b t ≤ greatest_setback w b least t
heavier_is_less w b least x t is_least counts =
    both_grow (lag_limit_of (b.slice_of t) (weight_of (w.nice_of t))) (lag_limit_of (b.slice_of t) (weight_of (w.nice_of t)))
    (lag_limit_of (b.slice_of t) (weight_of (w.nice_of x))) (lag_limit_of (b.slice_of t) least) (itself (lag_limit_of (b.slice_of t) (weight_of (w.nice_of t))))
    (lighter_turn_is_longer (2 * b.slice_of t) least (w.nice_of x) is_least.some (is_least.none_less x counts))
  where
    itself : (n : ℕ) → n ≤ n
    itself n = omega arith

further_back : (limit place : ℤ) (m n : ℕ) → m ≤ n → limit ≤ℤ (place +ℤ pos m) → limit ≤ℤ (place +ℤ pos n)
further_back limit place m n h k = omega (arith, ints, h, k)

seen_of_greatest : (w : Watch) (b : Bounds) (least : ℕ) (seen : ℕ → Bool) (ts : List ℕ) → sum_seen (greatest_setback w b least) seen ts ≤ sum_greatest w b least ts
seen_of_greatest w b least seen [] = omega arith
seen_of_greatest w b least seen (t ∷ ts) =
    both_grow (cond (seen t) (greatest_setback w b least t) 0) (greatest_setback w b least t) (sum_seen (greatest_setback w b least) seen ts) (sum_greatest w b least ts)
    (one_within (greatest_setback w b least t) (seen t)) (seen_of_greatest w b least seen ts)

-- ---- one call
another : (n : ℕ) → n ≡ suc n → ⊥
another n h = absurd (omega (arith, h))

no_change : (w : Watch) (q r : State) → r ≡ q → IsChange w q r
no_change w q r same = subst (IsChange w q) (sym same) (standing_is_change w q q (pos 0) (all_stand q q (nobody_moves q)))

dozing_of_all : (w : Watch) (x : ℕ) (q : State) (task : ℕ) → DozesIfItCounts w q task → DozesIfItCounts (watching w x) q task
dozing_of_all w x q task h s counts asleep =
    let d : IsDozing w q task s = h s counts asleep in
    record {
      level = d.level;
      place = d.place;
      kept = d.kept;
      no_debt = d.no_debt;
      not_runnable = d.not_runnable;
      not_running = d.not_running;
    }

module _ (w : Watch) (b : Bounds) (least : ℕ) (is_least : IsLeast w least) where
  abbrev cost : ℕ → ℕ
  cost t = greatest_setback w b least t

  standing_step : (q r : State) → Stands q r → SleepersDoze w q → IsStep w cost q r
  standing_step q r h sleepers =
      let change : IsChange (watching w 0) q r = standing_is_change (watching w 0) q r h.by h.all in
      record {
        places = change.places;
        runs = λ x counts runs. standing_is_change (watching w x) q r h.by h.all;
        levels = change.levels;
        due = change.due;
        puts = by_stand w q r h.by h.all;
        behind = stand_behind w cost q r h.by h.all;
        doze = h.doze w sleepers;
      }

  touch_step : (q r : State) (task : ℕ) → w.counts task ≡ false → Touches task q r → SleepersDoze w q → IsStep w cost q r
  touch_step q r task not h sleepers =
      let change : IsChange (watching w (suc task)) q r = others_may_be_touched (watching w (suc task)) q r task not (another task) h in
      record {
        places = change.places;
        runs = λ x counts runs.
            others_may_be_touched (watching w x) q r task not
            (λ same. uncounted (w.counts task) not (subst (λ (u : ℕ). w.counts u ≡ true) (sym same) counts)) h;
        levels = change.levels;
        due = change.due;
        puts = calls_put_none_past.others w q r task not h;
        behind = others_behind w cost q r task not h;
        doze = others_doze w task q r not h sleepers;
      }

  dozed_runs : (q : State) (task : ℕ) → (doze q task).running ≡ Some task → doze q task ≡ q
  dozed_runs q task =
      doze_is (λ r. r.running ≡ Some task → r ≡ q) q task (λ is. refl)
      (λ e runs here is. absurd (nobody_is (stopped q.running task) task (stopped_is q.running task runs) is))

  runs_by_doze : (q : State) (task x : ℕ) (s : Bool) → eq_by_cmp nat_cmp x task ≡ s → (doze q task).running ≡ Some x → IsChange (watching w x) q (doze q task)
  runs_by_doze q task x true is runs =
      let same : x ≡ task = equal_number x task is in
      no_change (watching w x) q (doze q task) (dozed_runs q task (subst (λ (u : ℕ). (doze q task).running ≡ Some u) same runs))
  runs_by_doze q task x false is runs = calls_are_changes.dozes (watching w x) q task (λ same. differs x task is (sym same))

  doze_step : (q : State) (task : ℕ) → HaveLevels w q.runnable → SleepersDoze w q → IsStep w cost q (doze q task)
  doze_step q task levels sleepers =
      let change : IsChange (watching w (suc task)) q (doze q task) = calls_are_changes.dozes (watching w (suc task)) q task (another task) in
      record {
        places = change.places;
        runs = λ x counts runs. runs_by_doze q task x (eq_by_cmp nat_cmp x task) refl runs;
        levels = change.levels;
        due = change.due;
        puts = calls_put_none_past.dozes w q task;
        behind = dozes_behind w cost q task;
        doze = doze_dozes w q task levels sleepers;
      }

  woken_runs : (q : State) (task : ℕ) → SleepersDoze w q → w.counts task ≡ true → (wake q task).1.running ≡ Some task → (wake q task).1 ≡ q
  woken_runs q task sleepers counts =
      wake_is (λ r. r.running ≡ Some task → r ≡ q) q task (λ is. refl)
      (λ s asleep is. absurd ((sleepers task s counts asleep).not_running is))

  runs_by_wake : (q : State) (task x : ℕ) (s : Bool) → eq_by_cmp nat_cmp x task ≡ s → SleepersDoze w q → w.counts x ≡ true
      → (wake q task).1.running ≡ Some x → IsChange (watching w x) q (wake q task).1
  runs_by_wake q task x true is sleepers counts runs =
      let same : x ≡ task = equal_number x task is in
      no_change (watching w x) q (wake q task).1
      (woken_runs q task sleepers (subst (λ (u : ℕ). w.counts u ≡ true) same counts)
      (subst (λ (u : ℕ). (wake q task).1.running ≡ Some u) same runs))
  runs_by_wake q task x false is sleepers counts runs =
      calls_are_changes.wakes (watching w x) q task (λ same. differs x task is (sym same)) (dozing_of_all w x q task (sleepers task))

  wake_step : (q : State) (task : ℕ) → IsWithin w b q → SomeIsRunnable q → HaveLevels w q.runnable → NoneIsPastDue q.runnable → SleepersDoze w q
      → IsStep w cost q (wake q task).1
  wake_step q task within some levels due sleepers =
      let change : IsChange (watching w (suc task)) q (wake q task).1 =
      calls_are_changes.wakes (watching w (suc task)) q task (another task) (dozing_of_all w (suc task) q task (sleepers task)) in
      let x : ℕ = some.task in
      let here : is_some (get q.runnable x) ≡ true = some_is (get q.runnable x) some.entry some.here in
      record {
        places = change.places;
        runs = λ y counts runs. runs_by_wake q task y (eq_by_cmp nat_cmp y task) refl sleepers counts runs;
        levels = change.levels;
        due = change.due;
        puts = calls_put_none_past.wakes (watching w x) q task here within.count (dozing_of_all w x q task (sleepers task));
        behind = λ limit all t e counts none there.
            further_back limit (e.v +ℤ (wake q task).1.shift) (setback (watching w x) b t) (greatest_setback w b least t) (heavier_is_less w b least x t is_least (within.count x some.entry some.here))
            (wakes_behind (watching w x) b q task (watched_of w x q here levels due) (within.count x some.entry some.here) (within_of w x b q within)
            (dozing_of_all w x q task (sleepers task)) limit all t e counts none there);
        doze = wake_dozes w q task sleepers;
      }

-- ---- all calls
pub record IsCloseThen (w : Watch) (b : Bounds) (least : ℕ) (q : State) : Type 0 where
  pub ran : ℕ
  pub close : IsClose w b least (greatest_setback w b least) ran q
  pub within : IsWithin w b q

module _ (first : PickIsFirst) (nobody : PickOfNobody) (w : Watch) (b : Bounds) (least : ℕ) (is_least : IsLeast w least) (listed : (t : ℕ) → w.counts t ≡ true → 1 ≤ times_in t b.others) where
  abbrev costs : ℕ → ℕ
  costs t = greatest_setback w b least t

  close_along : (ran : ℕ) (q : State) (calls : List Call) → AreAllowedOfAll w ran q calls → IsWithinAlong w b q calls → SomeIsRunnableAlong q calls
      → IsClose w b least costs ran q → IsCloseThen w b least (after_calls q calls)
  close_along ran q [] allowed within some c = record { ran = ran; close = c; within = within }
  close_along ran q (Pick ∷ calls) allowed within some c =
      close_along 0 (picked q) calls allowed.1 within.1 some.1 (close_by_pick first nobody w b least costs ran q within.0 some.0 c)
  close_along ran q (Tick ns ∷ calls) allowed within some c =
      close_along (ran + ns) (ticked q ns) calls allowed.1 within.1 some.1 (close_by_tick w b least is_least costs ran ns q allowed.0 c)
  close_along ran q (Doze task ∷ calls) allowed within some c =
      let r : State = doze q task in
      close_along ran r calls allowed.1 within.1 some.1
      (close_by_step w b least costs listed ran q r within.0 (doze_step w b least is_least q task c.levels c.doze) c)
  close_along ran q (Wake task ∷ calls) allowed within some c =
      let r : State = (wake q task).1 in
      close_along ran r calls allowed.1 within.1 some.1
      (close_by_step w b least costs listed ran q r within.0 (wake_step w b least is_least q task within.0 some.0 c.levels c.due c.doze) c)
  close_along ran q (Touch task r ∷ calls) allowed within some c =
      close_along ran r calls allowed.1 within.1 some.1
      (close_by_step w b least costs listed ran q r within.0 (touch_step w b least is_least q r task allowed.0.0 allowed.0.1 c.doze) c)
  close_along ran q (call ∷ calls) allowed within some c =
      let r : State = after_call q call in
      close_along ran r calls allowed.1 within.1 some.1
      (close_by_step w b least costs listed ran q r within.0 (standing_step w b least is_least q r (stands q call) c.doze) c)

-- ---- at first
ahead_at_first : (v u shift mark : ℤ) (request : ℕ) → (v +ℤ shift) ≤ℤ mark → mark ≤ℤ ((u +ℤ shift) +ℤ pos request) → v ≤ℤ (u +ℤ pos request)
ahead_at_first v u shift mark request h k = omega (arith, ints, h, k)

behind_at_first : (mark place : ℤ) (request turn more : ℕ) → mark ≤ℤ (place +ℤ pos request) → (mark -ℤ pos (request + turn + more)) ≤ℤ place
behind_at_first mark place request turn more h = omega (arith, ints, h)

place_in_time : (w : Watch) (q : State) (mark : ℤ) → NoneStandsPast w mark q → (t : ℕ) (e : Entry) → w.counts t ≡ true → get q.runnable t ≡ Some e
    → (e.v +ℤ q.shift) ≤ℤ mark
place_in_time w q mark none t e counts here = none t (e.v +ℤ q.shift) counts (standing q.shift (get q.places t) (get q.runnable t) e here)

pub now_within : (w : Watch) (b : Bounds) (q : State) (calls : List Call) → IsWithinAlong w b q calls → IsWithin w b q
now_within w b q [] within = within
now_within w b q (call ∷ calls) within = within.0

close_at_first : (w : Watch) (b : Bounds) (least ran : ℕ) (q : State) (calls : List Call) → BeginsTogether w b ran q calls
    → IsClose w b least (greatest_setback w b least) ran q
close_at_first w b least ran q calls h =
    record {
      levels = h.levels;
      due = h.due;
      doze = h.doze;
      mark = h.together.mark;
      seen = λ t. is_some (get q.runnable t);
      here = λ t e here. some_is (get q.runnable t) e here;
      past = h.together.none_past;
      near = λ t counts seen.
          let f = there (get q.runnable t) seen in
          record {
            place = f.0.v +ℤ q.shift;
            there = standing q.shift (get q.places t) (get q.runnable t) f.0 f.1;
            later = behind_at_first h.together.mark (f.0.v +ℤ q.shift) b.request (charge_of w.turn least)
                (sum_seen (greatest_setback w b least) (λ u. is_some (get q.runnable u)) b.others) (h.together.none_behind t f.0 f.1);
          };
      runner = λ x counts runs. record {
        here = h.runner x runs;
        near = level_is_near (watching w x) b (greatest_setback w b least) ran q (level x counts);
      };
    }
  where
    level : (x : ℕ) → w.counts x ≡ true → IsAheadByNoMore (watching w x) q b.request
    level x counts e stays t f here =
        ahead_at_first e.v f.v q.shift h.together.mark b.request (place_in_time w q h.together.mark h.together.none_past x e counts stays)
        (h.together.none_behind t f here)

-- ---- the law
apart_by : (v u shift mark : ℤ) (request turn seen all : ℕ) → (v +ℤ shift) ≤ℤ mark → seen ≤ all → (mark -ℤ pos (request + turn + seen)) ≤ℤ (u +ℤ shift)
    → v ≤ℤ (u +ℤ pos (request + turn + all))
apart_by v u shift mark request turn seen all h k l = omega (arith, ints, h, k, l)

pub close_is_near : (w : Watch) (b : Bounds) (least : ℕ) (r : State) → IsCloseThen w b least r → (t u : ℕ) (e f : Entry) → get r.runnable t ≡ Some e → get r.runnable u ≡ Some f
    → e.v ≤ℤ (f.v +ℤ pos (most_apart w b least))
close_is_near w b least r h t u e f here there =
    let c : IsClose w b least (greatest_setback w b least) h.ran r = h.close in
    let a : IsThen (c.mark -ℤ pos (reach w b least (greatest_setback w b least) c.seen)) (place_of r u) =
    c.near u (h.within.count u f there) (c.here u f there) in
    let same : a.place ≡ f.v +ℤ r.shift =
    one_place a.place (f.v +ℤ r.shift) (place_of r u) a.there (standing r.shift (get r.places u) (get r.runnable u) f there) in
    apart_by e.v f.v r.shift c.mark b.request (charge_of w.turn least) (sum_seen (greatest_setback w b least) c.seen b.others) (sum_greatest w b least b.others)
    (place_in_time w r c.mark c.past t e (h.within.count t e here) here) (seen_of_greatest w b least c.seen b.others)
    (subst (λ (z : ℤ). (c.mark -ℤ pos (reach w b least (greatest_setback w b least) c.seen)) ≤ℤ z) same a.later)

pub close_after : PickIsFirst → PickOfNobody → (w : Watch) (b : Bounds) (least ran : ℕ) (q : State) (calls : List Call) → IsLeast w least
    → BeginsTogether w b ran q calls → IsCloseThen w b least (after_calls q calls)
close_after first nobody w b least ran q calls is_least h =
    close_along first nobody w b least is_least h.listed ran q calls h.allowed h.within h.some (close_at_first w b least ran q calls h)

pub nobody_is_ever_far_apart : PickIsFirst → PickOfNobody → NobodyIsEverFarApart
nobody_is_ever_far_apart first nobody w b least ran q calls is_least h =
    close_is_near w b least (after_calls q calls) (close_after first nobody w b least ran q calls is_least h)

pub least_weight_is_15 : LeastWeightIs15
least_weight_is_15 w = record { some = omega arith; none_less = λ t counts. weight_of-least (w.nice_of t) }
