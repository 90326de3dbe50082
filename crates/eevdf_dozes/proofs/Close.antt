-- What keeps all tasks near to a mark that none of them stands past.
use Rattle.std.proofs.Common.{◌≡◌, ℕ, ◌+◌, ◌≤◌, ◌⊎◌, Bool, true, false, cond, Option, Some, None, refl, sym, ap, ◌∙◌, subst, inl, inr, arith}
use Rattle.std.specs.Prelude.{ℤ, pos, ◌+ℤ◌, ◌-ℤ◌, ◌≤ℤ◌, int_le, is_some}
use Rattle.std.specs.{FinMap.get}
use Rattle.std.proofs.{lemmas.Int.ints}
use Rattle.eevdf_weight.specs.{Charge.charge_of}
use Rattle.eevdf_queue.specs.{declared.entry.Entry.Entry, State.State, Sums.Tasks, Laws.PickIsFirst, Laws.PickOfNobody, Pick.pick_of}
use Rattle.eevdf_dozes.specs.{Places.place_of, Places.IsNoEarlier, Gains.turn_charge, Punctual.NoneStandsPast, Shares.times_in}
use Rattle.eevdf_dozes.specs.Stretches.{Watch, HaveLevels, NoneIsPastDue, IsWatched, Stays, RunsOn, IsChange, picked, ticked, charged_for}
use Rattle.eevdf_dozes.specs.{Calls.PutsNonePast, Histories.SleepersDoze, Bounds.Bounds, Bounds.IsWithin, Apart.SomeIsRunnable, Apart.IsLeast}
use Rattle.eevdf_dozes.proofs.Optional.{one_place, there, CameFrom, came_from, IsThen, is_then, standing}
use Rattle.eevdf_dozes.proofs.Ticking.{IsStill, tick_moves, tick_running_stays, charged_runs, tick_keeps, tick_levels, tick_due}
use Rattle.eevdf_dozes.proofs.PicksInTime.{IsInTime, same_tasks, pick_stands, runner_in_time}
use Rattle.eevdf_dozes.proofs.Sleepers.{pick_dozes, tick_dozes}
use Rattle.eevdf_dozes.proofs.{Punctual.lighter_turn_is_longer, Setbacks.sum_seen, Setbacks.AreSeenStill, Setbacks.sum_grows, Setbacks.sum_added}
use Rattle.eevdf_dozes.proofs.Near.{AllStandAfter, PutsNoneFarBehind, IsNear, limit_of, level_is_near, level_by_pick, still_here, moved, near_by_tick, near_by_change, none_here, or_true, first_true, which_true}
use Rattle.eevdf_fairness.proofs.Inequalities.{le_then, no_more}
use Rattle.eevdf_dozes.proofs.{Changes.uncounted, Punctual.stood_still, Steps.some_is}

-- the same watch with another task that stays
abbrev pub watching : Watch → ℕ → Watch
watching w task = record w { stays = task }

abbrev pub reach : Watch → Bounds → ℕ → (ℕ → ℕ) → (ℕ → Bool) → ℕ
reach w b least cost seen = b.request + charge_of w.turn least + sum_seen cost seen b.others

-- who runs is runnable, and near to all that were so since it was picked
pub record RunnerIsNear (w : Watch) (b : Bounds) (cost : ℕ → ℕ) (ran : ℕ) (q : State) (task : ℕ) : Type 0 where
  pub here : is_some (get q.runnable task) ≡ true
  pub near : IsNear (watching w task) b cost ran q

pub record IsClose (w : Watch) (b : Bounds) (least : ℕ) (cost : ℕ → ℕ) (ran : ℕ) (q : State) : Type 0 where
  pub levels : HaveLevels w q.runnable
  pub due : NoneIsPastDue q.runnable
  pub doze : SleepersDoze w q
  pub mark : ℤ
  pub seen : ℕ → Bool
  pub here : (t : ℕ) (e : Entry) → get q.runnable t ≡ Some e → seen t ≡ true
  pub past : NoneStandsPast w mark q
  pub near : (t : ℕ) → w.counts t ≡ true → seen t ≡ true → IsThen (mark -ℤ pos (reach w b least cost seen)) (place_of q t)
  pub runner : (x : ℕ) → w.counts x ≡ true → q.running ≡ Some x → RunnerIsNear w b cost ran q x

pub watched_of : (w : Watch) (x : ℕ) (q : State) → is_some (get q.runnable x) ≡ true → HaveLevels w q.runnable → NoneIsPastDue q.runnable
    → IsWatched (watching w x) q
watched_of w x q here levels due = record { here = here; levels = levels; due = due }

pub within_of : (w : Watch) (x : ℕ) (b : Bounds) (q : State) → IsWithin w b q → IsWithin (watching w x) b q
within_of w x b q h = record { count = h.count; requests = h.requests; credits = h.credits }

-- ---- a pick
module _ (first : PickIsFirst) (nobody : PickOfNobody) (w : Watch) (b : Bounds) (least : ℕ) (cost : ℕ → ℕ) where
  picked_here : (q : State) (t : ℕ) (e : Entry) → get (picked q).runnable t ≡ Some e → get q.runnable t ≡ Some e
  picked_here q t e here = ap (λ (m : Tasks). get m t) (sym (same_tasks q (pick_of q.runnable))) ∙ here

  runner_by_pick : (q : State) → IsWithin w b q → SomeIsRunnable q → HaveLevels w q.runnable → NoneIsPastDue q.runnable → (x : ℕ)
      → (picked q).running ≡ Some x → RunnerIsNear w b cost 0 (picked q) x
  runner_by_pick q within some levels due x runs =
      let p : IsInTime q.runnable x some.entry.d = runner_in_time first nobody q some.task x some.entry due some.here runs in
      let here : is_some (get q.runnable x) ≡ true = some_is (get q.runnable x) p.entry p.here in
      record {
        here = ap (λ (m : Tasks). is_some (get m x)) (same_tasks q (pick_of q.runnable)) ∙ here;
        near = level_is_near (watching w x) b cost 0 (picked q)
            (level_by_pick first nobody (watching w x) b cost q (watched_of w x q here levels due) (within_of w x b q within) runs);
      }

  pub close_by_pick : (ran : ℕ) (q : State) → IsWithin w b q → SomeIsRunnable q → IsClose w b least cost ran q → IsClose w b least cost 0 (picked q)
  close_by_pick ran q within some c =
      let same : (picked q).runnable ≡ q.runnable = same_tasks q (pick_of q.runnable) in
      record {
        levels = subst (HaveLevels w) (sym same) c.levels;
        due = subst NoneIsPastDue (sym same) c.due;
        doze = pick_dozes first w q c.doze;
        mark = c.mark;
        seen = c.seen;
        here = λ t e here. c.here t e (picked_here q t e here);
        past = λ t place counts at. c.past t place counts (sym (pick_stands q t) ∙ at);
        near = λ t counts seen.
            let a : IsThen (c.mark -ℤ pos (reach w b least cost c.seen)) (place_of q t) = c.near t counts seen in
            record { place = a.place; there = pick_stands q t ∙ a.there; later = a.later };
        runner = λ x counts runs. runner_by_pick q within some c.levels c.due x runs;
      }

-- ---- a tick
same_time : (z : ℤ) → z ≤ℤ z
same_time z = omega (arith, ints)

not_after : (a b : ℤ) → int_le a b ≡ true → a ≤ℤ b
not_after a b h = omega (arith, ints, h)

after : (a b : ℤ) → int_le a b ≡ false → b ≤ℤ a
after a b h = omega (arith, ints, h)

grown : (a place : ℤ) (x : ℕ) → a ≤ℤ place → a ≤ℤ (place +ℤ pos x)
grown a place x h = omega (arith, ints, h)

weaker : (place mark later : ℤ) (request by most more : ℕ) → place ≡ mark → by ≤ most → (place -ℤ pos (request + by + more)) ≤ℤ later
    → (mark -ℤ pos (request + most + more)) ≤ℤ later
weaker place mark later request by most more h k l = omega (arith, ints, h, k, l)

module _ (w : Watch) (b : Bounds) (least : ℕ) (is_least : IsLeast w least) (cost : ℕ → ℕ) (ran ns : ℕ) (q : State) (short : ran + ns ≤ w.turn) (c : IsClose w b least cost ran q) where
  ticked_runner : (x : ℕ) → w.counts x ≡ true → q.running ≡ Some x → RunnerIsNear w b cost (ran + ns) (ticked q ns) x
  ticked_runner x counts runs =
      let n : RunnerIsNear w b cost ran q x = c.runner x counts runs in
      let e = there (get q.runnable x) n.here in
      let s : IsStill e.0 (get (ticked q ns).runnable x) = tick_keeps q x ns e.0 e.1 in
      record {
        here = some_is (get (ticked q ns).runnable x) s.entry s.here;
        near = near_by_tick (watching w x) b cost counts ran ns q (watched_of w x q n.here c.levels c.due) short n.near;
      }

  -- with a mark that none is past afterwards
  past_by_tick : (limit : ℤ) → c.mark ≤ℤ limit
      → ((t : ℕ) (place : ℤ) → w.counts t ≡ true → q.running ≡ Some t → place_of (ticked q ns) t ≡ Some place → place ≤ℤ limit)
      → NoneStandsPast w limit (ticked q ns)
  past_by_tick limit h runner t place counts at =
      let came : CameFrom (place_of q t) (charged_for t q ns) place =
      came_from (place_of q t) (charged_for t q ns) place (sym (tick_moves q t ns) ∙ at) in
      by came (charged_runs q t ns)
    where
      by : CameFrom (place_of q t) (charged_for t q ns) place → (charged_for t q ns ≡ 0) ⊎ (q.running ≡ Some t) → place ≤ℤ limit
      by came (inl none) =
          stood_still came.before place limit (charged_for t q ns) came.moved none
          (le_then came.before c.mark limit (c.past t came.before counts came.there) h)
      by came (inr runs) = runner t place counts runs at

  same_mark : ((t : ℕ) (place : ℤ) → w.counts t ≡ true → q.running ≡ Some t → place_of (ticked q ns) t ≡ Some place → place ≤ℤ c.mark)
      → IsClose w b least cost (ran + ns) (ticked q ns)
  same_mark runner = record {
    levels = tick_levels w q ns c.levels;
    due = tick_due q ns c.due;
    doze = tick_dozes w ns q c.doze;
    mark = c.mark;
    seen = c.seen;
    here = λ t f here. let e = still_here q t ns f (get q.runnable t) refl here in c.here t e.0 e.1;
    past = past_by_tick c.mark (same_time c.mark) runner;
    near = λ t counts seen.
        let a : IsThen (c.mark -ℤ pos (reach w b least cost c.seen)) (place_of q t) = c.near t counts seen in
        record {
          place = a.place +ℤ pos (charged_for t q ns);
          there = moved a.place (place_of q t) (place_of (ticked q ns) t) (charged_for t q ns) (tick_moves q t ns) a.there;
          later = grown (c.mark -ℤ pos (reach w b least cost c.seen)) a.place (charged_for t q ns) a.later;
        };
    runner = λ x counts runs. ticked_runner x counts (sym (tick_running_stays q ns) ∙ runs);
  }

  -- or with the place of who runs as the mark
  module _ (x : ℕ) (counts_x : w.counts x ≡ true) (runs_x : q.running ≡ Some x) (e : Entry) (here_x : get (ticked q ns).runnable x ≡ Some e) where
    abbrev stands_at : ℤ
    stands_at = e.v +ℤ (ticked q ns).shift

    its_place : (t : ℕ) (place : ℤ) → q.running ≡ Some t → place_of (ticked q ns) t ≡ Some place → place ≡ stands_at
    its_place t place runs at =
        let same : t ≡ x = cc in
        one_place place stands_at (place_of (ticked q ns) x) (ap (place_of (ticked q ns)) (sym same) ∙ at)
        (standing (ticked q ns).shift (get (ticked q ns).places x) (get (ticked q ns).runnable x) e here_x)

    at_most : (t : ℕ) (place limit : ℤ) → stands_at ≤ℤ limit → q.running ≡ Some t → place_of (ticked q ns) t ≡ Some place → place ≤ℤ limit
    at_most t place limit h runs at = subst (λ (z : ℤ). z ≤ℤ limit) (sym (its_place t place runs at)) h

    new_mark : c.mark ≤ℤ stands_at → IsClose w b least cost (ran + ns) (ticked q ns)
    new_mark h =
        let r : RunnerIsNear w b cost (ran + ns) (ticked q ns) x = ticked_runner x counts_x runs_x in
        record {
          levels = tick_levels w q ns c.levels;
          due = tick_due q ns c.due;
          doze = tick_dozes w ns q c.doze;
          mark = stands_at;
          seen = r.near.seen;
          here = r.near.here;
          past = past_by_tick stands_at h (λ t place counts runs at. at_most t place stands_at (same_time stands_at) runs at);
          near = λ t counts seen.
              let a : IsThen (limit_of (watching w x) b cost (ticked q ns) e r.near.by r.near.seen) (place_of (ticked q ns) t) =
              r.near.near e here_x t counts seen in
              record {
                place = a.place;
                there = a.there;
                later = weaker stands_at stands_at a.place b.request r.near.by (charge_of w.turn least) (sum_seen cost r.near.seen b.others) refl
                    (no_more r.near.by (turn_charge w x) (charge_of w.turn least) r.near.little (lighter_turn_is_longer w.turn least (w.nice_of x) is_least.some (is_least.none_less x counts_x))) a.later;
              };
          runner = λ y counts runs. ticked_runner y counts (sym (tick_running_stays q ns) ∙ runs);
        }

    by_mark : (s : Bool) → int_le stands_at c.mark ≡ s → IsClose w b least cost (ran + ns) (ticked q ns)
    by_mark true is = same_mark (λ t place counts runs at. at_most t place c.mark (not_after stands_at c.mark is) runs at)
    by_mark false is = new_mark (after stands_at c.mark is)

  nobody_is : (o : Option ℕ) (t : ℕ) → q.running ≡ o → o ≡ None → q.running ≡ Some t → ⊥
  nobody_is o t is none runs = cc

  by_runner : (o : Option ℕ) → q.running ≡ o → IsClose w b least cost (ran + ns) (ticked q ns)
  by_runner None runs = same_mark (λ t place counts is at. absurd (nobody_is None t runs refl is))
  by_runner (Some x) runs =
      by (w.counts x) refl
    where
      other : (t : ℕ) → w.counts x ≡ false → w.counts t ≡ true → q.running ≡ Some t → ⊥
      other t not counts is = let same : t ≡ x = cc in cc

      by : (s : Bool) → w.counts x ≡ s → IsClose w b least cost (ran + ns) (ticked q ns)
      by true counts =
          let e = there (get (ticked q ns).runnable x) (ticked_runner x counts runs).here in
          by_mark x counts runs e.0 e.1 (int_le (e.0.v +ℤ (ticked q ns).shift) c.mark) refl
      by false not = same_mark (λ t place counts is at. absurd (other t not counts is))

  pub close_by_tick : IsClose w b least cost (ran + ns) (ticked q ns)
  close_by_tick = by_runner q.running refl

-- ---- anything else
lower : (mark place later : ℤ) (request turn more most : ℕ) → more ≤ most → (mark -ℤ pos (request + turn + more)) ≤ℤ place → place ≤ℤ later
    → (mark -ℤ pos (request + turn + most)) ≤ℤ later
lower mark place later request turn more most h k l = omega (arith, ints, h, k, l)

set_back : (mark place : ℤ) (request turn more most set : ℕ) → more + set ≤ most → (mark -ℤ pos (request + turn + more)) ≤ℤ (place +ℤ pos set)
    → (mark -ℤ pos (request + turn + most)) ≤ℤ place
set_back mark place request turn more most set h k = omega (arith, ints, h, k)

-- what a call is that is neither a pick nor a tick
pub record IsStep (w : Watch) (cost : ℕ → ℕ) (q r : State) : Type 0 where
  pub places : (t : ℕ) → w.counts t ≡ true → IsNoEarlier (place_of q t) (place_of r t)
  pub runs : (x : ℕ) → w.counts x ≡ true → r.running ≡ Some x → IsChange (watching w x) q r
  pub levels : HaveLevels w q.runnable → HaveLevels w r.runnable
  pub due : NoneIsPastDue q.runnable → NoneIsPastDue r.runnable
  pub puts : PutsNonePast w q r
  pub behind : PutsNoneFarBehind w cost q r
  pub doze : SleepersDoze w r

module _ (w : Watch) (b : Bounds) (least : ℕ) (cost : ℕ → ℕ) (listed : (t : ℕ) → w.counts t ≡ true → 1 ≤ times_in t b.others) (ran : ℕ) (q r : State)
    (within : IsWithin w b q) (step : IsStep w cost q r) (c : IsClose w b least cost ran q) where
  abbrev now_seen : ℕ → Bool
  now_seen t = cond (is_some (get r.runnable t)) true (c.seen t)

  more : AreSeenStill c.seen now_seen
  more t is = or_true (is_some (get r.runnable t)) (c.seen t) is

  seen_before : (t : ℕ) → w.counts t ≡ true → c.seen t ≡ true → IsThen (c.mark -ℤ pos (reach w b least cost now_seen)) (place_of r t)
  seen_before t counts is =
      let a : IsThen (c.mark -ℤ pos (reach w b least cost c.seen)) (place_of q t) = c.near t counts is in
      let l : IsThen a.place (place_of r t) = is_then a.place (place_of q t) (place_of r t) (step.places t counts) a.there in
      record {
        place = l.place;
        there = l.there;
        later = lower c.mark a.place l.place b.request (charge_of w.turn least) (sum_seen cost c.seen b.others) (sum_seen cost now_seen b.others)
            (sum_grows cost c.seen now_seen b.others more) a.later l.later;
      }

  all_after : AllStandAfter (c.mark -ℤ pos (reach w b least cost c.seen)) q
  all_after u g at =
      let a : IsThen (c.mark -ℤ pos (reach w b least cost c.seen)) (place_of q u) = c.near u (within.count u g at) (c.here u g at) in
      subst (λ (z : ℤ). (c.mark -ℤ pos (reach w b least cost c.seen)) ≤ℤ z)
      (one_place a.place (g.v +ℤ q.shift) (place_of q u) a.there (standing q.shift (get q.places u) (get q.runnable u) g at)) a.later

  seen_first : (t : ℕ) → w.counts t ≡ true → c.seen t ≡ false → now_seen t ≡ true → IsThen (c.mark -ℤ pos (reach w b least cost now_seen)) (place_of r t)
  seen_first t counts not is =
      let f = there (get r.runnable t) (which_true (is_some (get r.runnable t)) (c.seen t) not is) in
      let absent_before : get q.runnable t ≡ None = none_here (get q.runnable t) (λ g at. uncounted (c.seen t) not (c.here t g at)) in
      record {
        place = f.0.v +ℤ r.shift;
        there = standing r.shift (get r.places t) (get r.runnable t) f.0 f.1;
        later = set_back c.mark (f.0.v +ℤ r.shift) b.request (charge_of w.turn least) (sum_seen cost c.seen b.others) (sum_seen cost now_seen b.others)
            (cost t) (sum_added cost c.seen now_seen t b.others more not is (listed t counts))
            (step.behind (c.mark -ℤ pos (reach w b least cost c.seen)) all_after t f.0 counts absent_before f.1);
      }

  seen_by : (t : ℕ) (s : Bool) → c.seen t ≡ s → w.counts t ≡ true → now_seen t ≡ true → IsThen (c.mark -ℤ pos (reach w b least cost now_seen)) (place_of r t)
  seen_by t true is counts now = seen_before t counts is
  seen_by t false is counts now = seen_first t counts is now

  runner_then : (x : ℕ) → w.counts x ≡ true → r.running ≡ Some x → RunnerIsNear w b cost ran r x
  runner_then x counts runs =
      let change : IsChange (watching w x) q r = step.runs x counts runs in
      let on : RunsOn x q r = change.runner x counts runs in
      let n : RunnerIsNear w b cost ran q x = c.runner x counts on.ran in
      let e = there (get q.runnable x) n.here in
      let s : Stays x q r e.0 = change.stays e.0 e.1 in
      record {
        here = some_is (get r.runnable x) s.entry s.here;
        near = near_by_change (watching w x) b cost (λ t does other. listed t does) ran q r (watched_of w x q n.here c.levels c.due) counts change
            (within_of w x b q within) step.behind n.near;
      }

  pub close_by_step : IsClose w b least cost ran r
  close_by_step = record {
    levels = step.levels c.levels;
    due = step.due c.due;
    doze = step.doze;
    mark = c.mark;
    seen = now_seen;
    here = λ t e here. first_true (is_some (get r.runnable t)) (c.seen t) (some_is (get r.runnable t) e here);
    past = step.puts c.mark c.past;
    near = λ t counts seen. seen_by t (c.seen t) refl counts seen;
    runner = runner_then;
  }
