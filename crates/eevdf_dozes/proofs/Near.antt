-- What keeps the task that stays near to all that were runnable since it was picked last.
use Rattle.std.proofs.Common.{◌≡◌, ℕ, ◌+◌, ◌*◌, ◌≤◌, ◌⊎◌, Bool, true, false, cond, List, [], ◌∷◌, Option, Some, None, refl, sym, ap, ◌∙◌, subst, inl, inr, arith}
use Rattle.std.specs.Prelude.{ℤ, pos, ◌+ℤ◌, ◌-ℤ◌, ◌≤ℤ◌, ◌==◌, is_some}
use Rattle.std.specs.{Option.option_map, FinMap.get}
use Rattle.std.proofs.{lemmas.Int.ints, lemmas.Bool.Decides.nat_tests}
use Rattle.eevdf_weight.specs.Weight.{weight_of}
use Rattle.eevdf_weight.proofs.Weighing.{weight_of-least}
use Rattle.eevdf_queue.specs.{declared.entry.Entry.Entry, State.State, Sums.Tasks, Laws.PickIsFirst, Laws.PickOfNobody, Pick.pick_of}
use Rattle.eevdf_dozes.specs.{Places.place_of, Gains.turn_charge}
use Rattle.eevdf_dozes.specs.Stretches.{Event, Picks, Ticks, Becomes, Watch, IsWatched, Stays, RunsOn, IsChange, picked, ticked, charged_for}
use Rattle.eevdf_dozes.specs.Bounds.{Bounds, IsWithin}
use Rattle.eevdf_dozes.specs.Ahead.{AreTheOthers, IsAheadByNoMore, setback}
use Rattle.eevdf_dozes.proofs.Optional.{one_place, one_entry, there, IsThen, is_then, standing}
use Rattle.eevdf_dozes.proofs.Ticking.{tick_moves, tick_running_stays, charged_runs, little_charged, no_charge}
use Rattle.eevdf_dozes.proofs.PicksInTime.{IsInTime, same_tasks, pick_stands, pick_shift, runner_in_time}
use Rattle.eevdf_dozes.proofs.Sleepers.{absent}
use Rattle.eevdf_dozes.proofs.Steps.{Goes, goes_by_tick, some_is}
use Rattle.eevdf_dozes.proofs.{Setbacks.sum_seen, Setbacks.AreSeenStill, Setbacks.sum_grows, Setbacks.sum_added, Changes.uncounted}
use Rattle.eevdf_fairness.proofs.Growing.{little_more}
use Rattle.eevdf_fairness.proofs.Turning.{little_charge}

-- all runnable tasks stand here or later
abbrev pub AllStandAfter : ℤ → State → Type 0
AllStandAfter limit q = (t : ℕ) (e : Entry) → get q.runnable t ≡ Some e → limit ≤ℤ (e.v +ℤ q.shift)

-- a task that counts and becomes runnable isn't far behind all that are so
abbrev pub PutsNoneFarBehind : Watch → (ℕ → ℕ) → State → State → Type 0
PutsNoneFarBehind w cost q r =
    (limit : ℤ) → AllStandAfter limit q → (t : ℕ) (e : Entry) → w.counts t ≡ true → get q.runnable t ≡ None → get r.runnable t ≡ Some e
    → limit ≤ℤ ((e.v +ℤ r.shift) +ℤ pos (cost t))

abbrev pub IsTame : Watch → Bounds → State → List Event → Type 0
IsTame w b q [] = IsWithin w b q
IsTame w b q (Picks ∷ events) = IsWithin w b q × IsTame w b (picked q) events
IsTame w b q (Ticks ns ∷ events) = IsWithin w b q × IsTame w b (ticked q ns) events
IsTame w b q (Becomes r ∷ events) = (IsWithin w b q × PutsNoneFarBehind w (setback w b) q r) × IsTame w b r events

-- how far the task that stays may be ahead of those that were seen since its last pick, where it was charged for so much in that turn
abbrev pub allowance : Watch → Bounds → (ℕ → ℕ) → ℕ → (ℕ → Bool) → ℕ
allowance w b cost by seen = b.request + by + sum_seen cost seen b.others

abbrev pub limit_of : Watch → Bounds → (ℕ → ℕ) → State → Entry → ℕ → (ℕ → Bool) → ℤ
limit_of w b cost q e by seen = (e.v +ℤ q.shift) -ℤ pos (allowance w b cost by seen)

pub record IsNear (w : Watch) (b : Bounds) (cost : ℕ → ℕ) (ran : ℕ) (q : State) : Type 0 where
  pub seen : ℕ → Bool
  pub by : ℕ
  pub here : (t : ℕ) (e : Entry) → get q.runnable t ≡ Some e → seen t ≡ true
  pub near : (e : Entry) → get q.runnable w.stays ≡ Some e → (t : ℕ) → w.counts t ≡ true → seen t ≡ true
      → IsThen (limit_of w b cost q e by seen) (place_of q t)
  pub little : by ≤ turn_charge w w.stays
  pub runs : q.running ≡ Some w.stays → by * weight_of (w.nice_of w.stays) ≤ 1024 * ran

-- ---- from a moment on at which that task is ahead by no more than a request
not_before : (v u shift : ℤ) (request more : ℕ) → v ≤ℤ (u +ℤ pos request) → ((v +ℤ shift) -ℤ pos (request + 0 + more)) ≤ℤ (u +ℤ shift)
not_before v u shift request more h = omega (arith, ints, h)

pub level_is_near : (w : Watch) (b : Bounds) (cost : ℕ → ℕ) (ran : ℕ) (q : State) → IsAheadByNoMore w q b.request → IsNear w b cost ran q
level_is_near w b cost ran q level = record {
  seen = λ t. is_some (get q.runnable t);
  by = 0;
  here = λ t e here. some_is (get q.runnable t) e here;
  near = λ e stays t counts seen.
      let f = there (get q.runnable t) seen in
      record {
        place = f.0.v +ℤ q.shift;
        there = standing q.shift (get q.places t) (get q.runnable t) f.0 f.1;
        later = not_before e.v f.0.v q.shift b.request (sum_seen cost (λ u. is_some (get q.runnable u)) b.others) (level e stays t f.0 f.1);
      };
  little = omega arith;
  runs = λ is. no_charge (weight_of (w.nice_of w.stays)) ran;
}

-- ---- a pick
by_deadline : (v d u : ℤ) (request : ℕ) → v ≤ℤ d → d ≤ℤ (u +ℤ pos request) → v ≤ℤ (u +ℤ pos request)
by_deadline v d u request h k = omega (arith, ints, h, k)

runs_or_not : (o : Option ℕ) (task : ℕ) → (o ≡ Some task) ⊎ (o ≡ Some task → ⊥)
runs_or_not None task = inr (λ is. cc)
runs_or_not (Some p) task =
    by (p == task) refl
  where
    by : (b : Bool) → (p == task) ≡ b → (Some p ≡ Some task) ⊎ (Some p ≡ Some task → ⊥)
    by true is = inl (ap (λ (n : ℕ). Some n) (grind (arith, nat_tests)))
    by false is = inr (λ same. let itself : p ≡ task = cc in grind (arith, nat_tests))

module _ (first : PickIsFirst) (nobody : PickOfNobody) (w : Watch) (b : Bounds) (cost : ℕ → ℕ) where
  picked_tasks : (q : State) (t : ℕ) (e : Entry) → get (picked q).runnable t ≡ Some e → get q.runnable t ≡ Some e
  picked_tasks q t e here = ap (λ (m : Tasks). get m t) (sym (same_tasks q (pick_of q.runnable))) ∙ here

  pub level_by_pick : (q : State) → IsWatched w q → IsWithin w b q → (picked q).running ≡ Some w.stays → IsAheadByNoMore w (picked q) b.request
  level_by_pick q watched within runs e stays t f here =
      let p : IsInTime q.runnable w.stays f.d = runner_in_time first nobody q t w.stays f watched.due (picked_tasks q t f here) runs in
      let same : p.entry ≡ e = one_entry p.entry e (get q.runnable w.stays) p.here (picked_tasks q w.stays e stays) in
      by_deadline e.v f.d f.v b.request (subst (λ (x : Entry). x.v ≤ℤ f.d) same p.timely) (within.requests t f (picked_tasks q t f here))

  others_by_pick : (ran : ℕ) (q : State) → IsNear w b cost ran q → ((picked q).running ≡ Some w.stays → ⊥) → IsNear w b cost 0 (picked q)
  others_by_pick ran q n not = record {
    seen = n.seen;
    by = n.by;
    here = λ t e here. n.here t e (picked_tasks q t e here);
    near = λ e stays t counts seen.
        let a : IsThen (limit_of w b cost q e n.by n.seen) (place_of q t) = n.near e (picked_tasks q w.stays e stays) t counts seen in
        record {
          place = a.place;
          there = pick_stands q t ∙ a.there;
          later = subst (λ (z : ℤ). ((e.v +ℤ z) -ℤ pos (allowance w b cost n.by n.seen)) ≤ℤ a.place) (sym (pick_shift q)) a.later;
        };
    little = n.little;
    runs = λ is. absurd (not is);
  }

  pub near_by_pick : (ran : ℕ) (q : State) → IsWatched w q → IsWithin w b q → IsNear w b cost ran q → IsNear w b cost 0 (picked q)
  near_by_pick ran q watched within n = by (runs_or_not (picked q).running w.stays)
    where
      by : ((picked q).running ≡ Some w.stays) ⊎ ((picked q).running ≡ Some w.stays → ⊥) → IsNear w b cost 0 (picked q)
      by (inl runs) = level_is_near w b cost 0 (picked q) (level_by_pick q watched within runs)
      by (inr not) = others_by_pick ran q n not

-- ---- a tick
pub moved : (place : ℤ) (o now : Option ℤ) (x : ℕ) → now ≡ option_map (λ (z : ℤ). z +ℤ pos x) o → o ≡ Some place → now ≡ Some (place +ℤ pos x)
moved place o now x is at = is ∙ ap (option_map (λ (z : ℤ). z +ℤ pos x)) at

charged_more : (v now place : ℤ) (request by x more y : ℕ) → now ≡ v +ℤ pos x → (v -ℤ pos (request + by + more)) ≤ℤ place
    → (now -ℤ pos (request + (by + x) + more)) ≤ℤ (place +ℤ pos y)
charged_more v now place request by x more y h k = omega (arith, ints, h, k)

no_more : (by x turn : ℕ) → x ≡ 0 → by ≤ turn → by + x ≤ turn
no_more by x turn h k = omega (arith, h, k)

pub still_here : (q : State) (t ns : ℕ) (f : Entry) (o : Option Entry) → get q.runnable t ≡ o → get (ticked q ns).runnable t ≡ Some f
    → (e : Entry) × (get q.runnable t ≡ Some e)
still_here q t ns f None is here = let none : get (ticked q ns).runnable t ≡ None = absent q t ns is in cc
still_here q t ns f (Some e) is here = (e, is)

module _ (w : Watch) (b : Bounds) (cost : ℕ → ℕ) (counted : w.counts w.stays ≡ true) (ran ns : ℕ) (q : State) (watched : IsWatched w q) (short : ran + ns ≤ w.turn)
    (n : IsNear w b cost ran q) where
  abbrev x : ℕ
  x = charged_for w.stays q ns

  stay : (e : Entry) × (get q.runnable w.stays ≡ Some e)
  stay = there (get q.runnable w.stays) watched.here

  grown : q.running ≡ Some w.stays → (n.by + x) * weight_of (w.nice_of w.stays) ≤ 1024 * (ran + ns)
  grown is = little_more n.by x (weight_of (w.nice_of w.stays)) ran ns (n.runs is) (little_charged w q w.stays ns watched.levels counted)

  fits : (x ≡ 0) ⊎ (q.running ≡ Some w.stays) → n.by + x ≤ turn_charge w w.stays
  fits (inl none) = no_more n.by x (turn_charge w w.stays) none n.little
  fits (inr is) =
      little_charge (n.by + x) (weight_of (w.nice_of w.stays)) (ran + ns) w.turn (weight_of-least (w.nice_of w.stays)) (grown is) short

  pub near_by_tick : IsNear w b cost (ran + ns) (ticked q ns)
  near_by_tick = record {
    seen = n.seen;
    by = n.by + x;
    here = λ t f here. let e = still_here q t ns f (get q.runnable t) refl here in n.here t e.0 e.1;
    near = λ e stays t counts seen.
        let a : IsThen (limit_of w b cost q stay.0 n.by n.seen) (place_of q t) = n.near stay.0 stay.1 t counts seen in
        let g : Goes w.stays q (ticked q ns) stay.0 x = goes_by_tick w.stays q ns stay.0 stay.1 in
        let same : g.entry ≡ e = one_entry g.entry e (get (ticked q ns).runnable w.stays) g.here stays in
        record {
          place = a.place +ℤ pos (charged_for t q ns);
          there = moved a.place (place_of q t) (place_of (ticked q ns) t) (charged_for t q ns) (tick_moves q t ns) a.there;
          later = charged_more (stay.0.v +ℤ q.shift) (e.v +ℤ (ticked q ns).shift) a.place b.request n.by x
              (sum_seen cost n.seen b.others) (charged_for t q ns)
              (subst (λ (y : Entry). y.v +ℤ (ticked q ns).shift ≡ (stay.0.v +ℤ q.shift) +ℤ pos x) same g.place) a.later;
        };
    little = fits (charged_runs q w.stays ns);
    runs = λ is. grown (sym (tick_running_stays q ns) ∙ is);
  }

-- ---- anything else
pub none_here : (o : Option Entry) → ((e : Entry) → o ≡ Some e → ⊥) → o ≡ None
none_here None h = refl
none_here (Some e) h = absurd (h e refl)

pub or_true : (a b : Bool) → b ≡ true → cond a true b ≡ true
or_true true b is = refl
or_true false b is = is

pub first_true : (a b : Bool) → a ≡ true → cond a true b ≡ true
first_true true b is = refl
first_true false b is = cc

pub which_true : (a b : Bool) → b ≡ false → cond a true b ≡ true → a ≡ true
which_true true b not is = refl
which_true false b not is = cc

lower : (v now place later : ℤ) (request by more most : ℕ) → now ≡ v → more ≤ most → (v -ℤ pos (request + by + more)) ≤ℤ place → place ≤ℤ later
    → (now -ℤ pos (request + by + most)) ≤ℤ later
lower v now place later request by more most h k l m = omega (arith, ints, h, k, l, m)

set_back : (v now place : ℤ) (request by more most set : ℕ) → now ≡ v → more + set ≤ most → (v -ℤ pos (request + by + more)) ≤ℤ (place +ℤ pos set)
    → (now -ℤ pos (request + by + most)) ≤ℤ place
set_back v now place request by more most set h k l = omega (arith, ints, h, k, l)

module _ (w : Watch) (b : Bounds) (cost : ℕ → ℕ) (others : AreTheOthers w b.others) (ran : ℕ) (q r : State) (watched : IsWatched w q) (counted : w.counts w.stays ≡ true)
    (change : IsChange w q r) (within : IsWithin w b q) (put : PutsNoneFarBehind w cost q r) (n : IsNear w b cost ran q) where
  abbrev now_seen : ℕ → Bool
  now_seen t = cond (is_some (get r.runnable t)) true (n.seen t)

  more : AreSeenStill n.seen now_seen
  more t is = or_true (is_some (get r.runnable t)) (n.seen t) is

  module _ (x e : Entry) (here : get q.runnable w.stays ≡ Some x) (same_place : e.v +ℤ r.shift ≡ x.v +ℤ q.shift) (t : ℕ) (counts : w.counts t ≡ true) where
    seen_before : n.seen t ≡ true → IsThen (limit_of w b cost r e n.by now_seen) (place_of r t)
    seen_before is =
        let a : IsThen (limit_of w b cost q x n.by n.seen) (place_of q t) = n.near x here t counts is in
        let c : IsThen a.place (place_of r t) = is_then a.place (place_of q t) (place_of r t) (change.places t counts) a.there in
        record {
          place = c.place;
          there = c.there;
          later = lower (x.v +ℤ q.shift) (e.v +ℤ r.shift) a.place c.place b.request n.by (sum_seen cost n.seen b.others)
              (sum_seen cost now_seen b.others) same_place (sum_grows cost n.seen now_seen b.others more) a.later c.later;
        }

    all_after : AllStandAfter (limit_of w b cost q x n.by n.seen) q
    all_after u g there =
        let a : IsThen (limit_of w b cost q x n.by n.seen) (place_of q u) = n.near x here u (within.count u g there) (n.here u g there) in
        subst (λ (z : ℤ). limit_of w b cost q x n.by n.seen ≤ℤ z)
        (one_place a.place (g.v +ℤ q.shift) (place_of q u) a.there (standing q.shift (get q.places u) (get q.runnable u) g there)) a.later

    seen_now : n.seen t ≡ false → now_seen t ≡ true → IsThen (limit_of w b cost r e n.by now_seen) (place_of r t)
    seen_now not is =
        let f = there (get r.runnable t) (which_true (is_some (get r.runnable t)) (n.seen t) not is) in
        let absent_before : get q.runnable t ≡ None = none_here (get q.runnable t) (λ g at. uncounted (n.seen t) not (n.here t g at)) in
        let other : t ≡ w.stays → ⊥ = λ same. uncounted (n.seen t) not (subst (λ (u : ℕ). n.seen u ≡ true) (sym same) (n.here w.stays x here)) in
        record {
          place = f.0.v +ℤ r.shift;
          there = standing r.shift (get r.places t) (get r.runnable t) f.0 f.1;
          later = set_back (x.v +ℤ q.shift) (e.v +ℤ r.shift) (f.0.v +ℤ r.shift) b.request n.by (sum_seen cost n.seen b.others)
              (sum_seen cost now_seen b.others) (cost t) same_place
              (sum_added cost n.seen now_seen t b.others more not is (others t counts other))
              (put (limit_of w b cost q x n.by n.seen) all_after t f.0 counts absent_before f.1);
        }

    seen_by : (s : Bool) → n.seen t ≡ s → now_seen t ≡ true → IsThen (limit_of w b cost r e n.by now_seen) (place_of r t)
    seen_by true is now = seen_before is
    seen_by false is now = seen_now is now

  stay_then : (e : Entry) → get r.runnable w.stays ≡ Some e → (x : Entry) × ((get q.runnable w.stays ≡ Some x) × (e.v +ℤ r.shift ≡ x.v +ℤ q.shift))
  stay_then e here =
      let x = there (get q.runnable w.stays) watched.here in
      let s : Stays w.stays q r x.0 = change.stays x.0 x.1 in
      let same : s.entry ≡ e = one_entry s.entry e (get r.runnable w.stays) s.here here in
      (x.0, (x.1, subst (λ (y : Entry). y.v +ℤ r.shift ≡ x.0.v +ℤ q.shift) same s.place))

  pub near_by_change : IsNear w b cost ran r
  near_by_change = record {
    seen = now_seen;
    by = n.by;
    here = λ t e here. first_true (is_some (get r.runnable t)) (n.seen t) (some_is (get r.runnable t) e here);
    near = λ e stays t counts seen.
        let x = stay_then e stays in
        seen_by x.0 e x.1.0 x.1.1 t counts (n.seen t) refl seen;
    little = n.little;
    runs = λ is.
        let on : RunsOn w.stays q r = change.runner w.stays counted is in
        n.runs on.ran;
  }
