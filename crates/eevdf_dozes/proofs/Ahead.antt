-- At any moment of a history the task that stays isn't far ahead of those that are runnable, and so nobody gains over any later stretch.
use Rattle.std.proofs.Common.{◌≡◌, ℕ, ◌+◌, ◌≤◌, ◌++◌, Bool, true, false, cond, List, [], ◌∷◌, Option, Some, None, refl, sym, ap, ◌∙◌, subst, inl, inr, arith}
use Rattle.std.specs.Prelude.{ℤ, pos, ◌+ℤ◌, ◌-ℤ◌, ◌≤ℤ◌, ◌==◌}
use Rattle.std.specs.FinMap.{get}
use Rattle.std.proofs.lemmas.Int.{ints}
use Rattle.eevdf_queue.specs.{declared.entry.Entry.Entry, declared.answers.TickAnswer.TickAnswer, State.State, Sums.Tasks, Laws.PickIsFirst, Laws.PickOfNobody, Moves.request_of, Pick.pick_of, Tick.tick}
use Rattle.eevdf_queue.specs.declared.answers.TickAnswer.TheVariants.{Charged, Idle, Range}
use Rattle.eevdf_fairness.specs.Tallies.{if_charged_to}
use Rattle.eevdf_fairness.specs.Healing.{HasNotYielded}
use Rattle.eevdf_dozes.specs.{Places.place_of, Gains.turn_charge, Gains.ComesNoFurther}
use Rattle.eevdf_dozes.specs.Stretches.{Event, Picks, Ticks, Becomes, Watch, IsChange, IsStretch, picked, ticked, after_events, charge_by, charges, charged_for}
use Rattle.eevdf_dozes.specs.Histories.{Call, after_calls, events_of}
use Rattle.eevdf_dozes.specs.Bounds.{Bounds, IsWithin}
use Rattle.eevdf_dozes.specs.Ahead.{AreTheOthers, IsAheadByNoMore, setback, sum_setbacks, most_ahead, BeginsLevel, NobodyIsEverFarAhead, NobodyEverGains, FreshStartIsAheadOfNobody}
use Rattle.eevdf_dozes.proofs.Optional.{one_place, one_entry, there, IsThen, standing}
use Rattle.eevdf_dozes.proofs.PicksInTime.{same_tasks}
use Rattle.eevdf_dozes.proofs.Steps.{Goes, goes_by_pick, goes_by_tick, goes_by_change, IsCarried, pick_watched, pick_carries, tick_carries, change_carries}
use Rattle.eevdf_dozes.proofs.{Gains.goes, Gains.comes, Setbacks.sum_seen, Setbacks.seen_of_all, Sleepers.pick_dozes, Histories.calls_begin_with_pick}
use Rattle.eevdf_dozes.proofs.Near.{IsNear, IsTame, PutsNoneFarBehind, limit_of, level_is_near, near_by_pick, near_by_tick, near_by_change}
use Rattle.eevdf_dozes.proofs.Tame.{are_tame, events_appended, after_same}

-- what is carried along a history
record IsAlong (w : Watch) (b : Bounds) (ran : ℕ) (q : State) : Type 0 where
  carried : IsCarried w ran q
  near : IsNear w b (setback w b) ran q

-- how a moment of a history is come to, with what follows
record ComesTo (w : Watch) (b : Bounds) (q : State) (events : List Event) : Type 0 where
  ran : ℕ
  along : IsAlong w b ran q
  stretch : IsStretch w ran q events
  tame : IsTame w b q events

now_within : (w : Watch) (b : Bounds) (q : State) (events : List Event) → IsTame w b q events → IsWithin w b q
now_within w b q [] tame = tame
now_within w b q (Picks ∷ events) tame = tame.0
now_within w b q (Ticks ns ∷ events) tame = tame.0
now_within w b q (Becomes r ∷ events) tame = tame.0.0

-- ---- ahead by no more
no_more_than : (v u shift : ℤ) (request by turn seen all : ℕ) → by ≤ turn → seen ≤ all → ((v +ℤ shift) -ℤ pos (request + by + seen)) ≤ℤ (u +ℤ shift)
    → v ≤ℤ (u +ℤ pos (request + turn + all))
no_more_than v u shift request by turn seen all h k l = omega (arith, ints, h, k, l)

near_is_ahead : (w : Watch) (b : Bounds) (ran : ℕ) (q : State) → IsWithin w b q → IsNear w b (setback w b) ran q → IsAheadByNoMore w q (most_ahead w b)
near_is_ahead w b ran q within n e stays t f here =
    let a : IsThen (limit_of w b (setback w b) q e n.by n.seen) (place_of q t) = n.near e stays t (within.count t f here) (n.here t f here) in
    let same : a.place ≡ f.v +ℤ q.shift =
    one_place a.place (f.v +ℤ q.shift) (place_of q t) a.there (standing q.shift (get q.places t) (get q.runnable t) f here) in
    no_more_than e.v f.v q.shift b.request n.by (turn_charge w w.stays) (sum_seen (setback w b) n.seen b.others) (sum_setbacks w b b.others) n.little
    (seen_of_all w b n.seen b.others) (subst (λ (z : ℤ). limit_of w b (setback w b) q e n.by n.seen ≤ℤ z) same a.later)

-- ---- along a history
module _ (first : PickIsFirst) (nobody : PickOfNobody) (w : Watch) (b : Bounds) (others : AreTheOthers w b.others) (counted : w.counts w.stays ≡ true) where
  by_pick : (ran : ℕ) (q : State) → IsWithin w b q → IsAlong w b ran q → IsAlong w b 0 (picked q)
  by_pick ran q within a = record {
    carried = pick_carries first nobody w q a.carried.watched;
    near = near_by_pick first nobody w b (setback w b) ran q a.carried.watched within a.near;
  }

  by_tick : (ran ns : ℕ) (q : State) → ran + ns ≤ w.turn → IsAlong w b ran q → IsAlong w b (ran + ns) (ticked q ns)
  by_tick ran ns q short a = record {
    carried = tick_carries w ran ns q a.carried;
    near = near_by_tick w b (setback w b) counted ran ns q a.carried.watched short a.near;
  }

  by_change : (ran : ℕ) (q r : State) → IsChange w q r → IsWithin w b q → PutsNoneFarBehind w (setback w b) q r → IsAlong w b ran q → IsAlong w b ran r
  by_change ran q r change within put a = record {
    carried = change_carries w ran q r change a.carried;
    near = near_by_change w b (setback w b) others ran q r a.carried.watched counted change within put a.near;
  }

  comes_to : (ran : ℕ) (q : State) (before events : List Event) → IsAlong w b ran q → IsStretch w ran q (before ++ events)
      → IsTame w b q (before ++ events) → ComesTo w b (after_events q before) events
  comes_to ran q [] events a h tame = record { ran = ran; along = a; stretch = h; tame = tame }
  comes_to ran q (Picks ∷ before) events a h tame = comes_to 0 (picked q) before events (by_pick ran q tame.0 a) h tame.1
  comes_to ran q (Ticks ns ∷ before) events a h tame = comes_to (ran + ns) (ticked q ns) before events (by_tick ran ns q h.0 a) h.1 tame.1
  comes_to ran q (Becomes r ∷ before) events a h tame =
      comes_to ran r before events (by_change ran q r h.0 tame.0.0 tame.0.1 a) h.1 tame.1

-- ---- what a task is charged for from then on
either : (b : Bool) → cond {A = ℕ} b 0 0 ≡ 0
either true = refl
either false = refl

uncharged_by : (t : ℕ) (answer : TickAnswer) (ns : ℕ) (o : Option Entry) → o ≡ None → if_charged_to t answer (charge_by o ns) ≡ 0
uncharged_by t answer ns (Some e) is = cc
uncharged_by t answer ns None is = nothing answer
  where
    nothing : (a : TickAnswer) → if_charged_to t a 0 ≡ 0
    nothing (Charged task resched) = either (task == t)
    nothing Idle = refl
    nothing Range = refl

ahead_then : (v u shift limit : ℤ) (x most turn : ℕ) → v ≤ℤ (u +ℤ pos most) → ComesNoFurther (u +ℤ shift) x (limit +ℤ pos turn)
    → ComesNoFurther (v +ℤ shift) x (limit +ℤ pos (turn + most))
ahead_then v u shift limit x most turn h (inl none) = inl none
ahead_then v u shift limit x most turn h (inr some) = inr (omega (arith, ints, h, some))

not_charged : (v now limit : ℤ) (x y more : ℕ) → x ≡ 0 → now ≡ v +ℤ pos more → ComesNoFurther now y limit → ComesNoFurther v (x + y) limit
not_charged v now limit x y more h k (inl none) = inl (omega (arith, h, none))
not_charged v now limit x y more h k (inr some) = inr (omega (arith, ints, h, k, some))

no_charge : (v now limit : ℤ) (y : ℕ) → now ≡ v +ℤ pos 0 → ComesNoFurther now y limit → ComesNoFurther v y limit
no_charge v now limit y k (inl none) = inl none
no_charge v now limit y k (inr some) = inr (omega (arith, ints, k, some))

module _ (first : PickIsFirst) (nobody : PickOfNobody) (w : Watch) (b : Bounds) (others : AreTheOthers w b.others) (counted : w.counts w.stays ≡ true)
    (f : Entry) (t : ℕ) (counts : w.counts t ≡ true) where
  abbrev limit_in : State → ℤ
  limit_in r = (f.d +ℤ r.shift) +ℤ pos (turn_charge w t + most_ahead w b)

  gains_here : (ran : ℕ) (q : State) (events : List Event) (e x : Entry) → IsAlong w b ran q → IsStretch w ran q events → IsTame w b q events
      → get q.runnable w.stays ≡ Some e → get q.runnable t ≡ Some x → get (after_events q events).runnable w.stays ≡ Some f
      → ComesNoFurther (e.v +ℤ q.shift) (charges t q events) (limit_in (after_events q events))
  gains_here ran q events e x a h tame stays here then =
      ahead_then e.v x.v q.shift (f.d +ℤ (after_events q events).shift) (charges t q events) (most_ahead w b) (turn_charge w t)
      (near_is_ahead w b ran q (now_within w b q events tame) a.near e stays t x here)
      (comes first nobody w f t counts ran q events (x.v +ℤ q.shift) a.carried h then (standing q.shift (get q.places t) (get q.runnable t) x here))

  gains_by : (ran : ℕ) (q : State) (events : List Event) (e : Entry) (o : Option Entry) → IsAlong w b ran q → IsStretch w ran q events → IsTame w b q events
      → get q.runnable w.stays ≡ Some e → get q.runnable t ≡ o → get (after_events q events).runnable w.stays ≡ Some f
      → ComesNoFurther (e.v +ℤ q.shift) (charges t q events) (limit_in (after_events q events))
  gains_by ran q events e (Some x) a h tame stays here then = gains_here ran q events e x a h tame stays here then
  gains_by ran q [] e None a h tame stays here then = inl refl
  gains_by ran q (Picks ∷ events) e None a h tame stays here then =
      let g : Goes w.stays q (picked q) e 0 = goes_by_pick w.stays q e stays in
      no_charge (e.v +ℤ q.shift) (g.entry.v +ℤ (picked q).shift) (limit_in (after_events (picked q) events)) (charges t (picked q) events) g.place
      (gains_by 0 (picked q) events g.entry (get (picked q).runnable t) (by_pick first nobody w b others counted ran q tame.0 a) h tame.1 g.here refl then)
  gains_by ran q (Ticks ns ∷ events) e None a h tame stays here then =
      let r : State = ticked q ns in
      let g : Goes w.stays q r e (charged_for w.stays q ns) = goes_by_tick w.stays q ns e stays in
      not_charged (e.v +ℤ q.shift) (g.entry.v +ℤ r.shift) (limit_in (after_events r events)) (charged_for t q ns) (charges t r events)
      (charged_for w.stays q ns) (uncharged_by t (tick q ns).0 ns (get q.runnable t) here) g.place
      (gains_by (ran + ns) r events g.entry (get r.runnable t) (by_tick first nobody w b others counted ran ns q h.0 a) h.1 tame.1 g.here refl then)
  gains_by ran q (Becomes r ∷ events) e None a h tame stays here then =
      let g : Goes w.stays q r e 0 = goes_by_change w q r e h.0 stays in
      no_charge (e.v +ℤ q.shift) (g.entry.v +ℤ r.shift) (limit_in (after_events r events)) (charges t r events) g.place
      (gains_by ran r events g.entry (get r.runnable t) (by_change first nobody w b others counted ran q r h.0 tame.0.0 tame.0.1 a) h.1 tame.1 g.here refl then)

-- ---- from the first pick on
picked_ahead : (w : Watch) (q : State) (most : ℕ) → IsAheadByNoMore w q most → IsAheadByNoMore w (picked q) most
picked_ahead w q most h e stays t f here =
    let same : (picked q).runnable ≡ q.runnable = same_tasks q (pick_of q.runnable) in
    h e (ap (λ (m : Tasks). get m w.stays) (sym same) ∙ stays) t f (ap (λ (m : Tasks). get m t) (sym same) ∙ here)

module _ (first : PickIsFirst) (nobody : PickOfNobody) (w : Watch) (b : Bounds) (q : State) (before calls : List Call)
    (begins : BeginsLevel w b q (before ++ calls)) where
  at_first : IsAlong w b 0 (picked q)
  at_first = record {
    carried = pick_carries first nobody w q begins.watched;
    near = level_is_near w b (setback w b) 0 (picked q) (picked_ahead w q b.request begins.level);
  }

  appended : events_of (picked q) (before ++ calls) ≡ events_of (picked q) before ++ events_of (after_calls (picked q) before) calls
  appended = events_appended (picked q) before calls

  then_comes_to : ComesTo w b (after_calls (picked q) before) (events_of (after_calls (picked q) before) calls)
  then_comes_to =
      let later : List Event = events_of (after_calls (picked q) before) calls in
      subst (λ (r : State). ComesTo w b r later) (after_same (picked q) before)
      (comes_to first nobody w b begins.others begins.counts 0 (picked q) (events_of (picked q) before) later at_first
      (subst (IsStretch w 0 (picked q)) appended
      (calls_begin_with_pick first w q (before ++ calls) begins.watched begins.doze begins.allowed).begins.stretch)
      (subst (IsTame w b (picked q)) appended
      (are_tame first w b begins.counts 0 (picked q) (before ++ calls)
      (record { watched = pick_watched w q begins.watched; doze = pick_dozes first w q begins.doze }) begins.allowed begins.within)))

-- ---- the laws
none_appended : (calls : List Call) → calls ++ [] ≡ calls
none_appended [] = refl
none_appended (call ∷ calls) = ap (λ (cs : List Call). call ∷ cs) (none_appended calls)

pub nobody_is_ever_far_ahead : PickIsFirst → PickOfNobody → NobodyIsEverFarAhead
nobody_is_ever_far_ahead first nobody w b q calls begins =
    let all : BeginsLevel w b q (calls ++ []) = subst (BeginsLevel w b q) (sym (none_appended calls)) begins in
    let r : State = after_calls (picked q) calls in
    let c : ComesTo w b r [] = then_comes_to first nobody w b q calls [] all in
    near_is_ahead w b c.ran r c.tame c.along.near

charged_by_then : (at_first v d shift : ℤ) (x y request turn most : ℕ) → ComesNoFurther at_first x ((d +ℤ shift) +ℤ pos (turn + most))
    → d ≤ℤ (v +ℤ pos request) → v +ℤ shift ≡ at_first +ℤ pos y → x ≤ y + request + turn + most
charged_by_then at_first v d shift x y request turn most (inl none) h k = omega (arith, none)
charged_by_then at_first v d shift x y request turn most (inr some) h k = omega (arith, ints, some, h, k)

gains_since : PickIsFirst → PickOfNobody → (w : Watch) (b : Bounds) (r : State) (events : List Event) (f : Entry) → AreTheOthers w b.others
    → w.counts w.stays ≡ true → ComesTo w b r events → get (after_events r events).runnable w.stays ≡ Some f → HasNotYielded f
    → (t : ℕ) → w.counts t ≡ true
    → charges t r events ≤ charges w.stays r events + request_of f.nice f.slice + turn_charge w t + most_ahead w b
gains_since first nobody w b r events f others counted c then short t counts =
    let stay = there (get r.runnable w.stays) c.along.carried.watched.here in
    let g : Goes w.stays r (after_events r events) stay.0 (charges w.stays r events) = goes w c.ran r events stay.0 c.stretch stay.1 in
    let same : g.entry ≡ f = one_entry g.entry f (get (after_events r events).runnable w.stays) g.here then in
    charged_by_then (stay.0.v +ℤ r.shift) f.v f.d (after_events r events).shift (charges t r events) (charges w.stays r events)
    (request_of f.nice f.slice) (turn_charge w t) (most_ahead w b)
    (gains_by first nobody w b others counted f t counts c.ran r events stay.0 (get r.runnable t) c.along c.stretch c.tame stay.1 refl then) short
    (subst (λ (x : Entry). x.v +ℤ (after_events r events).shift ≡ (stay.0.v +ℤ r.shift) +ℤ pos (charges w.stays r events)) same g.place)

pub nobody_ever_gains : PickIsFirst → PickOfNobody → NobodyEverGains
nobody_ever_gains first nobody w b q r before calls f begins is then short t counts =
    gains_since first nobody w b r (events_of r calls) f begins.others begins.counts
    (subst (λ (s : State). ComesTo w b s (events_of s calls)) is (then_comes_to first nobody w b q before calls begins))
    (ap (λ (s : State). get s.runnable w.stays) (after_same r calls) ∙ then) short t counts

-- ---- a fresh start
not_behind : (v u w : ℤ) → v ≡ w → u ≡ w → v ≤ℤ (u +ℤ pos 0)
not_behind v u w h k = omega (arith, ints, h, k)

pub fresh_start_is_ahead_of_nobody : FreshStartIsAheadOfNobody
fresh_start_is_ahead_of_nobody w q v fresh e stays t f here =
    not_behind e.v f.v v (ap (λ (x : Entry). x.v) (fresh w.stays e stays)) (ap (λ (x : Entry). x.v) (fresh t f here))
