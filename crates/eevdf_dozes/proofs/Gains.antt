-- Along a stretch no task that counts comes further than a turn past the deadline of the one that stays, and so none gains.
use Rattle.std.proofs.Common.{◌≡◌, ℕ, suc, ◌+◌, ◌*◌, ◌≤◌, ◌⊎◌, true, List, [], ◌∷◌, length, Some, refl, sym, ap, ◌∙◌, subst, inl, inr, arith}
use Rattle.std.specs.Prelude.{ℤ, pos, ◌+ℤ◌, ◌≤ℤ◌}
use Rattle.std.specs.{Option.option_map, FinMap.get}
use Rattle.std.proofs.{lemmas.Int.ints, Math.Nat.mul-le-mul_left}
use Rattle.eevdf_weight.specs.{Weight.weight_of}
use Rattle.eevdf_weight.proofs.Weighing.{weight_of-least}
use Rattle.eevdf_queue.specs.{declared.entry.Entry.Entry, State.State, Laws.PickIsFirst, Laws.PickOfNobody, Moves.request_of, Moves.fresh_entry}
use Rattle.eevdf_fairness.proofs.Growing.{rounded_down}
use Rattle.eevdf_dozes.specs.Places.{place_of}
use Rattle.eevdf_dozes.specs.Stretches.{Event, Picks, Ticks, Becomes, Watch, IsStretch, BeginsWithPick, picked, ticked, after_events, charges, charged_for}
use Rattle.eevdf_dozes.specs.Gains.{turn_charge, StaysWith, ComesNoFurther, NoneRunsFarPast, NobodyGains, IsLevel, sum_weights, sum_charges, TogetherNobodyGains, FreshStartIsLevel}
use Rattle.eevdf_dozes.proofs.Optional.{one_entry, there, IsThen, is_then, standing}
use Rattle.eevdf_dozes.proofs.Ticking.{tick_moves, tick_running_stays, charged_runs}
use Rattle.eevdf_dozes.proofs.PicksInTime.{pick_stands}
use Rattle.eevdf_dozes.proofs.Steps.{Goes, stands, goes_then, goes_by_pick, goes_by_tick, goes_by_change, IsLittlePast, IsCarried, pick_carries, tick_carries, change_carries}
use Rattle.eevdf_fairness.proofs.Turning.{little_charge}

-- ---- the task that stays, along a stretch
goes_on : (j : ℕ) (p q r : State) (e : Entry) (x : ℕ) (g : Goes j p q e 0) → Goes j q r g.entry x → Goes j p r e x
goes_on j p q r e x g h =
    let same : 0 + x ≡ x = omega arith in
    subst (λ (n : ℕ). Goes j p r e n) same (goes_then j p q r e 0 x g h)

pub goes : (w : Watch) (ran : ℕ) (q : State) (events : List Event) (e : Entry) → IsStretch w ran q events → get q.runnable w.stays ≡ Some e
    → Goes w.stays q (after_events q events) e (charges w.stays q events)
goes w ran q [] e h here = stands w.stays q q e refl here
goes w ran q (Picks ∷ events) e h here =
    let g : Goes w.stays q (picked q) e 0 = goes_by_pick w.stays q e here in
    goes_on w.stays q (picked q) (after_events (picked q) events) e (charges w.stays (picked q) events) g
    (goes w 0 (picked q) events g.entry h g.here)
goes w ran q (Ticks ns ∷ events) e h here =
    let g : Goes w.stays q (ticked q ns) e (charged_for w.stays q ns) = goes_by_tick w.stays q ns e here in
    goes_then w.stays q (ticked q ns) (after_events (ticked q ns) events) e (charged_for w.stays q ns) (charges w.stays (ticked q ns) events) g
    (goes w (ran + ns) (ticked q ns) events g.entry h.1 g.here)
goes w ran q (Becomes r ∷ events) e h here =
    let g : Goes w.stays q r e 0 = goes_by_change w q r e h.0 here in
    goes_on w.stays q r (after_events r events) e (charges w.stays r events) g (goes w ran r events g.entry h.1 g.here)

-- ---- who counts, along a stretch
-- the limit that a task comes to
abbrev limit_in : Watch → State → Entry → ℕ → ℤ
limit_in w r f t = (f.d +ℤ r.shift) +ℤ pos (turn_charge w t)

within : (place due later : ℤ) (by most : ℕ) → place ≤ℤ (due +ℤ pos by) → by ≤ most → due ≤ℤ later → place ≤ℤ (later +ℤ pos most)
within place due later by most h k l = omega (arith, ints, h, k, l)

-- after a tick, a task that counts and runs is within the limit
within_limit : (w : Watch) (ran : ℕ) (q : State) (events : List Event) (f : Entry) (t : ℕ) (place : ℤ) → ran ≤ w.turn → IsCarried w ran q
    → IsStretch w ran q events → get (after_events q events).runnable w.stays ≡ Some f → w.counts t ≡ true → q.running ≡ Some t
    → place_of q t ≡ Some place → place ≤ℤ limit_in w (after_events q events) f t
within_limit w ran q events f t place short c h then counts runs at =
    let stay = there (get q.runnable w.stays) c.watched.here in
    let g : Goes w.stays q (after_events q events) stay.0 (charges w.stays q events) = goes w ran q events stay.0 h stay.1 in
    let same : g.entry ≡ f = one_entry g.entry f (get (after_events q events).runnable w.stays) g.here then in
    let p : IsLittlePast w ran t (stay.0.d +ℤ q.shift) place = c.runner t place stay.0 counts runs at stay.1 in
    within place (stay.0.d +ℤ q.shift) (f.d +ℤ (after_events q events).shift) p.by (turn_charge w t) p.past
    (little_charge p.by (weight_of (w.nice_of t)) ran w.turn (weight_of-least (w.nice_of t)) p.little short)
    (subst (λ (y : Entry). (stay.0.d +ℤ q.shift) ≤ℤ (y.d +ℤ (after_events q events).shift)) same g.later)

-- a task that was charged for `x` and then comes no further than a limit
charged_before : (place limit : ℤ) (x y : ℕ) → (x ≡ 0) ⊎ ((place +ℤ pos x) ≤ℤ limit) → ComesNoFurther (place +ℤ pos x) y limit
    → ComesNoFurther place (x + y) limit
charged_before place limit x y (inl none) (inl nothing) = inl (omega (arith, none, nothing))
charged_before place limit x y (inr some) (inl nothing) = inr (omega (arith, ints, some, nothing))
charged_before place limit x y first (inr more) = inr (omega (arith, ints, more))

moved_before : (before place limit : ℤ) (x : ℕ) → before ≤ℤ place → ComesNoFurther place x limit → ComesNoFurther before x limit
moved_before before place limit x h (inl none) = inl none
moved_before before place limit x h (inr some) = inr (omega (arith, ints, h, some))

ran_or_not : (runs : Type 0) (x : ℕ) (place limit : ℤ) → (x ≡ 0) ⊎ runs → (runs → (place +ℤ pos x) ≤ℤ limit) → (x ≡ 0) ⊎ ((place +ℤ pos x) ≤ℤ limit)
ran_or_not runs x place limit (inl none) h = inl none
ran_or_not runs x place limit (inr is) h = inr (h is)

module _ (first : PickIsFirst) (nobody : PickOfNobody) (w : Watch) (f : Entry) (t : ℕ) (counts : w.counts t ≡ true) where
  pub comes : (ran : ℕ) (q : State) (events : List Event) (place : ℤ) → IsCarried w ran q → IsStretch w ran q events
      → get (after_events q events).runnable w.stays ≡ Some f → place_of q t ≡ Some place
      → ComesNoFurther place (charges t q events) (limit_in w (after_events q events) f t)
  comes ran q [] place c h then at = inl refl
  comes ran q (Picks ∷ events) place c h then at =
      comes 0 (picked q) events place (pick_carries first nobody w q c.watched) h then
      (pick_stands q t ∙ at)
  comes ran q (Ticks ns ∷ events) place c h then at =
      let x : ℕ = charged_for t q ns in
      let carried : IsCarried w (ran + ns) (ticked q ns) = tick_carries w ran ns q c in
      let moved : place_of (ticked q ns) t ≡ Some (place +ℤ pos x) = tick_moves q t ns ∙ ap (option_map (λ (z : ℤ). z +ℤ pos x)) at in
      charged_before place (limit_in w (after_events (ticked q ns) events) f t) x (charges t (ticked q ns) events)
      (ran_or_not (q.running ≡ Some t) x place (limit_in w (after_events (ticked q ns) events) f t) (charged_runs q t ns)
      (λ runs. within_limit w (ran + ns) (ticked q ns) events f t (place +ℤ pos x) h.0 carried h.1 then counts (tick_running_stays q ns ∙ runs) moved))
      (comes (ran + ns) (ticked q ns) events (place +ℤ pos x) carried h.1 then moved)
  comes ran q (Becomes r ∷ events) place c h then at =
      let now : IsThen place (place_of r t) = is_then place (place_of q t) (place_of r t) (h.0.places t counts) at in
      moved_before place now.place (limit_in w (after_events r events) f t) (charges t r events) now.later
      (comes ran r events now.place (change_carries w ran q r h.0 c) h.1 then now.there)

-- ---- the laws
pub none_runs_far_past : PickIsFirst → PickOfNobody → NoneRunsFarPast
none_runs_far_past first nobody w q events e f begins stays t place counts at =
    comes first nobody w f t counts 0 (picked q) events place (pick_carries first nobody w q begins.watched) begins.stretch stays.in_the_end
    (pick_stands q t ∙ at)

-- how far the task that stays has come
pub record CameTo (w : Watch) (q : State) (events : List Event) (e f : Entry) : Type 0 where
  pub place : f.v +ℤ (after_events (picked q) events).shift ≡ (e.v +ℤ q.shift) +ℤ pos (charges w.stays (picked q) events)
  pub later : (e.d +ℤ q.shift) ≤ℤ (f.d +ℤ (after_events (picked q) events).shift)

pub came_to : (w : Watch) (q : State) (events : List Event) (e f : Entry) → BeginsWithPick w q events → StaysWith w q events e f
    → CameTo w q events e f
came_to w q events e f begins stays =
    let g : Goes w.stays q (after_events (picked q) events) e (charges w.stays (picked q) events) =
    goes w 0 q (Picks ∷ events) e begins.stretch stays.at_first in
    let same : g.entry ≡ f = one_entry g.entry f (get (after_events (picked q) events).runnable w.stays) g.here stays.in_the_end in
    subst (CameTo w q events e) same (record { place = g.place; later = g.later })

gains_by : (place d v shift first : ℤ) (charged x c turn : ℕ) → ComesNoFurther place charged ((d +ℤ shift) +ℤ pos turn) → d ≤ℤ (v +ℤ pos c)
    → v +ℤ shift ≡ first +ℤ pos x → ComesNoFurther place charged (first +ℤ pos (x + c + turn))
gains_by place d v shift first charged x c turn (inl none) h k = inl none
gains_by place d v shift first charged x c turn (inr some) h k = inr (omega (arith, ints, some, h, k))

pub nobody_gains : PickIsFirst → PickOfNobody → NobodyGains
nobody_gains first nobody w q events e f begins stays short t place counts at =
    let came : CameTo w q events e f = came_to w q events e f begins stays in
    gains_by place f.d f.v (after_events (picked q) events).shift (e.v +ℤ q.shift) (charges t (picked q) events) (charges w.stays (picked q) events)
    (request_of f.nice f.slice) (turn_charge w t) (none_runs_far_past first nobody w q events e f begins stays t place counts at) short came.place

-- ---- several tasks
pub one_gains : (place first : ℤ) (charged x turn : ℕ) → ComesNoFurther place charged (first +ℤ pos (x + turn)) → first ≤ℤ place → charged ≤ x + turn
one_gains place first charged x turn (inl none) h = omega (arith, none)
one_gains place first charged x turn (inr some) h = omega (arith, ints, some, h)

-- one more task
one_more : (weight charged turn x ns rest weights count : ℕ) → charged ≤ x + turn → turn * weight ≤ 1024 * ns → rest ≤ weights * x + count * (1024 * ns)
    → weight * charged + rest ≤ (weight + weights) * x + suc count * (1024 * ns)
one_more weight charged turn x ns rest weights count h k l =
    let all : weight * charged ≤ weight * (x + turn) = mul-le-mul_left weight h in
    omega (arith, all, k, l)

pub together_nobody_gains : PickIsFirst → PickOfNobody → TogetherNobodyGains
together_nobody_gains first nobody w q events e f begins stays short [] level = omega arith
together_nobody_gains first nobody w q events e f begins stays short (t ∷ ts) level =
    let is : IsLevel w q e t = level.0 in
    one_more (weight_of (w.nice_of t)) (charges t (picked q) events) (turn_charge w t) (charges w.stays (picked q) events + request_of f.nice f.slice) w.turn
    (sum_charges w (picked q) events ts) (sum_weights w ts) (length ts)
    (one_gains is.place (e.v +ℤ q.shift) (charges t (picked q) events) (charges w.stays (picked q) events + request_of f.nice f.slice) (turn_charge w t)
    (nobody_gains first nobody w q events e f begins stays short t is.place is.counts is.there) is.not_behind)
    (rounded_down w.turn (weight_of (w.nice_of t)))
    (together_nobody_gains first nobody w q events e f begins stays short ts level.1)

-- ---- a fresh start
not_behind : (v u shift : ℤ) → v ≡ u → (v +ℤ shift) ≤ℤ (u +ℤ shift)
not_behind v u shift h = omega (arith, ints, h)

asked_after : (v d u : ℤ) (c : ℕ) → v ≡ u → d ≡ u +ℤ pos c → v ≤ℤ d
asked_after v d u c h k = omega (arith, ints, h, k)

pub fresh_start_is_level : FreshStartIsLevel
fresh_start_is_level w q v e fresh here = (
  λ t f there.
      let is : f ≡ fresh_entry v f.nice f.slice = fresh t f there in
      asked_after f.v f.d v (request_of f.nice f.slice) (ap (λ (x : Entry). x.v) is) (ap (λ (x : Entry). x.d) is),
  λ t f counts there.
      record {
        counts = counts;
        place = f.v +ℤ q.shift;
        there = standing q.shift (get q.places t) (get q.runnable t) f there;
        not_behind = not_behind e.v f.v q.shift (ap (λ (x : Entry). x.v) (fresh w.stays e here) ∙ sym (ap (λ (x : Entry). x.v) (fresh t f there)));
      },
)
