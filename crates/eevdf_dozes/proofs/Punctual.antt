-- Where no place is past the deadline of the task that stays by more than a turn, none ever is.
use Rattle.std.proofs.Common.{◌≡◌, ℕ, ◌+◌, ◌*◌, ◌≤◌, ◌⊎◌, true, List, [], ◌∷◌, Some, sym, ap, ◌∙◌, subst, inl, inr, arith}
use Rattle.std.specs.Prelude.{ℤ, pos, ◌+ℤ◌, ◌*ℤ◌, ◌≤ℤ◌}
use Rattle.std.specs.{FinMap.get, FinMap.entries}
use Rattle.std.proofs.{lemmas.Int.ints, lemmas.Nat.le-div, Math.Nat.mul-le-mul_left}
use Rattle.eevdf_weight.specs.{Weight.weight_of, Charge.charge_of}
use Rattle.eevdf_weight.proofs.Weighing.{weight_of-least}
use Rattle.eevdf_queue.specs.{declared.entry.Entry.Entry, State.State, Laws.PickIsFirst, Laws.PickOfNobody, Pick.pick_of}
use Rattle.eevdf_queue.specs.Sums.{Tasks, sum_weights, sum_moments}
use Rattle.eevdf_queue.proofs.Scaled.{scaled_sum, scaled_le}
use Rattle.eevdf_fairness.proofs.EntrySums.{Each, each}
use Rattle.eevdf_fairness.proofs.Growing.{rounded_down}
use Rattle.eevdf_dozes.specs.Places.{place_of}
use Rattle.eevdf_dozes.specs.Stretches.{Event, Picks, Ticks, Becomes, Watch, IsStretch, picked, ticked, after_events, charged_for}
use Rattle.eevdf_dozes.specs.{Gains.turn_charge}
use Rattle.eevdf_dozes.specs.Punctual.{NoneStandsPast, NoneIsPutPast, IsTimeWithin, RequestsStayPunctual, LightestTurnIsLongest}
use Rattle.eevdf_dozes.proofs.Optional.{one_entry, there, CameFrom, came_from, standing}
use Rattle.eevdf_dozes.proofs.Ticking.{tick_moves, tick_running_stays, charged_runs}
use Rattle.eevdf_dozes.proofs.PicksInTime.{same_tasks, pick_stands, pick_shift}
use Rattle.eevdf_dozes.proofs.Steps.{Goes, goes_by_tick, goes_by_change, IsLittlePast, IsCarried, pick_carries, tick_carries, change_carries}
use Rattle.eevdf_fairness.proofs.Turning.{little_charge}

-- ---- the limit, at each moment
abbrev Within : Watch → ℕ → State → Type 0
Within w most q = (e : Entry) → get q.runnable w.stays ≡ Some e → NoneStandsPast w ((e.d +ℤ q.shift) +ℤ pos most) q

raised : (place due later : ℤ) (most : ℕ) → place ≤ℤ (due +ℤ pos most) → due ≤ℤ later → place ≤ℤ (later +ℤ pos most)
raised place due later most h k = omega (arith, ints, h, k)

pub stood_still : (before place limit : ℤ) (x : ℕ) → place ≡ before +ℤ pos x → x ≡ 0 → before ≤ℤ limit → place ≤ℤ limit
stood_still before place limit x h k l = omega (arith, ints, h, k, l)

ran_little : (place due : ℤ) (by turn most : ℕ) → place ≤ℤ (due +ℤ pos by) → by ≤ turn → turn ≤ most → place ≤ℤ (due +ℤ pos most)
ran_little place due by turn most h k l = omega (arith, ints, h, k, l)

module _ (first : PickIsFirst) (nobody : PickOfNobody) (w : Watch) (most : ℕ) (allowed : (t : ℕ) → w.counts t ≡ true → turn_charge w t ≤ most) where
  within_by_pick : (q : State) → Within w most q → Within w most (picked q)
  within_by_pick q within e here t place counts at =
      subst (λ (z : ℤ). place ≤ℤ ((e.d +ℤ z) +ℤ pos most)) (sym (pick_shift q))
      (within e (ap (λ (m : Tasks). get m w.stays) (sym (same_tasks q (pick_of q.runnable))) ∙ here) t place counts (sym (pick_stands q t) ∙ at))

  within_by_tick : (ran ns : ℕ) (q : State) → ran + ns ≤ w.turn → IsCarried w ran q → Within w most q → Within w most (ticked q ns)
  within_by_tick ran ns q short c within e here t place counts at =
      let stay = there (get q.runnable w.stays) c.watched.here in
      let g : Goes w.stays q (ticked q ns) stay.0 (charged_for w.stays q ns) = goes_by_tick w.stays q ns stay.0 stay.1 in
      let same : g.entry ≡ e = one_entry g.entry e (get (ticked q ns).runnable w.stays) g.here here in
      let later : (stay.0.d +ℤ q.shift) ≤ℤ (e.d +ℤ (ticked q ns).shift) = subst (λ (y : Entry). (stay.0.d +ℤ q.shift) ≤ℤ (y.d +ℤ (ticked q ns).shift)) same g.later in
      let came : CameFrom (place_of q t) (charged_for t q ns) place =
      came_from (place_of q t) (charged_for t q ns) place (sym (tick_moves q t ns) ∙ at) in
      by came later (charged_runs q t ns)
    where
      by : CameFrom (place_of q t) (charged_for t q ns) place → ((there (get q.runnable w.stays) c.watched.here).0.d +ℤ q.shift) ≤ℤ (e.d +ℤ (ticked q ns).shift)
          → (charged_for t q ns ≡ 0) ⊎ (q.running ≡ Some t) → place ≤ℤ ((e.d +ℤ (ticked q ns).shift) +ℤ pos most)
      by came later (inl none) =
          let stay = there (get q.runnable w.stays) c.watched.here in
          stood_still came.before place ((e.d +ℤ (ticked q ns).shift) +ℤ pos most) (charged_for t q ns) came.moved none
          (raised came.before (stay.0.d +ℤ q.shift) (e.d +ℤ (ticked q ns).shift) most (within stay.0 stay.1 t came.before counts came.there) later)
      by came later (inr runs) =
          let p : IsLittlePast w (ran + ns) t (e.d +ℤ (ticked q ns).shift) place =
          (tick_carries w ran ns q c).runner t place e counts (tick_running_stays q ns ∙ runs) at here in
          ran_little place (e.d +ℤ (ticked q ns).shift) p.by (turn_charge w t) most p.past
          (little_charge p.by (weight_of (w.nice_of t)) (ran + ns) w.turn (weight_of-least (w.nice_of t)) p.little short) (allowed t counts)

  within_by_change : (q r : State) (e : Entry) → get q.runnable w.stays ≡ Some e → Goes w.stays q r e 0
      → ((limit : ℤ) → NoneStandsPast w limit q → NoneStandsPast w limit r) → Within w most q → Within w most r
  within_by_change q r e here g put within f then t place counts at =
      let same : g.entry ≡ f = one_entry g.entry f (get r.runnable w.stays) g.here then in
      raised place (e.d +ℤ q.shift) (f.d +ℤ r.shift) most
      (put ((e.d +ℤ q.shift) +ℤ pos most) (within e here) t place counts at)
      (subst (λ (y : Entry). (e.d +ℤ q.shift) ≤ℤ (y.d +ℤ r.shift)) same g.later)

  stays_within : (ran : ℕ) (q : State) (events : List Event) → IsCarried w ran q → IsStretch w ran q events → NoneIsPutPast w q events
      → Within w most q → Within w most (after_events q events)
  stays_within ran q [] c h put within = within
  stays_within ran q (Picks ∷ events) c h put within =
      stays_within 0 (picked q) events (pick_carries first nobody w q c.watched) h put (within_by_pick q within)
  stays_within ran q (Ticks ns ∷ events) c h put within =
      stays_within (ran + ns) (ticked q ns) events (tick_carries w ran ns q c) h.1 put (within_by_tick ran ns q h.0 c within)
  stays_within ran q (Becomes r ∷ events) c h put within =
      let stay = there (get q.runnable w.stays) c.watched.here in
      stays_within ran r events (change_carries w ran q r h.0 c) h.1 put.1
      (within_by_change q r stay.0 stay.1 (goes_by_change w q r stay.0 h.0 stay.1) put.0 within)

-- ---- the virtual time
one_moment : (v time M : ℤ) (w n : ℕ) → v ≤ℤ time → M ≤ℤ (time *ℤ pos n) → ((v *ℤ pos w) +ℤ M) ≤ℤ (time *ℤ pos (w + n))
one_moment v time M w n h k = omega (arith, ints, k, scaled_le v time w h, scaled_sum time w n)

moments_within : (time : ℤ) (es : List (ℕ × Entry)) → Each (λ e. e.v ≤ℤ time) es → sum_moments es ≤ℤ (time *ℤ pos (sum_weights es))
moments_within time [] h = omega (arith, ints)
moments_within time (e ∷ es) h =
    one_moment e.1.v time (sum_moments es) (weight_of e.1.nice) (sum_weights es) h.0 (moments_within time es h.1)

-- where no runnable task is past a time, the virtual time isn't
pub time_within : (tasks : Tasks) (time : ℤ) → ((t : ℕ) (e : Entry) → get tasks t ≡ Some e → e.v ≤ℤ time) → IsTimeWithin tasks time
time_within tasks time h = moments_within time (entries tasks) (each (λ e. e.v ≤ℤ time) tasks h)

unshifted : (v d shift : ℤ) (most : ℕ) → (v +ℤ shift) ≤ℤ ((d +ℤ shift) +ℤ pos most) → v ≤ℤ (d +ℤ pos most)
unshifted v d shift most h = omega (arith, ints, h)

-- ---- the laws
pub requests_stay_punctual : PickIsFirst → PickOfNobody → RequestsStayPunctual
requests_stay_punctual first nobody w q events e f begins stays put most allowed none_past =
    let r : State = after_events (picked q) events in
    let at_first : Within w most q =
    λ x here. subst (λ (y : Entry). NoneStandsPast w ((y.d +ℤ q.shift) +ℤ pos most) q)
    (one_entry e x (get q.runnable w.stays) stays.at_first here) none_past in
    let none : NoneStandsPast w ((f.d +ℤ r.shift) +ℤ pos most) r =
    stays_within first nobody w most allowed 0 (picked q) events (pick_carries first nobody w q begins.watched) begins.stretch put
    (within_by_pick first nobody w most allowed q at_first) f stays.in_the_end in
    record {
      none_past = none;
      late = λ all. time_within r.runnable (f.d +ℤ pos most) (λ t x here.
          unshifted x.v f.d r.shift most
          (none t (x.v +ℤ r.shift) (all t x here) (standing r.shift (get r.places t) (get r.runnable t) x here)));
    }

lighter_by : (ns c u w : ℕ) → 1 ≤ u → u ≤ w → c * w ≤ 1024 * ns → c ≤ charge_of ns u
unfolding charge_of
lighter_by ns c u w some less h = le-div c (ns * 1024) u some (omega (arith, h, mul-le-mul_left c less))

pub lighter_turn_is_longer : (ns u : ℕ) (nice : ℤ) → 1 ≤ u → u ≤ weight_of nice → charge_of ns (weight_of nice) ≤ charge_of ns u
lighter_turn_is_longer ns u nice some less =
    lighter_by ns (charge_of ns (weight_of nice)) u (weight_of nice) some less (rounded_down ns (weight_of nice))

pub lightest_turn_is_longest : LightestTurnIsLongest
lightest_turn_is_longest ns nice = lighter_turn_is_longer ns 15 nice (omega arith) (weight_of-least nice)
