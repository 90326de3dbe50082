-- With a rebase each day no tick is out of range.
use Rattle.std.proofs.Common.{◌≡◌, ℕ, suc, ◌==◌, ◌+◌, ◌-◌, ◌*◌, ◌^◌, ◌≤◌, Bool, true, false, ◌&&◌, cond, List, [], ◌∷◌, length, Option, Some, None, refl, sym, ap, ◌∙◌, subst, arith}
use Rattle.std.specs.Prelude.{ℤ, pos, ◌+ℤ◌, ◌-ℤ◌, ◌*ℤ◌, ◌≤ℤ◌, ◌<ℤ◌, is_some, unsigned_abs}
use Rattle.std.specs.{List.AllByRecursion, FinMap.get, FinMap.insert, FinMap.empty, FinMap.entries, FinMap.len}
use Rattle.std.proofs.lemmas.{Int.ints, Int.unsigned_abs-mul, Bool.Decides.nat_tests}
use Rattle.std.proofs.Math.Nat.{mul-le-mul_left, mul-le-mul_right}
use Rattle.eevdf_weight.specs.{Weight.weight_of, Charge.charge_of, Placement.floor_div}
use Rattle.eevdf_weight.proofs.Weighing.{weight_of-least}
use Rattle.eevdf_queue.specs.{declared.entry.Entry.Entry, declared.answers.TickAnswer.TickAnswer, State.State, Moves.request_of, Moves.fresh_entry, Moves.is_entry_in_range}
use Rattle.eevdf_queue.specs.declared.answers.TickAnswer.TheVariants.{Charged, Range}
use Rattle.eevdf_queue.specs.{Laws.PickIsFirst, Laws.PickOfNobody}
use Rattle.eevdf_queue.specs.Sums.{Tasks, total_weight, total_moment, virtual_time}
use Rattle.eevdf_queue.specs.Pick.{IsPick, pick_of, picked_by}
use Rattle.eevdf_queue.specs.Tick.{aged, is_used_up, charged, tick_to, tick_entry, tick_running}
use Rattle.eevdf_queue.specs.Rebase.{lowered_entry, lowered_entries, are_entries_in_range, is_shift, can_lower, can_rebase, rebased, rebase}
use Rattle.eevdf_queue.specs.LoweredQueues.{AnswerAlike, LoweredQueueAnswersAlike, RebasedIsLower}
use Rattle.eevdf_queue.proofs.{Bounds.charge_of_small, Bounds.within as in_range_is, Floors.not_above, Floors.below_next, Floors.no_more, Scaled.sum_scaled, Scaled.difference_scaled}
use Rattle.eevdf_fairness.specs.Turns.{Turn, turn_length, AreNoLonger, after_ticks, after_turn, after_turns}
use Rattle.eevdf_fairness.specs.Fair.{turns_of_others, weight_of_others}
use Rattle.eevdf_fairness.specs.Days.{total_length, IsDay, after_days, IsNearStart, DaysStayInRange}
use Rattle.eevdf_fairness.proofs.EntrySums.{Each, each, no_heavier}
use Rattle.eevdf_fairness.proofs.{Growing.HasRun, Growing.has_run, Growing.found_after, Owed.owed, Passing.turns_passed}
use Rattle.eevdf_fairness.proofs.Rules.{IsWithin, settled, Everyone, After, Short, keeps_after, keeps_short, at_one_time, IsLittleAhead, fresh_within}
use Rattle.eevdf_fairness.proofs.Inequalities.{not_zero}
use Rattle.eevdf_fairness.proofs.Falling.{found_lower, front_down, short_down, lowered_within, lower_rule_of, falls_after, falls_short}
use Rattle.eevdf_fairness.proofs.{RestOfQueue.KeepsRest, RestOfQueue.turns_rest, Turning.moment_after, Steps.idle, Steps.turns_within, Bounds.itself}

abbrev second : ℕ
second = 1000000000

-- as from a fresh start, of turns of at most a second
abbrev IsWithinFresh : ℤ → Tasks → Type 0
IsWithinFresh front = IsWithin (settled second front Everyone)

abbrev HaveSlices : Tasks → Type 0
HaveSlices tasks = (t : ℕ) (e : Entry) → get tasks t ≡ Some e → e.slice ≤ 100000000

-- the virtual time is within a bound, and all tasks are near it
record IsCalm (bound : ℕ) (front : ℤ) (tasks : Tasks) : Type 0 where
  within : IsWithinFresh front tasks
  few : len tasks ≤ 1024
  slices : HaveSlices tasks
  mean : 1 ≤ total_weight tasks → unsigned_abs (total_moment tasks) ≤ bound * total_weight tasks

-- ---- what a turn adds
-- the sums after, from those before
record HasMoved (ns : ℕ) (before after : Tasks) : Type 0 where
  least : total_moment before ≤ℤ total_moment after
  most : total_moment after ≤ℤ (total_moment before +ℤ pos (1024 * ns))
  slices : HaveSlices before → HaveSlices after

stayed : (ns : ℕ) (before after : Tasks) → after ≡ before → HasMoved ns before after
stayed ns before after e =
    subst (HasMoved ns before) (sym e) (record { least = omega (arith, ints); most = omega (arith, ints); slices = λ h. h })

up : (a b : ℤ) (i : ℕ) → b ≡ a +ℤ pos i → a ≤ℤ b
up a b i h = omega (arith, ints, h)

up_by : (a b : ℤ) (i n : ℕ) → b ≡ a +ℤ pos i → i ≤ n → b ≤ℤ (a +ℤ pos n)
up_by a b i n h k = omega (arith, ints, h, k)

module _ (first : PickIsFirst) (nobody : PickOfNobody) (front : ℤ) where
  turn_moved : (q : State) (turn : Turn) (o : Option ℕ) → pick_of q.runnable ≡ o → turn_length turn ≤ second → IsWithinFresh front q.runnable
      → HasMoved (turn_length turn) q.runnable (after_ticks (picked_by q o) turn).runnable
  turn_moved q turn None is short w =
      let none : q.runnable ≡ empty = (nobody q.runnable).0 (ap (λ (o : Option ℕ). is_some o) is) in
      stayed (turn_length turn) q.runnable (after_ticks q turn).runnable (idle q turn none ∙ sym none)
  turn_moved q turn (Some p) is short w =
      let pick : IsPick q.runnable p = first q.runnable p is in
      let run : HasRun (record q { running = Some p }) p pick.entry (turn_length turn) (after_ticks (record q { running = Some p }) turn) =
      has_run (record q { running = Some p }) p pick.entry turn refl pick.eligible.here in
      let moment : total_moment (insert q.runnable p run.entry) ≡ total_moment q.runnable +ℤ pos (run.grown.by * weight_of pick.entry.nice) =
      moment_after (settled second front Everyone) (turn_length turn) q.runnable p pick.entry run.entry pick.eligible.here pick.eligible.owed pick.first run.grown short w in
      subst (HasMoved (turn_length turn) q.runnable) (sym run.runnable) (record {
        least = up (total_moment q.runnable) (total_moment (insert q.runnable p run.entry)) (run.grown.by * weight_of pick.entry.nice) moment;
        most = up_by (total_moment q.runnable) (total_moment (insert q.runnable p run.entry)) (run.grown.by * weight_of pick.entry.nice) (1024 * turn_length turn) moment run.grown.little;
        slices = λ h. found_after (λ e. e.slice ≤ 100000000) q.runnable p run.entry
            (subst (λ (n : ℕ). n ≤ 100000000) (sym run.grown.same_slice) (h p pick.entry pick.eligible.here)) h;
      })

  both_moved : (a b c : Tasks) (m n : ℕ) → HasMoved m a b → HasMoved n b c → HasMoved (m + n) a c
  both_moved a b c m n f g = record {
    least = omega (arith, ints, f.least, g.least);
    most = omega (arith, ints, f.most, g.most);
    slices = λ h. g.slices (f.slices h);
  }

  turns_moved : (q : State) (turns : List Turn) → AreNoLonger second turns → IsWithinFresh front q.runnable
      → HasMoved (total_length turns) q.runnable (after_turns q turns).runnable
  turns_moved q [] h w = stayed 0 q.runnable q.runnable refl
  turns_moved q (turn ∷ turns) h w =
      both_moved q.runnable (after_turn q turn).runnable (after_turns q (turn ∷ turns)).runnable (turn_length turn) (total_length turns)
      (turn_moved q turn (pick_of q.runnable) refl h.0 w)
      (turns_moved (after_turn q turn) turns h.1 (turns_within first nobody (settled second front Everyone) q (turn ∷ []) (h.0, tt) w))

mean_after : (S T : ℤ) (W n : ℕ) → unsigned_abs S ≤ 2 ^ 58 * W → S ≤ℤ T → T ≤ℤ (S +ℤ pos (1024 * n)) → n ≤ 86400000000000 → 1 ≤ W → unsigned_abs T ≤ 2 ^ 59 * W
mean_after S T W n h k l m some = omega (arith, ints, h, k, l, m, some)

module _ (first : PickIsFirst) (nobody : PickOfNobody) where
  day_calm : (front : ℤ) (q : State) (turns : List Turn) → IsDay turns → IsCalm (2 ^ 58) front q.runnable → IsCalm (2 ^ 59) front (after_turns q turns).runnable
  day_calm front q turns d c =
      let passed = turns_passed 0 q turns in
      let moved = turns_moved first nobody front q turns d.brief c.within in
      record {
        within = turns_within first nobody (settled second front Everyone) q turns d.brief c.within;
        few = subst (λ (n : ℕ). n ≤ 1024) (sym passed.count) c.few;
        slices = moved.slices c.slices;
        mean = λ some.
            let same : 1 ≤ total_weight q.runnable = subst (λ (n : ℕ). 1 ≤ n) passed.weight some in
            subst (λ (n : ℕ). unsigned_abs (total_moment (after_turns q turns).runnable) ≤ 2 ^ 59 * n) (sym passed.weight)
            (mean_after (total_moment q.runnable) (total_moment (after_turns q turns).runnable) (total_weight q.runnable) (total_length turns) (c.mean same) moved.least moved.most d.whole same);
      }

-- ---- how near the virtual time each task is
cancel : (a b : ℤ) (n : ℕ) → 1 ≤ n → (a *ℤ pos n) ≤ℤ (b *ℤ pos n) → a ≤ℤ b
cancel a b n some h = no_more a b (b *ℤ pos n) n h (omega (arith, ints, some))

cancel_more : (a b : ℤ) (x n : ℕ) → 1 ≤ n → (a *ℤ pos n) ≤ℤ ((b *ℤ pos n) +ℤ pos x) → a ≤ℤ (b +ℤ pos x)
cancel_more a b x n some h =
    let more : x * 1 ≤ x * n = mul-le-mul_left x some in
    cancel a (b +ℤ pos x) n some (omega (arith, ints, h, sum_scaled b (pos x) n, more))

others_small : (n : ℕ) → n ≤ 1024 → (n - 1) * (1024 * second) ≤ 2 ^ 50
others_small n h = omega (arith, h)

low_by : (v S : ℤ) (w m W X : ℕ) → 15 ≤ w → X ≤ 2 ^ 50 → ((S *ℤ pos w) +ℤ pos m) ≤ℤ (((v *ℤ pos W) *ℤ pos w) +ℤ pos (W * X)) → S ≤ℤ ((v *ℤ pos W) +ℤ pos (2 ^ 50 * W))
low_by v S w m W X some few h =
    let drop : (S *ℤ pos w) ≤ℤ (((v *ℤ pos W) *ℤ pos w) +ℤ pos (W * X)) = omega (arith, ints, h) in
    let one : 1 ≤ w = omega (arith, some) in
    let small : W * X ≤ W * 2 ^ 50 = mul-le-mul_left W few in
    let near = cancel_more S (v *ℤ pos W) (W * X) w one drop in
    omega (arith, ints, near, small)

high_by : (a S : ℤ) (x W c : ℕ) → c ≤ 2 ^ 40 → (a +ℤ pos x) ≤ℤ (S +ℤ pos (W * c)) → a ≤ℤ (S +ℤ pos (2 ^ 40 * W))
high_by a S x W c few h =
    let small : W * c ≤ W * 2 ^ 40 = mul-le-mul_left W few in omega (arith, ints, h, small)

-- within so much before the virtual time, and so much after it
record IsNear (W : ℕ) (S v : ℤ) : Type 0 where
  low : S ≤ℤ ((v *ℤ pos W) +ℤ pos (2 ^ 50 * W))
  high : (v *ℤ pos W) ≤ℤ (S +ℤ pos (2 ^ 40 * W))

calm_near : (bound : ℕ) (front : ℤ) (tasks : Tasks) → IsCalm bound front tasks → (t : ℕ) (e : Entry) → get tasks t ≡ Some e → IsNear (total_weight tasks) (total_moment tasks) e.v
calm_near bound front tasks c t e here =
    let ahead : (u : ℕ) (f : Entry) → get tasks u ≡ Some f → IsLittleAhead second (total_weight tasks) (total_moment tasks) f = λ u f found. c.within.ahead u f found tt in
    record {
      low = low_by e.v (total_moment tasks) (weight_of e.nice) (weight_of_others tasks e * (1024 * second)) (total_weight tasks) (turns_of_others second tasks) (weight_of-least e.nice)
          (others_small (len tasks) c.few) (owed second tasks ahead t e here);
      high = high_by (e.v *ℤ pos (total_weight tasks)) (total_moment tasks) (weight_of e.nice * charge_of second (weight_of e.nice)) (total_weight tasks) (charge_of second (weight_of e.nice))
          (charge_of_small second (weight_of e.nice) (omega arith)) (ahead t e here);
    }

from_zero : (v S : ℤ) (W : ℕ) → 1 ≤ W → unsigned_abs S ≤ 2 ^ 59 * W → IsNear W S v → unsigned_abs v ≤ 2 ^ 59 + 2 ^ 51
from_zero v S W some h k =
    let low : pos 0 ≤ℤ (v +ℤ pos (2 ^ 59 + 2 ^ 50)) =
    cancel (pos 0) (v +ℤ pos (2 ^ 59 + 2 ^ 50)) W some (omega (arith, ints, h, k.low, sum_scaled v (pos (2 ^ 59 + 2 ^ 50)) W)) in
    let high : v ≤ℤ pos (2 ^ 59 + 2 ^ 40) = cancel v (pos (2 ^ 59 + 2 ^ 40)) W some (omega (arith, ints, h, k.high)) in
    omega (arith, ints, low, high)

from_mean : (v S time : ℤ) (W : ℕ) → 1 ≤ W → (time *ℤ pos W) ≤ℤ S → S <ℤ ((time *ℤ pos W) +ℤ pos W) → IsNear W S v → unsigned_abs (v -ℤ time) ≤ 2 ^ 51
from_mean v S time W some h l k =
    let low : pos 0 ≤ℤ ((v -ℤ time) +ℤ pos (2 ^ 50)) =
    cancel (pos 0) ((v -ℤ time) +ℤ pos (2 ^ 50)) W some (omega (arith, ints, h, k.low, sum_scaled (v -ℤ time) (pos (2 ^ 50)) W, difference_scaled v time W)) in
    let high : (v -ℤ time) ≤ℤ pos (2 ^ 40 + 1) = cancel (v -ℤ time) (pos (2 ^ 40 + 1)) W some (omega (arith, ints, l, k.high, difference_scaled v time W)) in
    omega (arith, ints, low, high)

-- ---- deadlines
due_by : (v d : ℤ) (r n : ℕ) → v ≤ℤ d → d ≤ℤ (v +ℤ pos r) → r ≤ 2 ^ 40 → unsigned_abs v ≤ n → unsigned_abs d ≤ n + 2 ^ 40
due_by v d r n h k l m = omega (arith, ints, h, k, l, m)

module _ (bound : ℕ) (front : ℤ) (tasks : Tasks) (c : IsCalm bound front tasks) (t : ℕ) (e : Entry) (here : get tasks t ≡ Some e) where
  due : e.v ≤ℤ e.d
  due = c.within.within e.d (c.within.kept t e here).0 t e here (itself e.d)

  soon : e.d ≤ℤ (e.v +ℤ pos (request_of e.nice e.slice))
  soon = (c.within.kept t e here).1

  request_small : request_of e.nice e.slice ≤ 2 ^ 40
  request_small = let k = c.slices t e here in charge_of_small e.slice (weight_of e.nice) (omega (arith, k))

  some_weight : 1 ≤ total_weight tasks
  some_weight = let k = no_heavier tasks t e here in let l = weight_of-least e.nice in omega (arith, k, l)

-- ---- no tick is refused
in_range_of : (e : Entry) → unsigned_abs e.v ≤ 2 ^ 60 → unsigned_abs e.d ≤ 2 ^ 60 → is_entry_in_range e ≡ true
in_range_of e h k = grind (arith, nat_tests)

more_by : (v : ℤ) (c m n : ℕ) → unsigned_abs v ≤ m → c ≤ n → unsigned_abs (v +ℤ pos c) ≤ m + n
more_by v c m n h k = omega (arith, ints, h, k)

below : (n m : ℕ) → n ≤ m → m ≤ 2 ^ 60 → n ≤ 2 ^ 60
below n m h k = omega (arith, h, k)

charged_in_range : (e : Entry) (ns : ℕ) (b : Bool) → ns ≤ 1000000000 → e.slice ≤ 100000000 → unsigned_abs e.v ≤ 2 ^ 59 + 2 ^ 51 → unsigned_abs e.d ≤ 2 ^ 59 + 2 ^ 51 + 2 ^ 40
    → is_entry_in_range (cond b (fresh_entry (aged e ns) e.nice e.slice) (record e { v = aged e ns })) ≡ true
charged_in_range e ns true short slice v d =
    let aged_near = more_by e.v (charge_of ns (weight_of e.nice)) (2 ^ 59 + 2 ^ 51) (2 ^ 40) v (charge_of_small ns (weight_of e.nice) short) in
    let request : request_of e.nice e.slice ≤ 2 ^ 40 = charge_of_small e.slice (weight_of e.nice) (omega (arith, slice)) in
    let due_near = more_by (aged e ns) (request_of e.nice e.slice) (2 ^ 59 + 2 ^ 51 + 2 ^ 40) (2 ^ 40) aged_near request in
    in_range_of (fresh_entry (aged e ns) e.nice e.slice) (below (unsigned_abs (aged e ns)) (2 ^ 59 + 2 ^ 51 + 2 ^ 40) aged_near (omega arith))
    (below (unsigned_abs (aged e ns +ℤ pos (request_of e.nice e.slice))) (2 ^ 59 + 2 ^ 51 + 2 ^ 40 + 2 ^ 40) due_near (omega arith))
charged_in_range e ns false short slice v d =
    let aged_near = more_by e.v (charge_of ns (weight_of e.nice)) (2 ^ 59 + 2 ^ 51) (2 ^ 40) v (charge_of_small ns (weight_of e.nice) short) in
    in_range_of (record e { v = aged e ns }) (below (unsigned_abs (aged e ns)) (2 ^ 59 + 2 ^ 51 + 2 ^ 40) aged_near (omega arith)) (below (unsigned_abs e.d) (2 ^ 59 + 2 ^ 51 + 2 ^ 40) d (omega arith))

module _ (q : State) (front : ℤ) (c : IsCalm (2 ^ 59) front q.runnable) (ns : ℕ) (short : ns ≤ 1000000000) where
  charged_by : (t : ℕ) (u b : Bool) (x : Entry) → is_entry_in_range x ≡ b → b ≡ true → (tick_to q t u x).0 ≡ Range → ⊥
  charged_by t u true x is k h =
      let answer : (tick_to q t u x).0 ≡ Charged t u = ap (λ (b : Bool). (cond {A = TickAnswer × State} b (Charged t u, record q { runnable = insert q.runnable t x }) (Range, q)).0) is in cc
  charged_by t u false x is k h = cc

  entry_by : (t : ℕ) (o : Option Entry) → get q.runnable t ≡ o → (tick_entry q t o ns).0 ≡ Range → ⊥
  entry_by t None here h = cc
  entry_by t (Some e) here h =
      let some = some_weight (2 ^ 59) front q.runnable c t e here in
      let v = from_zero e.v (total_moment q.runnable) (total_weight q.runnable) some (c.mean some) (calm_near (2 ^ 59) front q.runnable c t e here) in
      let d = due_by e.v e.d (request_of e.nice e.slice) (2 ^ 59 + 2 ^ 51) (due (2 ^ 59) front q.runnable c t e here) (soon (2 ^ 59) front q.runnable c t e here) (request_small (2 ^ 59) front q.runnable c t e here) v in
      charged_by t (is_used_up e ns) (is_entry_in_range (charged e ns)) (charged e ns) refl (charged_in_range e ns (is_used_up e ns) short (c.slices t e here) v d) h

  runner_by : (o : Option ℕ) → (tick_running q o ns).0 ≡ Range → ⊥
  runner_by None h = cc
  runner_by (Some t) h = entry_by t (get q.runnable t) refl h

-- ---- the rebase
pub mean_is : (q : State) → 1 ≤ total_weight q.runnable → virtual_time q ≡ floor_div (total_moment q.runnable) (total_weight q.runnable)
mean_is q some = ap (λ (b : Bool). cond b q.base (floor_div (total_moment q.runnable) (total_weight q.runnable))) (not_zero (total_weight q.runnable) some)

all_in_range : (by : ℤ) (es : List (ℕ × Entry)) → Each (λ e. is_entry_in_range (lowered_entry by e) ≡ true) es → are_entries_in_range (lowered_entries by es) ≡ true
all_in_range by [] h = refl
all_in_range by (e ∷ es) h = ap (λ (b : Bool). b && are_entries_in_range (lowered_entries by es)) h.0 ∙ all_in_range by es h.1

mean_lower : (S T time : ℤ) (W : ℕ) → (time *ℤ pos W) ≤ℤ S → S <ℤ ((time *ℤ pos W) +ℤ pos W) → T ≡ S -ℤ (time *ℤ pos W) → unsigned_abs T ≤ 2 ^ 58 * W
mean_lower S T time W h k e = omega (arith, ints, h, k, e)

module _ (alike : LoweredQueueAnswersAlike) (lower : RebasedIsLower) (q : State) (front : ℤ) (c : IsCalm (2 ^ 59) front q.runnable) where
  near_mean : (t : ℕ) (e : Entry) → get q.runnable t ≡ Some e → unsigned_abs (e.v -ℤ virtual_time q) ≤ 2 ^ 51
  near_mean t e here =
      let some = some_weight (2 ^ 59) front q.runnable c t e here in
      subst (λ (z : ℤ). unsigned_abs (e.v -ℤ z) ≤ 2 ^ 51) (sym (mean_is q some))
      (from_mean e.v (total_moment q.runnable) (floor_div (total_moment q.runnable) (total_weight q.runnable)) (total_weight q.runnable) some
      (not_above (total_moment q.runnable) (total_weight q.runnable) some) (below_next (total_moment q.runnable) (total_weight q.runnable) some)
      (calm_near (2 ^ 59) front q.runnable c t e here))

  lower_in_range : (t : ℕ) (e : Entry) → get q.runnable t ≡ Some e → is_entry_in_range (lowered_entry (virtual_time q) e) ≡ true
  lower_in_range t e here =
      let v = near_mean t e here in
      let d = due_by (e.v -ℤ virtual_time q) (e.d -ℤ virtual_time q) (request_of e.nice e.slice) (2 ^ 51)
      (front_down e.v e.d (virtual_time q) (due (2 ^ 59) front q.runnable c t e here)) (short_down e.d e.v (virtual_time q) (request_of e.nice e.slice) (soon (2 ^ 59) front q.runnable c t e here))
      (request_small (2 ^ 59) front q.runnable c t e here) v in
      in_range_of (lowered_entry (virtual_time q) e) (below (unsigned_abs (e.v -ℤ virtual_time q)) (2 ^ 51) v (omega arith)) (below (unsigned_abs (e.d -ℤ virtual_time q)) (2 ^ 51 + 2 ^ 40) d (omega arith))

  calm_can : is_shift (q.shift +ℤ virtual_time q) ≡ true → can_rebase q ≡ true
  calm_can fits = ap (λ (b : Bool). b && can_lower (virtual_time q) q.runnable) fits ∙ all_in_range (virtual_time q) (entries q.runnable) (each (λ e. is_entry_in_range (lowered_entry (virtual_time q) e) ≡ true) q.runnable lower_in_range)

  rebase_is : is_shift (q.shift +ℤ virtual_time q) ≡ true → (rebase q).1 ≡ rebased q
  rebase_is fits = ap (λ (b : Bool). (cond {A = ℤ × State} b (virtual_time q, rebased q) (pos 0, q)).1) (calm_can fits)

  answers : AnswerAlike (virtual_time q) q (rebased q)
  answers = alike (virtual_time q) q (rebased q) (lower q)

  found : (P : Entry → Type 0) → ((t : ℕ) (e : Entry) → get q.runnable t ≡ Some e → P (lowered_entry (virtual_time q) e)) → (t : ℕ) (f : Entry) → get (rebased q).runnable t ≡ Some f → P f
  found P h t f here = found_lower P (virtual_time q) (get q.runnable t) f (sym (answers.entry t) ∙ here) (h t)

  rebased_within : IsWithinFresh (front -ℤ virtual_time q) (rebased q).runnable
  rebased_within =
      lowered_within (virtual_time q) (settled second front Everyone) (settled second (front -ℤ virtual_time q) Everyone)
      (lower_rule_of second front (virtual_time q) Everyone Everyone (After front Short) (After (front -ℤ virtual_time q) Short) (keeps_after front Short keeps_short)
      (keeps_after (front -ℤ virtual_time q) Short keeps_short) (λ e so. tt) (falls_after front Short falls_short (virtual_time q))) q.runnable c.within

  rebased_calm : IsCalm (2 ^ 58) (front -ℤ virtual_time q) (rebased q).runnable
  rebased_calm = record {
    within = rebased_within;
    few = subst (λ (n : ℕ). n ≤ 1024) (sym answers.count) c.few;
    slices = found (λ x. x.slice ≤ 100000000) c.slices;
    mean = λ weighs.
        let some : 1 ≤ total_weight q.runnable = subst (λ (n : ℕ). 1 ≤ n) answers.load weighs in
        subst (λ (n : ℕ). unsigned_abs (total_moment (rebased q).runnable) ≤ 2 ^ 58 * n) (sym answers.load)
        (mean_lower (total_moment q.runnable) (total_moment (rebased q).runnable) (floor_div (total_moment q.runnable) (total_weight q.runnable)) (total_weight q.runnable)
        (not_above (total_moment q.runnable) (total_weight q.runnable) some) (below_next (total_moment q.runnable) (total_weight q.runnable) some)
        (answers.moment ∙ ap (λ (z : ℤ). total_moment q.runnable -ℤ (z *ℤ pos (total_weight q.runnable))) (mean_is q some)));
  }

-- ---- the start
fresh_mean : (v S : ℤ) (W : ℕ) → unsigned_abs v ≤ 2 ^ 58 → S ≡ v *ℤ pos W → unsigned_abs S ≤ 2 ^ 58 * W
fresh_mean v S W h e = let k : unsigned_abs (v *ℤ pos W) ≤ 2 ^ 58 * W = omega (arith, unsigned_abs-mul v (pos W), mul-le-mul_right W h) in rw e k

start_calm : (v : ℤ) (q : State) → IsNearStart v q → IsCalm (2 ^ 58) v q.runnable
start_calm v q s = record {
  within = fresh_within v second Everyone q.runnable s.fresh;
  few = s.few;
  slices = s.slices;
  mean = λ weighs. fresh_mean v (total_moment q.runnable) (total_weight q.runnable) s.near
      (at_one_time v (entries q.runnable) (each (λ e. e.v ≡ v) q.runnable (λ t e here. ap (λ (x : Entry). x.v) (s.fresh t e here))));
}

-- ---- the shift
small_by : (S time : ℤ) (W : ℕ) → 1 ≤ W → unsigned_abs S ≤ 2 ^ 59 * W → (time *ℤ pos W) ≤ℤ S → S <ℤ ((time *ℤ pos W) +ℤ pos W) → unsigned_abs time ≤ 2 ^ 60
small_by S time W some h l m =
    let low : pos 0 ≤ℤ (time +ℤ pos (2 ^ 59 + 1)) =
    cancel (pos 0) (time +ℤ pos (2 ^ 59 + 1)) W some (omega (arith, ints, h, m, sum_scaled time (pos (2 ^ 59 + 1)) W)) in
    let high : time ≤ℤ pos (2 ^ 59) = cancel time (pos (2 ^ 59)) W some (omega (arith, ints, h, l)) in
    omega (arith, ints, low, high)

someone : (n : ℕ) → (n == 0) ≡ false → 1 ≤ n
someone n is = grind (arith, nat_tests)

time_small : (q : State) (front : ℤ) → IsCalm (2 ^ 59) front q.runnable → unsigned_abs q.base ≤ 2 ^ 60 → unsigned_abs (virtual_time q) ≤ 2 ^ 60
time_small q front c base = by (total_weight q.runnable == 0) refl
  where
    by : (b : Bool) → (total_weight q.runnable == 0) ≡ b → unsigned_abs (cond b q.base (floor_div (total_moment q.runnable) (total_weight q.runnable))) ≤ 2 ^ 60
    by true is = base
    by false is =
        let some : 1 ≤ total_weight q.runnable = someone (total_weight q.runnable) is in
        small_by (total_moment q.runnable) (floor_div (total_moment q.runnable) (total_weight q.runnable)) (total_weight q.runnable) some (c.mean some)
        (not_above (total_moment q.runnable) (total_weight q.runnable) some) (below_next (total_moment q.runnable) (total_weight q.runnable) some)

fits : (shift time : ℤ) (days : ℕ) → unsigned_abs shift + (days + 1) * 2 ^ 60 ≤ 2 ^ 120 → unsigned_abs time ≤ 2 ^ 60 → is_shift (shift +ℤ time) ≡ true
fits shift time days room small =
    let below : unsigned_abs (shift +ℤ time) ≤ 2 ^ 120 = omega (arith, ints, room, small) in grind (arith, nat_tests)

room_after : (shift time : ℤ) (days : ℕ) → unsigned_abs shift + (suc days + 1) * 2 ^ 60 ≤ 2 ^ 120 → unsigned_abs time ≤ 2 ^ 60
    → unsigned_abs (shift +ℤ time) + (days + 1) * 2 ^ 60 ≤ 2 ^ 120
room_after shift time days room small = omega (arith, ints, room, small)

room_before : (shift : ℤ) (days : ℕ) → unsigned_abs shift ≤ 2 ^ 119 → days ≤ 2 ^ 58 → unsigned_abs shift + (days + 1) * 2 ^ 60 ≤ 2 ^ 120
room_before shift days small few = omega (arith, small, few)

-- ---- days
-- a morning of a day that is followed by so many days, each of which ends with a rebase
record IsCalmDay (days : ℕ) (q : State) : Type 0 where
  front : ℤ
  calm : IsCalm (2 ^ 58) front q.runnable
  base : unsigned_abs q.base ≤ 2 ^ 60
  room : unsigned_abs q.shift + (days + 1) * 2 ^ 60 ≤ 2 ^ 120

module _ (first : PickIsFirst) (nobody : PickOfNobody) (alike : LoweredQueueAnswersAlike) (lower : RebasedIsLower) where
  -- the evening of a day
  record IsEvening (days : ℕ) (q : State) : Type 0 where
    front : ℤ
    calm : IsCalm (2 ^ 59) front q.runnable
    time : unsigned_abs (virtual_time q) ≤ 2 ^ 60
    room : unsigned_abs q.shift + (days + 1) * 2 ^ 60 ≤ 2 ^ 120

  evening : (days : ℕ) (q : State) (day : List Turn) → IsDay day → IsCalmDay days q → IsEvening days (after_turns q day)
  evening days q day d c =
      let rest : KeepsRest q (after_turns q day) = turns_rest q day in
      let calm : IsCalm (2 ^ 59) c.front (after_turns q day).runnable = day_calm first nobody c.front q day d c.calm in
      record {
        front = c.front;
        calm = calm;
        time = time_small (after_turns q day) c.front calm (subst (λ (z : ℤ). unsigned_abs z ≤ 2 ^ 60) (sym rest.base) c.base);
        room = subst (λ (z : ℤ). unsigned_abs z + (days + 1) * 2 ^ 60 ≤ 2 ^ 120) (sym rest.shift) c.room;
      }

  evening_fits : (days : ℕ) (s : State) → IsEvening days s → is_shift (s.shift +ℤ virtual_time s) ≡ true
  evening_fits days s e = fits s.shift (virtual_time s) days e.room e.time

  next_day : (days : ℕ) (q : State) (day : List Turn) → IsDay day → IsCalmDay (suc days) q → IsCalmDay days ((rebase (after_turns q day)).1)
  next_day days q day d c =
      let s : State = after_turns q day in
      let e : IsEvening (suc days) s = evening (suc days) q day d c in
      subst (IsCalmDay days) (sym (rebase_is alike lower s e.front e.calm (evening_fits (suc days) s e))) (record {
        front = e.front -ℤ virtual_time s;
        calm = rebased_calm alike lower s e.front e.calm;
        base = omega arith;
        room = room_after s.shift (virtual_time s) days e.room e.time;
      })

  days_calm : (q : State) (days : List (List Turn)) → AllByRecursion IsDay days → IsCalmDay (length days) q → IsCalmDay 0 (after_days q days)
  days_calm q [] h c = c
  days_calm q (day ∷ days) h c = days_calm ((rebase (after_turns q day)).1) days h.1 (next_day (length days) q day h.0 c)

  pub days_stay_in_range : DaysStayInRange
  days_stay_in_range q v days turns s h d =
      let begun : IsCalmDay (length days) q = record {
        front = v;
        calm = start_calm v q s;
        base = in_range_is q.base s.based;
        room = room_before q.shift (length days) s.shift h.few;
      } in
      let r : State = after_turns (after_days q days) turns in
      let now : IsEvening 0 r = evening 0 (after_days q days) turns d (days_calm q days h.each begun) in
      record {
        ticks = λ ns short. runner_by r now.front now.calm ns short r.running;
        rebases = calm_can alike lower r now.front now.calm (evening_fits 0 r now);
      }
