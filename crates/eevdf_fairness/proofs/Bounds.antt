-- What is asked of the tasks bounds how late each request is, and how far behind and ahead each task is.
use Rattle.std.proofs.Common.{◌≡◌, ℕ, ◌+◌, ◌-◌, ◌*◌, Some, sym, ap, ◌∙◌, arith}
use Rattle.std.specs.Prelude.{ℤ, pos, ◌+ℤ◌, ◌-ℤ◌, ◌*ℤ◌, ◌≤ℤ◌}
use Rattle.std.specs.FinMap.{get, len}
use Rattle.std.proofs.lemmas.Int.{ints}
use Rattle.eevdf_weight.specs.{Weight.weight_of, Charge.charge_of}
use Rattle.eevdf_queue.specs.{declared.entry.Entry.Entry, Moves.request_of}
use Rattle.eevdf_queue.specs.Sums.{Tasks, total_weight, total_moment}
use Rattle.eevdf_queue.proofs.Scaled.{scaled_sum, sum_scaled, scaled_le}
use Rattle.eevdf_fairness.specs.Fair.{IsFair, IsNotLate, IsNotLateWithRest, IsNotAhead, turns_of_others, weight_of_others}
use Rattle.eevdf_fairness.specs.Healing.{IsPunctual}
use Rattle.eevdf_fairness.proofs.{Inequalities.fewer, EntrySums.no_heavier, Rooms.has_room, Owed.owed}
use Rattle.eevdf_fairness.proofs.Rules.{IsWithin, Keeps, rule_of, settled, Everyone}

pub rest_by : (v time S : ℤ) (w W n k : ℕ) → (pos k -ℤ ((v *ℤ pos w) -ℤ (time *ℤ pos w))) ≤ℤ (pos (n * k) -ℤ (S -ℤ (time *ℤ pos W)))
    → (S +ℤ (time *ℤ pos w)) ≤ℤ (((time *ℤ pos W) +ℤ (v *ℤ pos w)) +ℤ pos ((n - 1) * k))
rest_by v time S w W n k room = omega (arith, ints, room, fewer n k)

pub late_by : (v time S : ℤ) (w W x : ℕ) → v ≤ℤ time → (S +ℤ (time *ℤ pos w)) ≤ℤ (((time *ℤ pos W) +ℤ (v *ℤ pos w)) +ℤ pos x) → S ≤ℤ ((time *ℤ pos W) +ℤ pos x)
late_by v time S w W x within rest = omega (arith, ints, rest, scaled_le v time w within)

behind_by : (v d S : ℤ) (w m W x c : ℕ) → d ≤ℤ (v +ℤ pos c) → w + m ≡ W → (S +ℤ (d *ℤ pos w)) ≤ℤ (((d *ℤ pos W) +ℤ (v *ℤ pos w)) +ℤ pos x)
    → S ≤ℤ ((v *ℤ pos W) +ℤ pos (m * c + x))
behind_by v d S w m W x c short all rest =
    let deadline : d *ℤ pos W ≡ (d *ℤ pos w) +ℤ (d *ℤ pos m) = ap (λ (y : ℕ). d *ℤ pos y) (sym all) ∙ scaled_sum d w m in
    let runtime : v *ℤ pos W ≡ (v *ℤ pos w) +ℤ (v *ℤ pos m) = ap (λ (y : ℕ). v *ℤ pos y) (sym all) ∙ scaled_sum v w m in
    omega (arith, ints, rest, deadline, runtime, scaled_le d (v +ℤ pos c) m short, sum_scaled v (pos c) m)

ahead_by : (a S : ℤ) (w m W c : ℕ) → w + m ≡ W → (a +ℤ pos (w * c)) ≤ℤ (S +ℤ pos (W * c)) → a ≤ℤ (S +ℤ pos (m * c))
ahead_by a S w m W c all h =
    let parts : (w + m) * c ≡ W * c = ap (λ (x : ℕ). x * c) all in
    omega (arith, ints, h, parts)

pub itself : (d : ℤ) → d ≤ℤ d
itself d = omega (arith, ints)

module _ (ns : ℕ) (front : ℤ) (Guard : Entry → Type 0) (Kept : ℕ → Entry → Type 0) (keeps : Keeps Kept) (tasks : Tasks)
    (w : IsWithin (rule_of ns front Guard Kept keeps) tasks) (t : ℕ) (e : Entry) (here : get tasks t ≡ Some e) where
  all_weight : weight_of e.nice + weight_of_others tasks e ≡ total_weight tasks
  all_weight = let h = no_heavier tasks t e here in omega (arith, h)

  pub rest_after : (time : ℤ) → front ≤ℤ time → e.d ≤ℤ time → IsNotLateWithRest ns tasks time e
  rest_after time later due =
      rest_by e.v time (total_moment tasks) (weight_of e.nice) (total_weight tasks) (len tasks) (1024 * ns) (has_room ns time tasks t e (w.past time later t e here tt due) here)

  pub late_after : (time : ℤ) → front ≤ℤ time → e.d ≤ℤ time → IsNotLate ns tasks time
  late_after time later due =
      late_by e.v time (total_moment tasks) (weight_of e.nice) (total_weight tasks) (turns_of_others ns tasks) (w.within time later t e here due) (rest_after time later due)

  pub ahead_now : Guard e → IsNotAhead ns tasks e
  ahead_now so =
      ahead_by (e.v *ℤ pos (total_weight tasks)) (total_moment tasks) (weight_of e.nice) (weight_of_others tasks e) (total_weight tasks) (charge_of ns (weight_of e.nice))
      all_weight (w.ahead t e here so)

  pub punctual_now : front ≤ℤ e.d → IsPunctual ns tasks e
  punctual_now later = record {
    past = w.past e.d later t e here tt (itself e.d);
    late = late_after e.d later (itself e.d);
    rest = rest_after e.d later (itself e.d);
    behind = λ so. behind_by e.v e.d (total_moment tasks) (weight_of e.nice) (weight_of_others tasks e) (total_weight tasks) (turns_of_others ns tasks)
        (request_of e.nice e.slice) so all_weight (rest_after e.d later (itself e.d));
  }

-- each task is fair where no deadline lies before the front, and none is longer than a request
pub fair : (ns : ℕ) (front : ℤ) (tasks : Tasks) → IsWithin (settled ns front Everyone) tasks → (t : ℕ) (e : Entry) → get tasks t ≡ Some e → IsFair ns tasks e
fair ns front tasks w t e here =
    let kept = w.kept t e here in
    let punctual : IsPunctual ns tasks e = punctual_now ns front Everyone _ _ tasks w t e here kept.0 in
    record {
      past = punctual.past;
      late = punctual.late;
      rest = punctual.rest;
      behind = punctual.behind kept.1;
      owed = owed ns tasks (λ u f found. w.ahead u f found tt) t e here;
      ahead = ahead_now ns front Everyone _ _ tasks w t e here tt;
    }
