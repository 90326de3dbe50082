-- Where no task is far past a time, all together aren't far past it.
use Rattle.std.proofs.Common.{◌≡◌, ℕ, suc, ◌+◌, ◌*◌, ◌≤◌, List, [], ◌∷◌, length, Some, sym, subst, arith}
use Rattle.std.specs.Prelude.{ℤ, pos, ◌+ℤ◌, ◌-ℤ◌, ◌*ℤ◌, ◌≤ℤ◌}
use Rattle.std.specs.FinMap.{get, entries, len, len-entries}
use Rattle.std.proofs.lemmas.Int.{ints}
use Rattle.eevdf_weight.specs.{Weight.weight_of, Charge.charge_of}
use Rattle.eevdf_queue.specs.declared.entry.Entry.{Entry}
use Rattle.eevdf_queue.specs.Sums.{Tasks, sum_weights, sum_moments, total_weight, total_moment}
use Rattle.eevdf_queue.proofs.Scaled.{sum_scaled, scaled_sum, scaled_le}
use Rattle.eevdf_fairness.specs.Fair.{NoneIsFarPast}
use Rattle.eevdf_fairness.proofs.EntrySums.{each, sum_of, one_of}
use Rattle.eevdf_fairness.proofs.Growing.{rounded_down}

-- what is left of a turn, in weight times virtual time, that a task may be past a time
abbrev room : ℤ → ℕ → Entry → ℤ
room time k e = pos k -ℤ ((e.v *ℤ pos (weight_of e.nice)) -ℤ (time *ℤ pos (weight_of e.nice)))

one_room : (v time : ℤ) (w c k : ℕ) → v ≤ℤ (time +ℤ pos c) → c * w ≤ k → pos 0 ≤ℤ (pos k -ℤ ((v *ℤ pos w) -ℤ (time *ℤ pos w)))
one_room v time w c k h little = omega (arith, ints, scaled_le v (time +ℤ pos c) w h, sum_scaled time (pos c) w, little)

one_more : (v time M R : ℤ) (w k n c : ℕ) → R ≡ pos (c * k) -ℤ (M -ℤ (time *ℤ pos n))
    → (pos k -ℤ ((v *ℤ pos w) -ℤ (time *ℤ pos w))) +ℤ R ≡ pos (suc c * k) -ℤ (((v *ℤ pos w) +ℤ M) -ℤ (time *ℤ pos (w + n)))
one_more v time M R w k n c h = omega (arith, ints, h, scaled_sum time w n)

rooms_are : (time : ℤ) (k : ℕ) (es : List (ℕ × Entry))
    → sum_of (room time k) es ≡ pos (length es * k) -ℤ (sum_moments es -ℤ (time *ℤ pos (sum_weights es)))
rooms_are time k [] = omega (arith, ints)
rooms_are time k (e ∷ es) =
    one_more e.1.v time (sum_moments es) (sum_of (room time k) es) (weight_of e.1.nice) k (sum_weights es) (length es) (rooms_are time k es)

-- the room of a task is no more than that of all
pub has_room : (ns : ℕ) (time : ℤ) (tasks : Tasks) (t : ℕ) (e : Entry) → NoneIsFarPast ns tasks time → get tasks t ≡ Some e
    → (pos (1024 * ns) -ℤ ((e.v *ℤ pos (weight_of e.nice)) -ℤ (time *ℤ pos (weight_of e.nice))))
    ≤ℤ (pos (len tasks * (1024 * ns)) -ℤ (total_moment tasks -ℤ (time *ℤ pos (total_weight tasks))))
has_room ns time tasks t e h here =
    subst (λ (n : ℕ). room time (1024 * ns) e ≤ℤ (pos (n * (1024 * ns)) -ℤ (total_moment tasks -ℤ (time *ℤ pos (total_weight tasks)))))
    (sym (len-entries tasks))
    (subst (λ (z : ℤ). room time (1024 * ns) e ≤ℤ z) (rooms_are time (1024 * ns) (entries tasks))
    (one_of (room time (1024 * ns)) tasks t e
    (each (λ f. pos 0 ≤ℤ room time (1024 * ns) f) tasks
    (λ u f found. one_room f.v time (weight_of f.nice) (charge_of ns (weight_of f.nice)) (1024 * ns) (h u f found) (rounded_down ns (weight_of f.nice))))
    here))
