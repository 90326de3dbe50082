-- Where no task is far ahead, none is owed more than the turns of the others.
use Rattle.std.proofs.Common.{◌≡◌, ℕ, suc, ◌+◌, ◌-◌, ◌*◌, ◌≤◌, List, [], ◌∷◌, length, Some, sym, ap, subst, arith}
use Rattle.std.specs.Prelude.{ℤ, pos, ◌+ℤ◌, ◌-ℤ◌, ◌*ℤ◌, ◌≤ℤ◌}
use Rattle.std.specs.FinMap.{get, entries, len, len-entries}
use Rattle.std.proofs.lemmas.Int.{ints}
use Rattle.eevdf_weight.specs.{Weight.weight_of, Charge.charge_of}
use Rattle.eevdf_queue.specs.declared.entry.Entry.{Entry}
use Rattle.eevdf_queue.specs.Sums.{Tasks, sum_weights, sum_moments, total_weight, total_moment}
use Rattle.eevdf_queue.proofs.Scaled.{sum_scaled, scaled_sum, scaled_twice, scaled_le}
use Rattle.eevdf_fairness.specs.Fair.{IsOwedOnlyTurns, weight_of_others}
use Rattle.eevdf_fairness.proofs.{Inequalities.fewer, EntrySums.each, EntrySums.sum_of}
use Rattle.eevdf_fairness.proofs.{EntrySums.one_of, EntrySums.no_heavier, Growing.rounded_down, Rules.IsLittleAhead, Turning.crossed}

-- what is left of the most that a task can be ahead
abbrev slack : ℕ → ℤ → ℕ → Entry → ℤ
slack W S k e =
    (pos (W * k) -ℤ pos (weight_of e.nice * k)) -ℤ (((e.v *ℤ pos (weight_of e.nice)) *ℤ pos W) -ℤ (S *ℤ pos (weight_of e.nice)))

one_slack : (v S : ℤ) (w W c k : ℕ) → w ≤ W → c * w ≤ k → ((v *ℤ pos W) +ℤ pos (w * c)) ≤ℤ (S +ℤ pos (W * c))
    → pos 0 ≤ℤ ((pos (W * k) -ℤ pos (w * k)) -ℤ (((v *ℤ pos w) *ℤ pos W) -ℤ (S *ℤ pos w)))
one_slack v S w W c k light little h =
    omega (
      arith,
      ints,
      scaled_le ((v *ℤ pos W) +ℤ pos (w * c)) (S +ℤ pos (W * c)) w h,
      sum_scaled (v *ℤ pos W) (pos (w * c)) w,
      sum_scaled S (pos (W * c)) w,
      scaled_twice v W w,
      crossed (c * w) k w W little light,
    )

one_more : (v S M R : ℤ) (w W k n c : ℕ) → R ≡ (pos (c * (W * k)) -ℤ pos (n * k)) -ℤ ((M *ℤ pos W) -ℤ (S *ℤ pos n))
    → ((pos (W * k) -ℤ pos (w * k)) -ℤ (((v *ℤ pos w) *ℤ pos W) -ℤ (S *ℤ pos w))) +ℤ R
    ≡ (pos (suc c * (W * k)) -ℤ pos ((w + n) * k)) -ℤ ((((v *ℤ pos w) +ℤ M) *ℤ pos W) -ℤ (S *ℤ pos (w + n)))
one_more v S M R w W k n c h = omega (arith, ints, h, sum_scaled (v *ℤ pos w) M W, scaled_sum S w n)

slack_is : (W : ℕ) (S : ℤ) (k : ℕ) (es : List (ℕ × Entry))
    → sum_of (slack W S k) es ≡ (pos (length es * (W * k)) -ℤ pos (sum_weights es * k)) -ℤ ((sum_moments es *ℤ pos W) -ℤ (S *ℤ pos (sum_weights es)))
slack_is W S k [] = omega (arith, ints)
slack_is W S k (e ∷ es) =
    one_more e.1.v S (sum_moments es) (sum_of (slack W S k) es) (weight_of e.1.nice) W k (sum_weights es) (length es) (slack_is W S k es)

owed_by : (v S : ℤ) (w m W n k : ℕ) → w + m ≡ W
    → ((pos (W * k) -ℤ pos (w * k)) -ℤ (((v *ℤ pos w) *ℤ pos W) -ℤ (S *ℤ pos w))) ≤ℤ ((pos (n * (W * k)) -ℤ pos (W * k)) -ℤ ((S *ℤ pos W) -ℤ (S *ℤ pos W)))
    → ((S *ℤ pos w) +ℤ pos (m * k)) ≤ℤ (((v *ℤ pos W) *ℤ pos w) +ℤ pos (W * ((n - 1) * k)))
owed_by v S w m W n k all h =
    let parts : (w + m) * k ≡ W * k = ap (λ (x : ℕ). x * k) all in
    omega (arith, ints, h, parts, fewer n (W * k), scaled_twice v W w)

pub owed : (ns : ℕ) (tasks : Tasks) → ((t : ℕ) (e : Entry) → get tasks t ≡ Some e → IsLittleAhead ns (total_weight tasks) (total_moment tasks) e)
    → (t : ℕ) (e : Entry) → get tasks t ≡ Some e → IsOwedOnlyTurns ns tasks e
owed ns tasks ahead t e here =
    let all : weight_of e.nice + weight_of_others tasks e ≡ total_weight tasks = let h = no_heavier tasks t e here in omega (arith, h) in
    owed_by e.v (total_moment tasks) (weight_of e.nice) (weight_of_others tasks e) (total_weight tasks) (len tasks) (1024 * ns) all
    (subst (λ (n : ℕ). slack (total_weight tasks) (total_moment tasks) (1024 * ns) e
    ≤ℤ ((pos (n * (total_weight tasks * (1024 * ns))) -ℤ pos (total_weight tasks * (1024 * ns)))
    -ℤ ((total_moment tasks *ℤ pos (total_weight tasks)) -ℤ (total_moment tasks *ℤ pos (total_weight tasks)))))
    (sym (len-entries tasks))
    (subst (λ (z : ℤ). slack (total_weight tasks) (total_moment tasks) (1024 * ns) e ≤ℤ z) (slack_is (total_weight tasks) (total_moment tasks) (1024 * ns) (entries tasks))
    (one_of (slack (total_weight tasks) (total_moment tasks) (1024 * ns)) tasks t e
    (each (λ f. pos 0 ≤ℤ slack (total_weight tasks) (total_moment tasks) (1024 * ns) f) tasks
    (λ u f found. one_slack f.v (total_moment tasks) (weight_of f.nice) (total_weight tasks) (charge_of ns (weight_of f.nice)) (1024 * ns)
    (no_heavier tasks u f found) (rounded_down ns (weight_of f.nice)) (ahead u f found)))
    here)))
