-- The tasks without one of them, and with another: their number and their sums.
use Rattle.std.proofs.Common.{◌≡◌, ℕ, ◌+◌, ◌-◌, ◌≤◌, suc, zero, cond, Option, Some, None, refl, sym, ap, ◌∙◌, arith}
use Rattle.std.specs.Prelude.{ℤ, pos, ◌+ℤ◌, ◌*ℤ◌, is_some}
use Rattle.std.specs.{Ordering.nat_cmp, Cmp.nat_cmp_total}
use Rattle.std.specs.FinMap.{get, insert, remove, len, get-empty, len-remove, empty_of_len}
use Rattle.std.proofs.lemmas.Int.{ints}
use Rattle.eevdf_weight.specs.Weight.{weight_of}
use Rattle.eevdf_queue.specs.{declared.entry.Entry.Entry, Sums.Tasks, Sums.total_weight, Sums.total_moment}
use Rattle.eevdf_queue.proofs.Sound.{gone}
use Rattle.eevdf_ops.proofs.Loads.{restored}
use Rattle.eevdf_fairness.proofs.{EntrySums.sum_over, EntrySums.sum_added, EntrySums.weight, EntrySums.moment, EntrySums.weights, EntrySums.moments}

-- ---- one more
one_weight : (m n w : ℕ) (A B : ℤ) → A ≡ pos m → B ≡ pos n → A ≡ B +ℤ pos w → m ≡ n + w
one_weight m n w A B h k l = omega (arith, ints, h, k, l)

pub weight_added : (tasks : Tasks) (t : ℕ) (e : Entry) → get tasks t ≡ None → total_weight (insert tasks t e) ≡ total_weight tasks + weight_of e.nice
weight_added tasks t e none =
    one_weight (total_weight (insert tasks t e)) (total_weight tasks) (weight_of e.nice) (sum_over weight (insert tasks t e)) (sum_over weight tasks)
    (weights (insert tasks t e)) (weights tasks) (sum_added weight tasks t e none)

pub moment_added : (tasks : Tasks) (t : ℕ) (e : Entry) → get tasks t ≡ None
    → total_moment (insert tasks t e) ≡ total_moment tasks +ℤ (e.v *ℤ pos (weight_of e.nice))
moment_added tasks t e none =
    sym (moments (insert tasks t e)) ∙ sum_added moment tasks t e none ∙ ap (λ (z : ℤ). z +ℤ moment e) (moments tasks)

-- ---- one fewer
pub weight_removed : (tasks : Tasks) (t : ℕ) (e : Entry) → get tasks t ≡ Some e → total_weight tasks ≡ total_weight (remove tasks t) + weight_of e.nice
weight_removed tasks t e here =
    ap total_weight (sym (restored tasks t e here)) ∙ weight_added (remove tasks t) t e (gone tasks t)

pub moment_removed : (tasks : Tasks) (t : ℕ) (e : Entry) → get tasks t ≡ Some e
    → total_moment tasks ≡ total_moment (remove tasks t) +ℤ (e.v *ℤ pos (weight_of e.nice))
moment_removed tasks t e here =
    ap total_moment (sym (restored tasks t e here)) ∙ moment_added (remove tasks t) t e (gone tasks t)

pub one_fewer : (tasks : Tasks) (t : ℕ) (e : Entry) → get tasks t ≡ Some e → len (remove tasks t) ≡ len tasks - 1
one_fewer tasks t e here =
    len-remove nat_cmp_total tasks t ∙ ap (λ (o : Option Entry). cond (is_some o) (len tasks - 1) (len tasks)) here

-- where a task is there, there is one
pub some_there : (tasks : Tasks) (t : ℕ) (e : Entry) → get tasks t ≡ Some e → 1 ≤ len tasks
some_there tasks t e here =
    by (len tasks) refl
  where
    by : (n : ℕ) → len tasks ≡ n → 1 ≤ n
    by zero is =
        let none : get tasks t ≡ None = ap (λ (m : Tasks). get m t) (empty_of_len tasks is) ∙ get-empty nat_cmp t in
        cc
    by (suc n) is = omega arith
