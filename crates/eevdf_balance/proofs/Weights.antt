-- Sums over the runnable tasks of a CPU, taken of each task's weight: a task taken first, and one that changes while its weight stays.
use Rattle.std.proofs.Common.{◌≡◌, ◌≢◌, ℕ, ◌+◌, Bool, true, false, cond, List, [], ◌∷◌, refl, sym, ap, ◌∙◌, arith}
use Rattle.std.specs.Prelude.{◌==◌, Some, None}
use Rattle.std.specs.{Ordering.nat_cmp, Ordering.eq_by_cmp, Cmp.nat_cmp_total, Cmp.unsigned_tied}
use Rattle.std.specs.FinMap.{get, insert, remove, entries, get-insert, get-remove, same_map, nat_cmp-IsAntisymmetric}
use Rattle.eevdf_weight.specs.Weight.{weight_of}
use Rattle.eevdf_queue.specs.{declared.entry.Entry.Entry, Sums.Tasks, Sums.sum_weights, Sums.total_weight}
use Rattle.eevdf_queue.proofs.{MapFolds.fold-insert, Sound.gone}
use Rattle.eevdf_ops.proofs.{Loads.restored, MapCounts.equal, MapCounts.itself}

-- a sum of numbers, one for each task
abbrev pub sum_of : (Entry → ℕ) → List (ℕ × Entry) → ℕ
sum_of f [] = 0
sum_of f (e ∷ es) = f e.1 + sum_of f es

abbrev pub sum_over : (Entry → ℕ) → Tasks → ℕ
sum_over f tasks = sum_of f (entries tasks)

weights_by : (es : List (ℕ × Entry)) → sum_of (λ e. weight_of e.nice) es ≡ sum_weights es
weights_by [] = refl
weights_by (e ∷ es) = ap (λ (n : ℕ). weight_of e.1.nice + n) (weights_by es)

pub weights : (tasks : Tasks) → sum_over (λ e. weight_of e.nice) tasks ≡ total_weight tasks
weights tasks = weights_by (entries tasks)

-- a task taken first
pub sum-added : (f : Entry → ℕ) (tasks : Tasks) (t : ℕ) (e : Entry) → get tasks t ≡ None → sum_over f (insert tasks t e) ≡ f e + sum_over f tasks
sum-added f tasks t e none = fold-insert (sum_of f) (λ a n. f a.1 + n) (λ a es. refl) (λ a b x ne. omega arith) tasks t e none

pub sum-first : (f : Entry → ℕ) (tasks : Tasks) (t : ℕ) (e : Entry) → get tasks t ≡ Some e → sum_over f tasks ≡ f e + sum_over f (remove tasks t)
sum-first f tasks t e here = ap (sum_over f) (sym (restored tasks t e here)) ∙ sum-added f (remove tasks t) t e (gone tasks t)

pub weight-first : (tasks : Tasks) (t : ℕ) (e : Entry) → get tasks t ≡ Some e → total_weight tasks ≡ weight_of e.nice + total_weight (remove tasks t)
weight-first tasks t e here =
    sym (weights tasks) ∙ sum-first (λ x. weight_of x.nice) tasks t e here ∙ ap (λ (n : ℕ). weight_of e.nice + n) (weights (remove tasks t))

-- another task is still there
kept_at : (tasks : Tasks) (t u : ℕ) (b : Bool) → b ≡ false → cond b None (get tasks u) ≡ get tasks u
kept_at tasks t u false h = refl
kept_at tasks t u true h = cc

apart_by : (t u : ℕ) (b : Bool) → (u == t) ≡ b → t ≢ u → b ≡ false
apart_by t u false e ne = refl
apart_by t u true e ne = absurd (ne (sym (equal u t e)))

pub still : (tasks : Tasks) (t u : ℕ) → t ≢ u → get (remove tasks t) u ≡ get tasks u
still tasks t u ne =
    get-remove nat_cmp_total tasks t u ∙ ap (λ (b : Bool). cond b None (get tasks u)) (unsigned_tied u t) ∙ kept_at tasks t u (u == t) (apart_by t u (u == t) refl ne)

-- what is written at a number is taken out with it
emptied : (m : Tasks) (k u : ℕ) (v : Entry) (b : Bool) → cond b None (cond b (Some v) (get m u)) ≡ cond b None (get m u)
emptied m k u v true = refl
emptied m k u v false = refl

removed-again : (m : Tasks) (k : ℕ) (v : Entry) → remove (insert m k v) k ≡ remove m k
removed-again m k v = same_map nat_cmp_total nat_cmp-IsAntisymmetric _ _ (λ u.
    get-remove nat_cmp_total (insert m k v) k u ∙ ap (λ o. cond (eq_by_cmp nat_cmp u k) None o) (get-insert nat_cmp_total m k v u)
    ∙ emptied m k u v (eq_by_cmp nat_cmp u k) ∙ sym (get-remove nat_cmp_total m k u))

written : (m : Tasks) (k : ℕ) (v : Entry) → get (insert m k v) k ≡ Some v
written m k v = get-insert nat_cmp_total m k v k ∙ ap (λ (b : Bool). cond b (Some v) (get m k)) (unsigned_tied k k ∙ itself k)

-- a task changes, but not its weight
pub weight-kept : (m : Tasks) (t : ℕ) (e f : Entry) → get m t ≡ Some f → e.nice ≡ f.nice → total_weight (insert m t e) ≡ total_weight m
weight-kept m t e f here same =
    weight-first (insert m t e) t e (written m t e)
    ∙ ap (λ (n : Tasks). weight_of e.nice + total_weight n) (removed-again m t e)
    ∙ ap (λ n. weight_of n + total_weight (remove m t)) same
    ∙ sym (weight-first m t f here)
