-- Where there is a task, some task is eligible at the sums over the tasks.
use Rattle.std.proofs.Common.{◌≡◌, ℕ, Bool, true, false, cond, List, [], ◌∷◌, ◌++◌, Option, Some, None, refl, sym, ap, ◌∙◌}
use Rattle.std.specs.{Prelude.ℤ, Prelude.is_some, Option.option_map, Ordering.nat_cmp}
use Rattle.std.specs.FinMap.{FinMap, empty, entries, get, get-empty}
use Rattle.eevdf_queue.specs.{declared.entry.Entry.Entry, declared.task.Task.Task, Order.earliest, Order.earlier, Pick.is_eligible_at}
use Rattle.eevdf_queue.specs.TaskLists.{find_task, entries_of, runnable_in, AreRunnable}
use Rattle.eevdf_queue.specs.{TreeTasks.first_that, Sums.total_weight, Sums.total_moment}
use Rattle.eevdf_queue.proofs.{Picked.first_is_pick, Picked.none_picked, RunnableMaps.get-runnable_in, RunnableMaps.earliest-runnable_in}
use Rattle.eevdf_queue.proofs.TreeSeen.{itself}

none_step : (b : Bool) (t : Task) (o : Option Task) (a : ℕ × Entry) (p : Option (ℕ × Entry)) → (o ≡ None → p ≡ None) → cond b (Some t) o ≡ None
    → cond b (Some (earlier a p)) p ≡ None
none_step true t o a p k h = cc
none_step false t o a p k h = k h

none_earliest : (passes : Entry → Bool) (ts : List Task) → first_that passes ts ≡ None → earliest passes (entries_of ts) ≡ None
none_earliest passes [] h = refl
none_earliest passes (t ∷ ts) h =
    none_step (passes t.entry) t (first_that passes ts) (t.number, t.entry) (earliest passes (entries_of ts)) (none_earliest passes ts) h

no_tasks : (ts : List Task) → runnable_in ts ≡ empty → ts ≡ []
no_tasks [] h = refl
no_tasks (t ∷ ts) h =
    let own : get (runnable_in (t ∷ ts)) t.number ≡ Some t.entry =
    get-runnable_in (t ∷ ts) t.number ∙ ap (λ b. option_map (λ (u : Task). u.entry) (cond b (Some t) (find_task t.number ts))) (itself t.number) in
    let none : get (runnable_in (t ∷ ts)) t.number ≡ None = ap (λ (z : FinMap nat_cmp Entry). get z t.number) h ∙ get-empty nat_cmp t.number in cc

pub someone_eligible : (ts : List Task) (m : FinMap nat_cmp Entry) (w : ℕ) (s : ℤ) → AreRunnable ts → runnable_in ts ≡ m → w ≡ total_weight m → s ≡ total_moment m
    → first_that (is_eligible_at w s) ts ≡ None → ts ≡ []
someone_eligible ts m w s r v h k e =
    let none : earliest (is_eligible_at w s) (entries m) ≡ None =
    ap (λ (z : FinMap nat_cmp Entry). earliest (is_eligible_at w s) (entries z)) (sym v) ∙ earliest-runnable_in (is_eligible_at w s) ts r ∙ none_earliest (is_eligible_at w s) ts e in
    let number : None ≡ option_map (λ (a : ℕ × Entry). a.0) (earliest (is_eligible_at w s) (entries m)) = ap (option_map (λ (a : ℕ × Entry). a.0)) (sym none) in
    no_tasks ts (v ∙ (none_picked m None (first_is_pick m None w s h k number)).0 refl)

filled : (xs : List Task) (u : Task) (ys : List Task) → xs ++ u ∷ ys ≡ [] → ⊥
filled [] u ys h = cc
filled (x ∷ xs) u ys h = cc

some_of : (xs : List Task) (u : Task) (ys : List Task) (o : Option Task) → (o ≡ None → xs ++ u ∷ ys ≡ []) → is_some o ≡ true
some_of xs u ys None h = absurd (filled xs u ys (h refl))
some_of xs u ys (Some t) h = refl

-- so it is among the tasks of a node
pub someone_there : (passes : Entry → Bool) (ts xs : List Task) (u : Task) (ys : List Task) → ts ≡ xs ++ u ∷ ys → (first_that passes ts ≡ None → ts ≡ [])
    → is_some (first_that passes ts) ≡ true
someone_there passes ts xs u ys e h = some_of xs u ys (first_that passes ts) (λ k. sym e ∙ h k)
