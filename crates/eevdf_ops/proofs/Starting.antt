-- What a setup without a fault gives for each task, and where a task isn't yet while the tasks begin.
use Rattle.std.proofs.Common.{◌≡◌, ◌≢◌, ℕ, zero, suc, ◌+◌, ◌<◌, Bool, true, false, cond, List, [], ◌∷◌, length, get_or, set, sym, subst, ap, ◌∙◌, arith}
use Rattle.std.specs.Prelude.{Some, None, nat_lt, ◌==◌, replicate}
use Rattle.std.specs.{Ordering.nat_cmp, Ordering.eq_by_cmp, Cmp.nat_cmp_total, Cmp.unsigned_tied}
use Rattle.std.specs.FinMap as finite
use Rattle.std.proofs.lemmas.Bool.Decides.{nat_tests}
use Rattle.eevdf_queue.specs.Leaving.{IsNowhere}
use Rattle.eevdf_queue.specs.State.{State, Contents, empty_state}
use Rattle.eevdf_ops.specs.declared.task_spec.TaskSpec.{TaskSpec}
use Rattle.eevdf_ops.specs.Faults.{starts_in_range, task_fault, tasks_fault}
use Rattle.eevdf_ops.specs.Machine.{Machine, queue_at, joined, beginner, begin_at_homes}
use Rattle.eevdf_ops.proofs.SetupFaults.{or_none_left, or_none_right, passes}

-- what is known of a task that has no fault
pub record BeginsWell (cpus : ℕ) (t : TaskSpec) : Type 0 where
  pub at_home : nat_lt t.home cpus ≡ true
  pub in_range : starts_in_range t ≡ true

pub begins_well : (cpus place : ℕ) (t : TaskSpec) → task_fault cpus place t ≡ None → BeginsWell cpus t
begins_well cpus place t e = record {
  at_home = passes _ _ (or_none_left _ _ e);
  in_range = passes _ _ (or_none_right _ _ e);
}

pub each_begins_well : (cpus place : ℕ) (ts : List TaskSpec) → tasks_fault cpus place ts ≡ None → (k : ℕ) (d : TaskSpec) → k < length ts → BeginsWell cpus (get_or ts k d)
each_begins_well cpus place [] e k d h = absurd (omega arith)
each_begins_well cpus place (t ∷ ts) e zero d h = begins_well cpus place t (or_none_left _ _ e)
each_begins_well cpus place (t ∷ ts) e (suc k) d h =
    each_begins_well cpus (place + 1) ts (or_none_right (task_fault cpus place t) _ e) k d (omega arith)

not_equal : (k j : ℕ) → k ≢ j → (k == j) ≡ false
not_equal k j apart = grind (arith, nat_tests)

pub get_other : {X : Type 0} (m : finite.FinMap nat_cmp X) (j k : ℕ) (v : X) → k ≢ j → finite.get m k ≡ None → finite.get (finite.insert m j v) k ≡ None
get_other m j k v apart e = let no : eq_by_cmp nat_cmp k j ≡ false = unsigned_tied k j ∙ not_equal k j apart in
    finite.get-insert nat_cmp_total m j v k ∙ ap (λ (b : Bool). cond b (Some v) (finite.get m k)) no ∙ e

absent_join : (asleep : Bool) (p : Contents) (k : ℕ) (q : State) → k ≢ p.task → IsNowhere q k → IsNowhere (joined asleep p q) k
absent_join true p k q apart a = record { not_runnable = a.not_runnable; not_asleep = get_other q.asleep p.task k _ apart a.not_asleep }
absent_join false p k q apart a = record { not_runnable = get_other q.runnable p.task k _ apart a.not_runnable; not_asleep = a.not_asleep }

pub absent_nowhere : (k : ℕ) → IsNowhere empty_state k
absent_nowhere k = record { not_runnable = finite.get-empty nat_cmp k; not_asleep = finite.get-empty nat_cmp k }

absent_set : (m : Machine) (c h k : ℕ) (q : State) → IsNowhere (queue_at m c) k → IsNowhere q k → IsNowhere (queue_at (set m h q) c) k
absent_set [] c h k q a b = absent_nowhere k
absent_set (x ∷ m) zero zero k q a b = b
absent_set (x ∷ m) zero (suc h) k q a b = a
absent_set (x ∷ m) (suc c) zero k q a b = a
absent_set (x ∷ m) (suc c) (suc h) k q a b = absent_set m c h k q a b

pub absent_empty : (n c k : ℕ) → IsNowhere (queue_at (replicate n empty_state) c) k
absent_empty zero c k = absent_nowhere k
absent_empty (suc n) zero k = absent_nowhere k
absent_empty (suc n) (suc c) k = absent_empty n c k

-- while the tasks from a number on have begun, no lower number stands anywhere
pub absent_before : (n task : ℕ) (ts : List TaskSpec) (c k : ℕ) → k < task → IsNowhere (queue_at (begin_at_homes task ts (replicate n empty_state)) c) k
absent_before n task [] c k h = absent_empty n c k
absent_before n task (t ∷ ts) c k h =
    let rest : (c : ℕ) → IsNowhere (queue_at (begin_at_homes (task + 1) ts (replicate n empty_state)) c) k = λ c. absent_before n (task + 1) ts c k (omega arith) in
    absent_set _ c t.home k _ (rest c) (absent_join t.asleep (beginner task t) k _ (omega arith) (rest t.home))

-- what is known of the task at a place that was read
pub begins_well_at : (cpus : ℕ) (ts : List TaskSpec) (k : ℕ) (t : TaskSpec) → tasks_fault cpus 0 ts ≡ None → k < length ts → t ≡ get_or ts k t → BeginsWell cpus t
begins_well_at cpus ts k t well h e = subst (λ (u : TaskSpec). BeginsWell cpus u) (sym e) (each_begins_well cpus 0 ts well k t h)
