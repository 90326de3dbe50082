-- What the store of runnable tasks keeps when they are lowered by a number in virtual time.
use Rattle.std.proofs.Common.{◌≡◌, ℕ, ◌<◌, ◌^◌, ◌≤◌, true, List, length, Option, Some, None, refl, sym, subst, ap, ◌∙◌}
use Rattle.std.specs.{Prelude.ℤ, Prelude.pos, Prelude.◌-ℤ◌, Prelude.◌*ℤ◌, Prelude.unsigned_abs, Prelude.neg_ℤ, Option.option_map, FinMap.get}
use Rattle.eevdf_queue.specs.{declared.task.Task.Task, declared.tree.totals.Totals.Totals, declared.tree.picked_task.PickedTask.PickedTask}
use Rattle.eevdf_queue.specs.{Numbers.number_limit, Sums.sum_weights, Sums.sum_moments, Pick.pick_of, NodeDepths.depths_by_number, TreeShape.Tree, TreeShape.IsFull}
use Rattle.eevdf_queue.specs.TaskLists.{has_number, find_task, entries_of, runnable_in, AreRunnable}
use Rattle.eevdf_queue.specs.TreeStores.{kept_at, timeless, AreTotals, IsKnown, IsPickAt, IsStillPick, IsRunnableTasks}
use Rattle.eevdf_queue.specs.TreeLowering.{lowered_task, lowered_list, are_tasks_in_range, noted_or}
use Rattle.eevdf_queue.proofs.LoweredLists.{find-lowered, length-lowered, runnable_lowered, noted_all, back_list, missed}
use Rattle.eevdf_queue.proofs.LoweredMaps.{weights-lowered, moments-lowered, entries_of-lowered, seen-lowered, pick-lowered}
use Rattle.eevdf_queue.proofs.{Bounds.within, Bounds.range_v, AllTasks.all-found, TreeMaps.InRange, TreeMaps.all_in_range}

-- the sums
totals_lowered : (by : ℤ) (s r : Totals) (ts us : List Task) → AreTotals s ts → us ≡ lowered_list by ts → r.weight ≡ s.weight → r.moment ≡ s.moment -ℤ (by *ℤ pos s.weight) → AreTotals r us
totals_lowered by s r ts us a e h k = record {
  weight =
      h ∙ a.weight ∙ sym (weights-lowered by (entries_of ts)) ∙ ap sum_weights (sym (entries_of-lowered by ts)) ∙ ap (λ (z : List Task). sum_weights (entries_of z)) (sym e);
  moment =
      k
      ∙ ap (λ (z : ℤ). z -ℤ (by *ℤ pos s.weight)) a.moment
      ∙ ap (λ (n : ℕ). sum_moments (entries_of ts) -ℤ (by *ℤ pos n)) a.weight
      ∙ sym (moments-lowered by (entries_of ts)) ∙ ap sum_moments (sym (entries_of-lowered by ts)) ∙ ap (λ (z : List Task). sum_moments (entries_of z)) (sym e);
}

-- the task that was picked last
timeless_lowered : (by v nice : ℤ) (slice : ℕ) (o : Option Task) → option_map timeless o ≡ Some (v, nice, slice)
    → option_map timeless (option_map (lowered_task by) o) ≡ Some (v -ℤ by, nice, slice)
timeless_lowered by v nice slice None h = cc
timeless_lowered by v nice slice (Some t) h =
    let same : timeless t ≡ (v, nice, slice) = cc in
    ap (λ (z : ℤ × ℤ × ℕ). Some (z.0 -ℤ by, z.1, z.2)) same

known_lowered : (by : ℤ) (p p' : PickedTask) (ts us : List Task) → IsKnown p ts → us ≡ lowered_list by ts → p'.number ≡ p.number
    → (p.number < number_limit → p'.runtime ≡ p.runtime -ℤ by) → p'.nice ≡ p.nice → p'.slice ≡ p.slice → IsKnown p' us
known_lowered by p p' ts us k e n v i s = λ below.
    let there : p.number < number_limit = subst (λ (z : ℕ). z < number_limit) n below in
    ap (λ (z : List Task). option_map timeless (find_task p'.number z)) e
    ∙ ap (λ (z : ℕ). option_map timeless (find_task z (lowered_list by ts))) n
    ∙ ap (option_map timeless) (find-lowered by p.number ts)
    ∙ timeless_lowered by p.runtime p.nice p.slice (find_task p.number ts) (k there)
    ∙ ap (λ (z : ℤ). Some (z, p.nice, p.slice)) (sym (v there))
    ∙ ap (λ (z : ℤ). Some (p'.runtime, z, p.slice)) (sym i)
    ∙ ap (λ (z : ℕ). Some (p'.runtime, p'.nice, z)) (sym s)

runtime_within : (ts : List Task) (q : ℕ) (v nice : ℤ) (slice : ℕ) (o : Option Task) → AreRunnable ts → find_task q ts ≡ o → option_map timeless o ≡ Some (v, nice, slice) → unsigned_abs v ≤ 2 ^ 60
runtime_within ts q v nice slice None r f h = cc
runtime_within ts q v nice slice (Some t) r f h =
    let same : timeless t ≡ (v, nice, slice) = cc in
    subst (λ (z : ℤ). unsigned_abs z ≤ 2 ^ 60) (ap (λ (z : ℤ × ℤ × ℕ). z.0) same)
    (within t.entry.v (range_v t.entry (all-found InRange (has_number q) ts t (all_in_range ts r) f)))

pub known_within : (table : List ℤ) (s : Totals) (p : PickedTask) (tree : Tree) → IsRunnableTasks table s p tree → p.number < number_limit → unsigned_abs p.runtime ≤ 2 ^ 60
known_within table s p tree k below =
    runtime_within tree.tasks p.number p.runtime p.nice p.slice (find_task p.number tree.tasks) k.store.runnable refl (k.picked below)

pick_lowered : (by : ℤ) (p p' : PickedTask) (tree tree' : Tree) → IsStillPick p tree → tree'.tasks ≡ lowered_list by tree.tasks → tree'.depths ≡ tree.depths
    → p'.number ≡ p.number → p'.depth ≡ p.depth → IsStillPick p' tree'
pick_lowered by p p' tree tree' k e d n t = λ below some.
    let at = k (subst (λ (z : ℕ). z < number_limit) n below) (subst (λ (z : ℕ). 1 ≤ z) t some) in
    subst (λ (z : ℕ). IsPickAt z p'.depth tree') (sym n)
    (subst (λ (z : ℕ). IsPickAt p.number z tree') (sym t)
    (record {
      pick = ap (λ (z : List Task). pick_of (runnable_in z)) e ∙ ap pick_of (seen-lowered by tree.tasks) ∙ pick-lowered by (runnable_in tree.tasks) ∙ at.pick;
      depth = ap (λ z. get (depths_by_number z) p.number) d ∙ at.depth;
      low = subst (λ (z : ℕ). IsFull p.depth z) (sym (ap (λ (z : List Task). length z) e ∙ length-lowered by tree.tasks)) at.low;
    }))

-- the whole store, where all stay in range
pub store_lowered : (by : ℤ) (table table' : List ℤ) (s r : Totals) (p p' : PickedTask) (tree tree' : Tree) → IsRunnableTasks table s p tree
    → tree'.tasks ≡ lowered_list by tree.tasks → tree'.depths ≡ tree.depths → are_tasks_in_range tree'.tasks ≡ true
    → ((q : ℕ) → kept_at table' q ≡ noted_or (kept_at table q) (find_task q tree'.tasks))
    → r.weight ≡ s.weight → r.moment ≡ s.moment -ℤ (by *ℤ pos s.weight)
    → (p.number < number_limit → p'.runtime ≡ p.runtime -ℤ by) → p'.number ≡ p.number → p'.nice ≡ p.nice → p'.slice ≡ p.slice → p'.depth ≡ p.depth
    → IsRunnableTasks table' r p' tree'
store_lowered by table table' s r p p' tree tree' k e d range noted w m v n i l t =
    let runnable : AreRunnable tree'.tasks =
    subst AreRunnable (sym e) (runnable_lowered by tree.tasks k.store.runnable (ap are_tasks_in_range (sym e) ∙ range)) in
    record {
      store = record { runnable = runnable; noted = noted_all table table' tree'.tasks runnable noted };
      totals = totals_lowered by s r tree.tasks tree'.tasks k.totals e w m;
      picked = known_lowered by p p' tree.tasks tree'.tasks k.picked e n v i l;
      pick = pick_lowered by p p' tree tree' k.pick e d n t;
    }

-- and where they were lowered and lowered back
pub tasks_back : (by : ℤ) (ts us vs : List Task) → us ≡ lowered_list by ts → vs ≡ lowered_list (neg_ℤ by) us → vs ≡ ts
tasks_back by ts us vs e f = f ∙ ap (lowered_list (neg_ℤ by)) e ∙ back_list by ts

pub store_back : (table table' : List ℤ) (s : Totals) (p : PickedTask) (tree tree' : Tree) → IsRunnableTasks table s p tree → tree'.tasks ≡ tree.tasks → tree'.depths ≡ tree.depths
    → ((q : ℕ) → kept_at table' q ≡ noted_or (kept_at table q) (find_task q tree'.tasks)) → IsRunnableTasks table' s p tree'
store_back table table' s p tree tree' k e d noted =
    let runnable : AreRunnable tree'.tasks = subst AreRunnable (sym e) k.store.runnable in
    record {
      store = record { runnable = runnable; noted = noted_all table table' tree'.tasks runnable noted };
      totals = subst (AreTotals s) (sym e) k.totals;
      picked = subst (IsKnown p) (sym e) k.picked;
      pick = λ below some.
          let at = k.pick below some in
          record {
            pick = ap (λ (z : List Task). pick_of (runnable_in z)) e ∙ at.pick;
            depth = ap (λ z. get (depths_by_number z) p.number) d ∙ at.depth;
            low = subst (λ (z : ℕ). IsFull p.depth z) (sym (ap (λ (z : List Task). length z) e)) at.low;
          };
    }

-- the table after two walks
twice_by : (d d' d'' : ℤ) (o o' : Option Task) → d' ≡ noted_or d o → d'' ≡ noted_or d' o' → (o' ≡ None → o ≡ None) → d'' ≡ noted_or d o'
twice_by d d' d'' o None h k missed = k ∙ h ∙ ap (noted_or d) (missed refl)
twice_by d d' d'' o (Some t) h k missed = k

pub noted_twice : (by : ℤ) (q : ℕ) (d d' d'' : ℤ) (ts us vs : List Task) → us ≡ lowered_list by ts → vs ≡ ts → d' ≡ noted_or d (find_task q us) → d'' ≡ noted_or d' (find_task q vs)
    → d'' ≡ noted_or d (find_task q vs)
noted_twice by q d d' d'' ts us vs e f h k =
    twice_by d d' d'' (find_task q us) (find_task q vs) h k
    (λ none. ap (find_task q) e ∙ missed by q ts (ap (find_task q) (sym f) ∙ none))
