-- A rebase reads the runnable tasks, the time that stands where there are none, and the shift, and leaves who runs; what else is
-- done leaves such queues alike too.
use Rattle.std.proofs.Common.{◌≡◌, ℕ, ◌==◌, Bool, true, false, ◌&&◌, cond, Option, Some, None, refl, sym, ap, ◌∙◌, subst}
use Rattle.std.specs.Prelude.{ℤ, pos, ◌+ℤ◌}
use Rattle.std.specs.Ordering.{nat_cmp}
use Rattle.std.specs.FinMap.{get, insert, empty, get-empty}
use Rattle.eevdf_weight.specs.{Placement.floor_div}
use Rattle.eevdf_queue.specs.{declared.entry.Entry.Entry, declared.answers.TickAnswer.TickAnswer, State.State, Leaving.leave, Leaving.without_entry, Moves.is_entry_in_range}
use Rattle.eevdf_queue.specs.declared.answers.TickAnswer.TheVariants.{Charged, Range as out_of_range}
use Rattle.eevdf_queue.specs.{Pick.pick_of, Pick.picked_by, Pick.after_pick}
use Rattle.eevdf_queue.specs.Tick.{is_used_up, charged, tick, tick_entry, tick_running}
use Rattle.eevdf_queue.specs.Rebase.{lowered_tasks, is_shift, can_lower, can_rebase, rebased, rebase}
use Rattle.eevdf_queue.specs.Sums.{Tasks, total_weight, total_moment, time_over, virtual_time}
use Rattle.eevdf_queue.proofs.Mean.{no_tasks}
use Rattle.eevdf_ops.proofs.MapCounts.{equal}
use Rattle.eevdf_fairness.specs.Leavings.{HaveSameTimes}
use Rattle.eevdf_fairness.proofs.Growing.{get_here}
use Rattle.eevdf_fairness.proofs.SameRunnable as runnable

pub alike : (q : State) → HaveSameTimes q q
alike q = record { tasks = runnable.alike q; base = λ none. refl; shift = refl }

pub of_same : (q r : State) → q ≡ r → HaveSameTimes q r
of_same q r is = subst (HaveSameTimes q) is (alike q)

pub then : (a b c : State) → HaveSameTimes a b → HaveSameTimes b c → HaveSameTimes a c
then a b c h k = record {
  tasks = runnable.then a b c h.tasks k.tasks;
  base = λ none. h.base none ∙ k.base (sym h.tasks.runnable ∙ none);
  shift = h.shift ∙ k.shift;
}

-- ---- what a tick, a pick and a leaving read
pub filled : (m : Tasks) (t : ℕ) (e : Entry) → get m t ≡ Some e → m ≡ empty → ⊥
filled m t e here none = let gone : None ≡ Some e = sym (get-empty nat_cmp t) ∙ ap (λ (n : Tasks). get n t) (sym none) ∙ here in cc

ticked_to : (q r : State) (t : ℕ) (resched : Bool) (f : Entry) (b : Bool) → HaveSameTimes q r
    → HaveSameTimes ((cond {A = TickAnswer × State} b (Charged t resched, record q { runnable = insert q.runnable t f }) (out_of_range, q)).1)
    ((cond {A = TickAnswer × State} b (Charged t resched, record r { runnable = insert r.runnable t f }) (out_of_range, r)).1)
ticked_to q r t resched f true same = record {
  tasks = runnable.ticked_to q r t resched f true same.tasks;
  base = λ none. absurd (filled (insert q.runnable t f) t f (get_here q.runnable t f) none);
  shift = same.shift;
}
ticked_to q r t resched f false same = same

ticked_entry : (q r : State) (t ns : ℕ) (o : Option Entry) → HaveSameTimes q r → HaveSameTimes (tick_entry q t o ns).1 (tick_entry r t o ns).1
ticked_entry q r t ns None same = same
ticked_entry q r t ns (Some e) same = ticked_to q r t (is_used_up e ns) (charged e ns) (is_entry_in_range (charged e ns)) same

ticked_by : (q r : State) (ns : ℕ) (o : Option ℕ) → HaveSameTimes q r → HaveSameTimes (tick_running q o ns).1 (tick_running r o ns).1
ticked_by q r ns None same = same
ticked_by q r ns (Some t) same =
    subst (λ (o : Option Entry). HaveSameTimes (tick_entry q t (get q.runnable t) ns).1 (tick_entry r t o ns).1) (ap (λ (m : Tasks). get m t) same.tasks.runnable)
    (ticked_entry q r t ns (get q.runnable t) same)

pub ticked : (q r : State) (ns : ℕ) → HaveSameTimes q r → HaveSameTimes (tick q ns).1 (tick r ns).1
ticked q r ns same =
    subst (λ (o : Option ℕ). HaveSameTimes (tick q ns).1 (tick_running r o ns).1) same.tasks.running (ticked_by q r ns q.running same)

picked_to : (q r : State) (o : Option ℕ) → HaveSameTimes q r → HaveSameTimes (picked_by q o) (picked_by r o)
picked_to q r None same = same
picked_to q r (Some t) same = record { tasks = record { runnable = same.tasks.runnable; running = refl }; base = same.base; shift = same.shift }

pub picked : (q r : State) → HaveSameTimes q r → HaveSameTimes (after_pick q) (after_pick r)
picked q r same =
    subst (λ (m : Tasks). HaveSameTimes (after_pick q) (picked_by r (pick_of m))) same.tasks.runnable (picked_to q r (pick_of q.runnable) same)

left_by : (q r : State) (t : ℕ) (o : Option Entry) → HaveSameTimes q r → HaveSameTimes (without_entry q t o) (without_entry r t o)
left_by q r t None same = same
left_by q r t (Some e) same = record { tasks = runnable.left_by q r t (Some e) same.tasks; base = λ none. refl; shift = same.shift }

pub left : (q r : State) (t : ℕ) → HaveSameTimes q r → HaveSameTimes (leave q t) (leave r t)
left q r t same =
    subst (λ (o : Option Entry). HaveSameTimes (leave q t) (without_entry r t o)) (ap (λ (m : Tasks). get m t) same.tasks.runnable)
    (left_by q r t (get q.runnable t) same)

-- ---- what a rebase reads
-- the virtual time is that of the tasks, if there are any
time_by : (tasks : Tasks) (base other : ℤ) (b : Bool) → (total_weight tasks == 0) ≡ b → (tasks ≡ empty → base ≡ other)
    → cond b base (floor_div (total_moment tasks) (total_weight tasks)) ≡ cond b other (floor_div (total_moment tasks) (total_weight tasks))
time_by tasks base other true is same = same (no_tasks tasks (equal (total_weight tasks) 0 is))
time_by tasks base other false is same = refl

same_time : (q r : State) → HaveSameTimes q r → virtual_time q ≡ virtual_time r
same_time q r same =
    time_by q.runnable q.base r.base (total_weight q.runnable == 0) refl same.base
    ∙ ap (λ (m : Tasks). time_over (total_weight m) (total_moment m) r.base) same.tasks.runnable

same_can : (q r : State) → HaveSameTimes q r → can_rebase q ≡ can_rebase r
same_can q r same =
    ap (λ (z : ℤ). is_shift (z +ℤ virtual_time q) && can_lower (virtual_time q) q.runnable) same.shift
    ∙ ap (λ (z : ℤ). is_shift (r.shift +ℤ z) && can_lower z q.runnable) (same_time q r same)
    ∙ ap (λ (m : Tasks). is_shift (r.shift +ℤ virtual_time r) && can_lower (virtual_time r) m) same.tasks.runnable

rebased_to : (q r : State) (b : Bool) → HaveSameTimes q r
    → HaveSameTimes ((cond {A = ℤ × State} b (virtual_time q, rebased q) (pos 0, q)).1) ((cond {A = ℤ × State} b (virtual_time r, rebased r) (pos 0, r)).1)
rebased_to q r true same = record {
  tasks = record {
    runnable = ap (λ (z : ℤ). lowered_tasks z q.runnable) (same_time q r same) ∙ ap (lowered_tasks (virtual_time r)) same.tasks.runnable;
    running = same.tasks.running;
  };
  base = λ none. refl;
  shift = ap (λ (z : ℤ). z +ℤ virtual_time q) same.shift ∙ ap (λ (z : ℤ). r.shift +ℤ z) (same_time q r same);
}
rebased_to q r false same = same

pub rebased_alike : (q r : State) → HaveSameTimes q r → HaveSameTimes (rebase q).1 (rebase r).1
rebased_alike q r same =
    subst (λ (b : Bool). HaveSameTimes (rebase q).1 ((cond {A = ℤ × State} b (virtual_time r, rebased r) (pos 0, r)).1)) (same_can q r same)
    (rebased_to q r (can_rebase q) same)
