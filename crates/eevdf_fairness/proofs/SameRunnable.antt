-- Ticks, picks and leavings read the runnable tasks and who runs alone.
use Rattle.std.proofs.Common.{◌≡◌, ℕ, Bool, true, false, cond, List, [], ◌∷◌, Option, Some, None, refl, ap, ◌∙◌, subst}
use Rattle.std.specs.FinMap.{get, insert, remove}
use Rattle.eevdf_queue.specs.{declared.entry.Entry.Entry, declared.answers.TickAnswer.TickAnswer, State.State, Sums.Tasks}
use Rattle.eevdf_queue.specs.declared.answers.TickAnswer.TheVariants.{Charged, Range as out_of_range}
use Rattle.eevdf_queue.specs.{Leaving.leave, Leaving.without_entry, Leaving.stopped, Moves.is_entry_in_range}
use Rattle.eevdf_queue.specs.{Pick.pick_of, Pick.picked_by, Pick.after_pick}
use Rattle.eevdf_queue.specs.Tick.{is_used_up, charged, tick, tick_entry, tick_running}
use Rattle.eevdf_fairness.specs.{Turns.Turn, Turns.after_ticks, Turns.after_turn, Turns.after_turns, Leavings.HaveSameRunnable}

-- ---- queues with the same runnable tasks
pub alike : (q : State) → HaveSameRunnable q q
alike q = record { runnable = refl; running = refl }

pub of_same : (q r : State) → q ≡ r → HaveSameRunnable q r
of_same q r is = subst (HaveSameRunnable q) is (alike q)

pub then : (a b c : State) → HaveSameRunnable a b → HaveSameRunnable b c → HaveSameRunnable a c
then a b c h k = record { runnable = h.runnable ∙ k.runnable; running = h.running ∙ k.running }

-- ---- what a tick, a pick and a leaving read
pub ticked_to : (q r : State) (t : ℕ) (resched : Bool) (f : Entry) (b : Bool) → HaveSameRunnable q r
    → HaveSameRunnable ((cond {A = TickAnswer × State} b (Charged t resched, record q { runnable = insert q.runnable t f }) (out_of_range, q)).1)
    ((cond {A = TickAnswer × State} b (Charged t resched, record r { runnable = insert r.runnable t f }) (out_of_range, r)).1)
ticked_to q r t resched f true same = record { runnable = ap (λ (m : Tasks). insert m t f) same.runnable; running = same.running }
ticked_to q r t resched f false same = same

ticked_entry : (q r : State) (t ns : ℕ) (o : Option Entry) → HaveSameRunnable q r → HaveSameRunnable (tick_entry q t o ns).1 (tick_entry r t o ns).1
ticked_entry q r t ns None same = same
ticked_entry q r t ns (Some e) same = ticked_to q r t (is_used_up e ns) (charged e ns) (is_entry_in_range (charged e ns)) same

ticked_by : (q r : State) (ns : ℕ) (o : Option ℕ) → HaveSameRunnable q r → HaveSameRunnable (tick_running q o ns).1 (tick_running r o ns).1
ticked_by q r ns None same = same
ticked_by q r ns (Some t) same =
    subst (λ (o : Option Entry). HaveSameRunnable (tick_entry q t (get q.runnable t) ns).1 (tick_entry r t o ns).1) (ap (λ (m : Tasks). get m t) same.runnable)
    (ticked_entry q r t ns (get q.runnable t) same)

pub ticked : (q r : State) (ns : ℕ) → HaveSameRunnable q r → HaveSameRunnable (tick q ns).1 (tick r ns).1
ticked q r ns same =
    subst (λ (o : Option ℕ). HaveSameRunnable (tick q ns).1 (tick_running r o ns).1) same.running (ticked_by q r ns q.running same)

picked_to : (q r : State) (o : Option ℕ) → HaveSameRunnable q r → HaveSameRunnable (picked_by q o) (picked_by r o)
picked_to q r None same = same
picked_to q r (Some t) same = record { runnable = same.runnable; running = refl }

pub picked : (q r : State) → HaveSameRunnable q r → HaveSameRunnable (after_pick q) (after_pick r)
picked q r same =
    subst (λ (m : Tasks). HaveSameRunnable (after_pick q) (picked_by r (pick_of m))) same.runnable (picked_to q r (pick_of q.runnable) same)

pub left_by : (q r : State) (t : ℕ) (o : Option Entry) → HaveSameRunnable q r → HaveSameRunnable (without_entry q t o) (without_entry r t o)
left_by q r t None same = same
left_by q r t (Some e) same = record {
  runnable = ap (λ (m : Tasks). remove m t) same.runnable;
  running = ap (λ (o : Option ℕ). stopped o t) same.running;
}

pub left : (q r : State) (t : ℕ) → HaveSameRunnable q r → HaveSameRunnable (leave q t) (leave r t)
left q r t same =
    subst (λ (o : Option Entry). HaveSameRunnable (leave q t) (without_entry r t o)) (ap (λ (m : Tasks). get m t) same.runnable)
    (left_by q r t (get q.runnable t) same)

-- ---- turns and leavings
pub all_ticked : (q r : State) (turn : Turn) → HaveSameRunnable q r → HaveSameRunnable (after_ticks q turn) (after_ticks r turn)
all_ticked q r [] same = same
all_ticked q r (ns ∷ turn) same = all_ticked ((tick q ns).1) ((tick r ns).1) turn (ticked q r ns same)

taken : (q r : State) (turn : Turn) → HaveSameRunnable q r → HaveSameRunnable (after_turn q turn) (after_turn r turn)
taken q r turn same = all_ticked (after_pick q) (after_pick r) turn (picked q r same)

pub of_turns : (q r : State) (turns : List Turn) → HaveSameRunnable q r → HaveSameRunnable (after_turns q turns) (after_turns r turns)
of_turns q r [] same = same
of_turns q r (turn ∷ turns) same = of_turns (after_turn q turn) (after_turn r turn) turns (taken q r turn same)
