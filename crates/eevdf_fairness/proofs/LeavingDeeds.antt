-- Turns and leavings read the runnable tasks and who runs alone, and a sleep, a doze and a pull that are done leave both as a leaving does.
use Rattle.std.proofs.Common.{◌≡◌, ℕ, ◌<◌, List, [], ◌∷◌, length, set, Option, Some, None, refl, sym, ap, ◌∙◌, subst}
use Rattle.std.specs.Prelude.{ℤ, Result, Ok, Err}
use Rattle.std.proofs.{lemmas.List.get_or-set_same, Math.ListN.length-set}
use Rattle.eevdf_queue.specs.{State.State, State.Contents, State.empty_state, Leaving.leave, Leaving.carried_running, Pick.after_pick, Rebase.rebase, Tick.tick}
use Rattle.eevdf_ops.specs.{declared.deeds.Answer.Answer, Setup.home_of, Machine.Machine, Machine.queue_at}
use Rattle.eevdf_ops.specs.declared.deeds.Deed.TheVariants.{Sleep, Doze, Pull, End}
use Rattle.eevdf_ops.specs.declared.deeds.Answer.TheVariants.{Slept, Pulled, Ended}
use Rattle.eevdf_ops.specs.declared.acts.Transfer.TheVariants as transfer
use Rattle.eevdf_ops.specs.{Halves.after_dozing_off, Parts.after_falling_asleep, Transfers.pulled, Transfers.transferred, Whole.whole}
use Rattle.eevdf_ops.specs.{Parts.after_leaving, Parts.answer_of_sleep, Parts.answer_of_end, WholeEnd.ending, WholePull.load_of, WholePull.offer, WholePull.decision}
use Rattle.eevdf_ops.proofs.{Carried.running-carries, Carried.ending-carries, LocalParts.whole-answer, MachinePlaces.other_queue, MachinePlaces.each-set, Pulling.unpulled, WholeActs.sleep_by_home, WholeActs.doze_by_home, WholeActs.end_by_home}
use Rattle.eevdf_fairness.specs.{Turns.Turn, Turns.after_ticks, Turns.after_turn}
use Rattle.eevdf_fairness.specs.Leavings.{Step, Takes, Leaves, Rebases, after_steps, HaveSameTimes, RunnableTasksDecide}
use Rattle.eevdf_fairness.specs.LeavingDeeds.{DeedsLeave}
use Rattle.eevdf_fairness.proofs.SameRunnable.{left as left_alone, of_turns}
use Rattle.eevdf_fairness.proofs.SameTimes.{alike, of_same, then, ticked, picked, left, rebased_alike}

-- ---- steps
taken : (q r : State) (turn : Turn) → HaveSameTimes q r → HaveSameTimes (after_turn q turn) (after_turn r turn)
taken q r turn same = all_ticked (after_pick q) (after_pick r) turn (picked q r same)
  where
    all_ticked : (q r : State) (turn : Turn) → HaveSameTimes q r → HaveSameTimes (after_ticks q turn) (after_ticks r turn)
    all_ticked q r [] same = same
    all_ticked q r (ns ∷ turn) same = all_ticked ((tick q ns).1) ((tick r ns).1) turn (ticked q r ns same)

of_steps : (q r : State) (steps : List Step) → HaveSameTimes q r → HaveSameTimes (after_steps q steps) (after_steps r steps)
of_steps q r [] same = same
of_steps q r (Takes turn ∷ steps) same = of_steps (after_turn q turn) (after_turn r turn) steps (taken q r turn same)
of_steps q r (Leaves task ∷ steps) same = of_steps (leave q task) (leave r task) steps (left q r task same)
of_steps q r (Rebases ∷ steps) same = of_steps (rebase q).1 (rebase r).1 steps (rebased_alike q r same)

pub runnable_tasks_decide : RunnableTasksDecide
runnable_tasks_decide = record { of_turns = of_turns; of_leaving = left_alone; of_steps = of_steps }

-- ---- a task that leaves a CPU and rests, there or at another one
-- who falls asleep changes no runnable tasks, nor does who dozes off
asleep_left : (o : Option Contents) (q : State) → HaveSameTimes (after_falling_asleep o q) q
asleep_left None q = alike q
asleep_left (Some p) q = record { tasks = record { runnable = refl; running = refl }; base = λ none. refl; shift = refl }

dozed_left : (o : Option Contents) (q : State) → HaveSameTimes (after_dozing_off o q) q
dozed_left None q = alike q
dozed_left (Some p) q = record { tasks = record { runnable = refl; running = refl }; base = λ none. refl; shift = refl }

module _ (m : Machine) (cpu : ℕ) where
  left_here : (q r : State) → cpu < length m → HaveSameTimes q r → HaveSameTimes (queue_at (set m cpu q) cpu) r
  left_here q r h same = then _ _ _ (of_same _ _ (get_or-set_same m cpu q empty_state h)) same

  left_away : (home : ℕ) (q s : State) → cpu < length m → (home ≡ cpu → ⊥) → HaveSameTimes (queue_at (set (set m cpu q) home s) cpu) q
  left_away home q s h apart = of_same _ _ (other_queue (set m cpu q) home cpu s (λ e. apart (sym e)) ∙ get_or-set_same m cpu q empty_state h)

  stayed_away : (home other : ℕ) (q s : State) → (other ≡ cpu → ⊥) → HaveSameTimes s (queue_at m home) → HaveSameTimes (queue_at (set (set m cpu q) home s) other) (queue_at m other)
  stayed_away home other q s apart same =
      let IsKept : ℕ → State → Type 0 = λ i r. (i ≡ cpu → ⊥) → HaveSameTimes r (queue_at m i) in
      each-set IsKept (set m cpu q) home s (λ e. same) (each-set IsKept m cpu q (λ e. absurd (e refl)) (λ i e. alike (queue_at m i))) other apart

-- ---- a sleep
pub sleep_leaves : (homes : List ℕ) (m : Machine) (cpu task : ℕ) → cpu < length m
    → HaveSameTimes (queue_at (whole homes (Sleep cpu task) m).1 cpu) (after_leaving (carried_running (queue_at m cpu) task) (queue_at m cpu))
sleep_leaves homes m cpu task h =
    let o : Option Contents = carried_running (queue_at m cpu) task in
    sleep_by_home (λ (r : Answer × Machine). HaveSameTimes (queue_at r.1 cpu) (after_leaving o (queue_at m cpu))) homes cpu task m
    (λ e. left_here m cpu _ _ h (asleep_left o (after_leaving o (queue_at m cpu)))) (λ e. left_away m cpu (home_of homes task) _ _ h e)

pub sleep_stays : (homes : List ℕ) (m : Machine) (cpu task other : ℕ) → (other ≡ cpu → ⊥)
    → HaveSameTimes (queue_at (whole homes (Sleep cpu task) m).1 other) (queue_at m other)
sleep_stays homes m cpu task other apart =
    sleep_by_home (λ (r : Answer × Machine). HaveSameTimes (queue_at r.1 other) (queue_at m other)) homes cpu task m (λ e. of_same _ _ (other_queue m cpu other _ apart))
    (λ e. stayed_away m cpu (home_of homes task) other _ _ apart (asleep_left (carried_running (queue_at m cpu) task) (queue_at m (home_of homes task))))

-- ---- a doze
pub doze_leaves : (homes : List ℕ) (m : Machine) (cpu task : ℕ) → cpu < length m
    → HaveSameTimes (queue_at (whole homes (Doze cpu task) m).1 cpu) (after_leaving (carried_running (queue_at m cpu) task) (queue_at m cpu))
doze_leaves homes m cpu task h =
    let o : Option Contents = carried_running (queue_at m cpu) task in
    doze_by_home (λ (r : Answer × Machine). HaveSameTimes (queue_at r.1 cpu) (after_leaving o (queue_at m cpu))) homes cpu task m
    (λ e. left_here m cpu _ _ h (dozed_left o (after_leaving o (queue_at m cpu)))) (λ e. left_away m cpu (home_of homes task) _ _ h e)

pub doze_stays : (homes : List ℕ) (m : Machine) (cpu task other : ℕ) → (other ≡ cpu → ⊥)
    → HaveSameTimes (queue_at (whole homes (Doze cpu task) m).1 other) (queue_at m other)
doze_stays homes m cpu task other apart =
    doze_by_home (λ (r : Answer × Machine). HaveSameTimes (queue_at r.1 other) (queue_at m other)) homes cpu task m (λ e. of_same _ _ (other_queue m cpu other _ apart))
    (λ e. stayed_away m cpu (home_of homes task) other _ _ apart (asleep_left (carried_running (queue_at m cpu) task) (queue_at m (home_of homes task))))

-- the task that sleeps or dozes is the one that is named
pub left_by_sleep : (q : State) (task : ℕ) (lag : ℤ) (o : Option Contents) → carried_running q task ≡ o → answer_of_sleep o ≡ Slept lag → after_leaving o q ≡ leave q task
left_by_sleep q task lag None is done = cc
left_by_sleep q task lag (Some p) is done = ap (leave q) (running-carries q task p is).of_task

-- ---- an end
pub end_leaves : (homes : List ℕ) (m : Machine) (cpu task : ℕ) → cpu < length m
    → HaveSameTimes (queue_at (whole homes (End cpu task) m).1 cpu) (after_leaving (ending (queue_at m cpu) task) (queue_at m cpu))
end_leaves homes m cpu task h =
    let o : Option Contents = ending (queue_at m cpu) task in
    end_by_home (λ (r : Answer × Machine). HaveSameTimes (queue_at r.1 cpu) (after_leaving o (queue_at m cpu))) homes cpu task m
    (λ e. left_here m cpu _ _ h (asleep_left o (after_leaving o (queue_at m cpu)))) (λ e. left_away m cpu (home_of homes task) _ _ h e)

pub end_stays : (homes : List ℕ) (m : Machine) (cpu task other : ℕ) → (other ≡ cpu → ⊥)
    → HaveSameTimes (queue_at (whole homes (End cpu task) m).1 other) (queue_at m other)
end_stays homes m cpu task other apart =
    end_by_home (λ (r : Answer × Machine). HaveSameTimes (queue_at r.1 other) (queue_at m other)) homes cpu task m (λ e. of_same _ _ (other_queue m cpu other _ apart))
    (λ e. stayed_away m cpu (home_of homes task) other _ _ apart (asleep_left (ending (queue_at m cpu) task) (queue_at m (home_of homes task))))

pub left_by_end : (q : State) (task : ℕ) (o : Option Contents) → ending q task ≡ o → answer_of_end o ≡ Ended → after_leaving o q ≡ leave q task
left_by_end q task None is done = cc
left_by_end q task (Some p) is done = ap (leave q) (ending-carries q task p is).of_task

-- ---- a pull
pub pull_leaves : (homes : List ℕ) (m : Machine) (cpu source : ℕ) → source < length m
    → queue_at (whole homes (Pull cpu source) m).1 source ≡ (transferred transfer.Pull (queue_at m cpu) (queue_at m source)).1.1
pull_leaves homes m cpu source h = get_or-set_same (set m cpu _) source _ empty_state (subst (λ (n : ℕ). source < n) (sym (length-set m cpu _)) h)

left_by_pull : (q r : State) (task : ℕ) (d : Result Contents Answer) → decision q (load_of r) (offer r) ≡ d → (pulled d q r).0 ≡ Pulled task → (pulled d q r).1.1 ≡ leave r task
left_by_pull q r task (Err why) is done = absurd (unpulled q (load_of r) task (offer r) why is done)
left_by_pull q r task (Ok p) is done = let same : p.task ≡ task = cc in ap (leave r) same

pub deeds_leave : DeedsLeave
deeds_leave = record {
  sleeps = λ homes m cpu task lag h done.
      then _ _ _ (sleep_leaves homes m cpu task h)
      (of_same _ _ (left_by_sleep (queue_at m cpu) task lag (carried_running (queue_at m cpu) task) refl (sym (whole-answer homes (Sleep cpu task) m) ∙ done)));
  sleeps_elsewhere = sleep_stays;
  dozes = λ homes m cpu task lag h done.
      then _ _ _ (doze_leaves homes m cpu task h)
      (of_same _ _ (left_by_sleep (queue_at m cpu) task lag (carried_running (queue_at m cpu) task) refl (sym (whole-answer homes (Doze cpu task) m) ∙ done)));
  dozes_elsewhere = doze_stays;
  ends = λ homes m cpu task h done.
      then _ _ _ (end_leaves homes m cpu task h)
      (of_same _ _ (left_by_end (queue_at m cpu) task (ending (queue_at m cpu) task) refl (sym (whole-answer homes (End cpu task) m) ∙ done)));
  ends_elsewhere = end_stays;
  pulls = λ homes m cpu source task h apart done.
      of_same _ _ (pull_leaves homes m cpu source h
      ∙ left_by_pull (queue_at m cpu) (queue_at m source) task (decision (queue_at m cpu) (load_of (queue_at m source)) (offer (queue_at m source))) refl done);
}
