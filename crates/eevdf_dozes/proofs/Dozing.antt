-- What holds of a doze and of a wake, from what holds of all that they can come to.
use Rattle.std.proofs.Common.{◌≡◌, ℕ, Bool, true, false, cond, Option, Some, None, refl, sym, ap, ◌∙◌, subst}
use Rattle.std.specs.Prelude.{pos, ◌+ℤ◌}
use Rattle.std.specs.{Option.option_map, Int.int_max}
use Rattle.std.specs.FinMap.{get, insert, remove}
use Rattle.eevdf_queue.specs.{declared.entry.Entry.Entry, declared.sleeper.Sleeper.Sleeper, State.State, Candidate.is_running, Lag.kept_lag}
use Rattle.eevdf_queue.specs.declared.answers.WakeAnswer.{WakeAnswer}
use Rattle.eevdf_queue.specs.declared.answers.WakeAnswer.TheVariants.{Woken, Awake, Range}
use Rattle.eevdf_queue.specs.Leaving.{leaving, leave, leave_running, without_entry}
use Rattle.eevdf_queue.specs.Moves.{with_runnable, fresh_entry, is_entry_in_range}
use Rattle.eevdf_queue.specs.Doze.{put_dozing, dozed, doze}
use Rattle.eevdf_queue.specs.Wake.{waking_runtime, wake_to, wake_sleeper, wake}

-- ---- a doze
-- what is kept of the task
abbrev pub dozing_of : State → Entry → Sleeper
dozing_of q e = record { lag = int_max (pos 0) (kept_lag q e); nice = e.nice; slice = e.slice }

-- the queue that it leaves
abbrev pub dozing_in : State → ℕ → Entry → State
dozing_in q task e = record (without_entry q task (Some e)) {
  asleep = insert q.asleep task (dozing_of q e);
  places = insert q.places task (e.v +ℤ q.shift);
}

left_running : (q : State) (task : ℕ) (e : Entry) → is_running q.running task ≡ true → get q.runnable task ≡ Some e
    → leave_running q task ≡ without_entry q task (Some e)
left_running q task e runs here = ap (λ (b : Bool). cond b (leave q task) q) runs ∙ ap (without_entry q task) here

module _ (P : State → Type 0) (q : State) (task : ℕ) (stays : P q)
    (dozes : (e : Entry) → is_running q.running task ≡ true → get q.runnable task ≡ Some e → P (dozing_in q task e)) where
  dozed_by : (b : Bool) (o : Option Entry) → is_running q.running task ≡ b → get q.runnable task ≡ o
      → P (dozed q task (cond b (option_map (λ (e : Entry). leaving task (kept_lag q e) e) o) None))
  dozed_by false o runs here = stays
  dozed_by true None runs here = stays
  dozed_by true (Some e) runs here =
      subst (λ (s : State). P (put_dozing s (leaving task (kept_lag q e) e))) (sym (left_running q task e runs here)) (dozes e runs here)

  pub doze_is : P (doze q task)
  doze_is = dozed_by (is_running q.running task) (get q.runnable task) refl refl

-- ---- a wake
-- the entry of a task that wakes, and the queue that it then leaves
abbrev pub awake_entry : State → ℕ → Sleeper → Entry
awake_entry q task s = fresh_entry (waking_runtime q s (get q.places task)) s.nice s.slice

abbrev pub awake_in : State → ℕ → Sleeper → State
awake_in q task s = record q {
  runnable = insert q.runnable task (awake_entry q task s);
  asleep = remove q.asleep task;
  places = remove q.places task;
}

module _ (P : WakeAnswer × State → Type 0) (q : State) (task : ℕ) (stays : (a : WakeAnswer) → (a ≡ Woken → ⊥) → P (a, q))
    (wakes : (s : Sleeper) → get q.asleep task ≡ Some s → P (Woken, awake_in q task s)) where
  woken_by : (s : Sleeper) (b : Bool) → get q.asleep task ≡ Some s
      → P (wake_to q task (with_runnable q task (cond b (Some (awake_entry q task s)) None)))
  woken_by s true asleep = wakes s asleep
  woken_by s false asleep = stays Range (λ is. cc)

  wake_by : (o : Option Sleeper) → get q.asleep task ≡ o → P (wake_sleeper q task o)
  wake_by None asleep = stays Awake (λ is. cc)
  wake_by (Some s) asleep = woken_by s (is_entry_in_range (awake_entry q task s)) asleep

  pub wake_answers : P (wake q task)
  wake_answers = wake_by (get q.asleep task) refl

-- of the queue alone
pub wake_is : (P : State → Type 0) (q : State) (task : ℕ) → P q → ((s : Sleeper) → get q.asleep task ≡ Some s → P (awake_in q task s)) → P (wake q task).1
wake_is P q task stays wakes = wake_answers (λ z. P (z.1)) q task (λ a other. stays) wakes
