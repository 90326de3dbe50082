-- Turns between which tasks leave, as by a sleep, or by a pull of another CPU, and virtual times are lowered by rebases.
use Rattle.std.specs.Prelude.{◌≡◌, ℕ, ◌+◌, ◌≤◌, ℤ, pos, ◌+ℤ◌, ◌≤ℤ◌, List, [], ◌∷◌, Some}
use Rattle.std.specs.FinMap.{get, empty}
use Rattle.eevdf_weight.specs.{Weight.weight_of, Charge.charge_of}
use Rattle.eevdf_queue.specs.{declared.entry.Entry.Entry, State.State, Moves.request_of, Sums.Tasks, Leaving.leave, Rebase.rebase}
use Rattle.eevdf_fairness.specs.Turns.{Turn, turn_length, IsFresh, after_turn, after_turns}
use Rattle.eevdf_fairness.specs.Fair.{NoneIsFarPast, IsNotLate, IsNotLateWithRest, IsNotBehind}

-- a turn, a task that leaves, whether it runs or waits, or a rebase
pub data Step : Type 0 where
  Takes : Turn → Step
  Leaves : ℕ → Step
  Rebases : Step

abbrev pub after_steps : State → List Step → State
after_steps q [] = q
after_steps q (Takes turn ∷ steps) = after_steps (after_turn q turn) steps
after_steps q (Leaves task ∷ steps) = after_steps (leave q task) steps
after_steps q (Rebases ∷ steps) = after_steps (rebase q).1 steps

-- by how much the rebases among them lower virtual times, in all
abbrev pub lowered_by : State → List Step → ℤ
lowered_by q [] = pos 0
lowered_by q (Takes turn ∷ steps) = lowered_by (after_turn q turn) steps
lowered_by q (Leaves task ∷ steps) = lowered_by (leave q task) steps
lowered_by q (Rebases ∷ steps) = (rebase q).0 +ℤ lowered_by (rebase q).1 steps

-- no turn among them runs longer than this
abbrev pub HaveNoLongerTurns : ℕ → List Step → Type 0
HaveNoLongerTurns ns [] = Unit {0}
HaveNoLongerTurns ns (Takes turn ∷ steps) = (turn_length turn ≤ ns) × HaveNoLongerTurns ns steps
HaveNoLongerTurns ns (Leaves task ∷ steps) = HaveNoLongerTurns ns steps
HaveNoLongerTurns ns (Rebases ∷ steps) = HaveNoLongerTurns ns steps

-- the task isn't past another by more than the charge of a turn and the other's request; so it isn't past the mean by more than
-- such a charge and the greatest request
abbrev pub IsNotFarPastOthers : ℕ → Tasks → Entry → Type 0
IsNotFarPastOthers ns tasks e =
    (u : ℕ) (f : Entry) → get tasks u ≡ Some f → e.v ≤ℤ (f.v +ℤ pos (request_of f.nice f.slice + charge_of ns (weight_of e.nice)))

pub record IsStillFair (ns : ℕ) (tasks : Tasks) (e : Entry) : Type 0 where
  pub past : NoneIsFarPast ns tasks e.d
  pub late : IsNotLate ns tasks e.d
  pub rest : IsNotLateWithRest ns tasks e.d e
  pub behind : IsNotBehind ns tasks e
  pub apart : IsNotFarPastOthers ns tasks e

-- from a fresh start, after any list of turns, leavings and rebases, of the tasks that are left no request is late, none is behind, and no
-- two are far apart
abbrev pub LeavingsKeepFair : Type 0
LeavingsKeepFair =
    (q : State) (v : ℤ) (ns : ℕ) (steps : List Step) → IsFresh v q.runnable → HaveNoLongerTurns ns steps
    → (t : ℕ) (e : Entry) → get (after_steps q steps).runnable t ≡ Some e → IsStillFair ns (after_steps q steps).runnable e

-- two queues with the same runnable tasks, of which the same one runs; nothing is asked of who sleeps there, and of `base`
pub record HaveSameRunnable (q r : State) : Type 0 where
  pub runnable : q.runnable ≡ r.runnable
  pub running : q.running ≡ r.running

-- and with the same times: the one that stands, where nothing is runnable, and the shift
pub record HaveSameTimes (q r : State) : Type 0 where
  pub tasks : HaveSameRunnable q r
  pub base : q.runnable ≡ empty → q.base ≡ r.base
  pub shift : q.shift ≡ r.shift

-- turns and leavings read nothing else of these tasks, and rebases nothing but the times besides, and so they leave such queues
pub record RunnableTasksDecide : Type 0 where
  pub of_turns : (q r : State) (turns : List Turn) → HaveSameRunnable q r → HaveSameRunnable (after_turns q turns) (after_turns r turns)
  pub of_leaving : (q r : State) (task : ℕ) → HaveSameRunnable q r → HaveSameRunnable (leave q task) (leave r task)
  pub of_steps : (q r : State) (steps : List Step) → HaveSameTimes q r → HaveSameTimes (after_steps q steps) (after_steps r steps)
