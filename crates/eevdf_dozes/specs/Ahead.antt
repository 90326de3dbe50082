-- How far a task that stays can be ahead of the others at any moment of a history, and so what these can gain over any later stretch of it.
use Rattle.std.specs.Prelude.{◌≡◌, ℕ, ◌+◌, ◌≤◌, ℤ, pos, ◌+ℤ◌, ◌≤ℤ◌, true, List, [], ◌∷◌, ◌++◌, Some}
use Rattle.std.specs.FinMap.{get}
use Rattle.eevdf_weight.specs.{Weight.weight_of, Charge.lag_limit_of}
use Rattle.eevdf_queue.specs.{declared.entry.Entry.Entry, State.State, Moves.request_of}
use Rattle.eevdf_fairness.specs.{Healing.HasNotYielded, Turns.IsFresh}
use Rattle.eevdf_dozes.specs.Stretches.{Watch, IsWatched, picked, charges}
use Rattle.eevdf_dozes.specs.{Gains.turn_charge, Shares.times_in, Bounds.Bounds, Bounds.IsWithinAlong}
use Rattle.eevdf_dozes.specs.Histories.{Call, after_calls, events_of, AreAllowed, SleepersDoze}

-- the task that stays is ahead of no runnable task by more than this
abbrev pub IsAheadByNoMore : Watch → State → ℕ → Type 0
IsAheadByNoMore w q most =
    (e : Entry) → get q.runnable w.stays ≡ Some e → (t : ℕ) (f : Entry) → get q.runnable t ≡ Some f → e.v ≤ℤ (f.v +ℤ pos most)

-- where all runnable tasks stand at one virtual runtime it is ahead of none
abbrev pub FreshStartIsAheadOfNobody : Type 0
FreshStartIsAheadOfNobody = (w : Watch) (q : State) (v : ℤ) → IsFresh v q.runnable → IsAheadByNoMore w q 0

-- how far behind all runnable tasks a wake puts a task at most: by two slices of its own, charged at its weight, and once more at the weight
-- of the one that stays
abbrev pub setback : Watch → Bounds → ℕ → ℕ
setback w b task =
    lag_limit_of (b.slice_of task) (weight_of (w.nice_of task)) + lag_limit_of (b.slice_of task) (weight_of (w.nice_of w.stays))

abbrev pub sum_setbacks : Watch → Bounds → List ℕ → ℕ
sum_setbacks w b [] = 0
sum_setbacks w b (t ∷ ts) = setback w b t + sum_setbacks w b ts

-- the longest request, a turn of the task that stays, and a setback of each of the others
abbrev pub most_ahead : Watch → Bounds → ℕ
most_ahead w b = b.request + turn_charge w w.stays + sum_setbacks w b b.others

-- who counts is the task that stays, or one of these
abbrev pub AreTheOthers : Watch → List ℕ → Type 0
AreTheOthers w ts = (t : ℕ) → w.counts t ≡ true → (t ≡ w.stays → ⊥) → 1 ≤ times_in t ts

-- a history begins with a pick, before which the task that stays is ahead of nobody by more than the longest request
pub record BeginsLevel (w : Watch) (b : Bounds) (q : State) (calls : List Call) : Type 0 where
  pub watched : IsWatched w q
  pub counts : w.counts w.stays ≡ true
  pub doze : SleepersDoze w q
  pub others : AreTheOthers w b.others
  pub level : IsAheadByNoMore w q b.request
  pub allowed : AreAllowed w 0 (picked q) calls
  pub within : IsWithinAlong w b (picked q) calls

-- then it is never far ahead
abbrev pub NobodyIsEverFarAhead : Type 0
NobodyIsEverFarAhead =
    (w : Watch) (b : Bounds) (q : State) (calls : List Call) → BeginsLevel w b q calls
    → IsAheadByNoMore w (after_calls (picked q) calls) (most_ahead w b)

-- what a task is charged for by these calls
abbrev pub charged_by : ℕ → State → List Call → ℕ
charged_by task q calls = charges task q (events_of q calls)

-- and so from any later moment on a task that counts is charged for no more than the one that stays, its request, a turn, and that
abbrev pub NobodyEverGains : Type 0
NobodyEverGains =
    (w : Watch) (b : Bounds) (q r : State) (before calls : List Call) (f : Entry) → BeginsLevel w b q (before ++ calls)
    → after_calls (picked q) before ≡ r → get (after_calls r calls).runnable w.stays ≡ Some f → HasNotYielded f
    → (t : ℕ) → w.counts t ≡ true
    → charged_by t r calls ≤ charged_by w.stays r calls + request_of f.nice f.slice + turn_charge w t + most_ahead w b
