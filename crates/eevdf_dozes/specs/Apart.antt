-- How far any two tasks can be apart at any moment of a history in which all of them may doze.
use Rattle.std.specs.Prelude.{◌≡◌, ℕ, ◌+◌, ◌≤◌, ℤ, pos, ◌+ℤ◌, ◌≤ℤ◌, true, false, is_some, List, [], ◌∷◌, Some}
use Rattle.std.specs.FinMap.{get}
use Rattle.eevdf_weight.specs.{Weight.weight_of, Charge.charge_of, Charge.lag_limit_of}
use Rattle.eevdf_queue.specs.{declared.entry.Entry.Entry, State.State, Moves.request_of}
use Rattle.eevdf_fairness.specs.Healing.{HasNotYielded}
use Rattle.eevdf_dozes.specs.Stretches.{Watch, HaveLevels, NoneIsPastDue, picked}
use Rattle.eevdf_dozes.specs.{Gains.turn_charge, Ahead.sum_setbacks, Ahead.charged_by, Punctual.NoneStandsPast, Calls.Touches, Shares.times_in, Bounds.Bounds, Bounds.IsWithinAlong}
use Rattle.eevdf_dozes.specs.Histories.{Call, Tick, Touch, after_call, after_calls, run_after, AreAllowed, SleepersDoze}

-- any task may doze and wake, what else touches one task alone touches one that doesn't count, and a turn isn't too long
abbrev pub IsAllowedOfAll : Watch → ℕ → State → Call → Type 0
IsAllowedOfAll w ran q (Tick ns) = ran + ns ≤ w.turn
IsAllowedOfAll w ran q (Touch task r) = (w.counts task ≡ false) × Touches task q r
IsAllowedOfAll w ran q call = Unit {0}

abbrev pub AreAllowedOfAll : Watch → ℕ → State → List Call → Type 0
AreAllowedOfAll w ran q [] = Unit {0}
AreAllowedOfAll w ran q (call ∷ calls) = IsAllowedOfAll w ran q call × AreAllowedOfAll w (run_after ran call) (after_call q call) calls

-- some task is runnable, before each of the calls
pub record SomeIsRunnable (q : State) : Type 0 where
  pub task : ℕ
  pub entry : Entry
  pub here : get q.runnable task ≡ Some entry

abbrev pub SomeIsRunnableAlong : State → List Call → Type 0
SomeIsRunnableAlong q [] = Unit {0}
SomeIsRunnableAlong q (call ∷ calls) = SomeIsRunnable q × SomeIsRunnableAlong (after_call q call) calls

-- no task that counts stands past a mark, and no runnable one is behind it by more than the longest request
pub record AreTogether (w : Watch) (b : Bounds) (q : State) : Type 0 where
  pub mark : ℤ
  pub none_past : NoneStandsPast w mark q
  pub none_behind : (t : ℕ) (e : Entry) → get q.runnable t ≡ Some e → mark ≤ℤ ((e.v +ℤ q.shift) +ℤ pos b.request)

-- as in every queue, who runs is runnable
abbrev pub RunnersAreRunnable : State → Type 0
RunnersAreRunnable q = (t : ℕ) → q.running ≡ Some t → is_some (get q.runnable t) ≡ true

pub record BeginsTogether (w : Watch) (b : Bounds) (ran : ℕ) (q : State) (calls : List Call) : Type 0 where
  pub levels : HaveLevels w q.runnable
  pub due : NoneIsPastDue q.runnable
  pub doze : SleepersDoze w q
  pub runner : RunnersAreRunnable q
  pub together : AreTogether w b q
  pub listed : (t : ℕ) → w.counts t ≡ true → 1 ≤ times_in t b.others
  pub allowed : AreAllowedOfAll w ran q calls
  pub within : IsWithinAlong w b q calls
  pub some : SomeIsRunnableAlong q calls

-- a weight than which no task that counts has less
pub record IsLeast (w : Watch) (least : ℕ) : Type 0 where
  pub some : 1 ≤ least
  pub none_less : (t : ℕ) → w.counts t ≡ true → least ≤ weight_of (w.nice_of t)

-- 15 always is one
abbrev pub LeastWeightIs15 : Type 0
LeastWeightIs15 = (w : Watch) → IsLeast w 15

-- the setback of a task where those that are there may weigh as little
abbrev pub greatest_setback : Watch → Bounds → ℕ → ℕ → ℕ
greatest_setback w b least task = lag_limit_of (b.slice_of task) (weight_of (w.nice_of task)) + lag_limit_of (b.slice_of task) least

abbrev pub sum_greatest : Watch → Bounds → ℕ → List ℕ → ℕ
sum_greatest w b least [] = 0
sum_greatest w b least (t ∷ ts) = greatest_setback w b least t + sum_greatest w b least ts

-- the longest request, a turn of the lightest task, and such a setback of each task
abbrev pub most_apart : Watch → Bounds → ℕ → ℕ
most_apart w b least = b.request + charge_of w.turn least + sum_greatest w b least b.others

abbrev pub AreApartByNoMore : State → ℕ → Type 0
AreApartByNoMore q most =
    (t u : ℕ) (e f : Entry) → get q.runnable t ≡ Some e → get q.runnable u ≡ Some f → e.v ≤ℤ (f.v +ℤ pos most)

abbrev pub NobodyIsEverFarApart : Type 0
NobodyIsEverFarApart =
    (w : Watch) (b : Bounds) (least ran : ℕ) (q : State) (calls : List Call) → IsLeast w least → BeginsTogether w b ran q calls
    → AreApartByNoMore (after_calls q calls) (most_apart w b least)

-- ---- what a task gains from any pick on
-- how far a task that stays from then on is ever ahead
abbrev pub most_ahead_later : Watch → Bounds → ℕ → ℕ
most_ahead_later w b least = most_apart w b least + turn_charge w w.stays + sum_setbacks w b b.others

-- after such a history a task stays, from a pick on
pub record StaysLater (w : Watch) (b : Bounds) (r : State) (calls : List Call) (f : Entry) : Type 0 where
  pub here : is_some (get r.runnable w.stays) ≡ true
  pub allowed : AreAllowed w 0 (picked r) calls
  pub within : IsWithinAlong w b (picked r) calls
  pub in_the_end : get (after_calls (picked r) calls).runnable w.stays ≡ Some f
  pub short : HasNotYielded f

-- then each that counts is charged for no more than that one, its request, a turn, and that
abbrev pub NobodyGainsLater : Type 0
NobodyGainsLater =
    (w : Watch) (b : Bounds) (least ran : ℕ) (q r : State) (before calls : List Call) (f : Entry) → IsLeast w least
    → BeginsTogether w b ran q before → after_calls q before ≡ r → StaysLater w b r calls f → (t : ℕ) → w.counts t ≡ true
    → charged_by t (picked r) calls
    ≤ charged_by w.stays (picked r) calls + request_of f.nice f.slice + turn_charge w t + most_ahead_later w b least
