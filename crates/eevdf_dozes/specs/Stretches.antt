-- A stretch of what becomes of a queue: picks, ticks, and whatever else, as long as it asks no more of some tasks than they allow.
use Rattle.std.specs.Prelude.{◌≡◌, ℕ, ◌+◌, ◌≤◌, ℤ, ◌+ℤ◌, ◌≤ℤ◌, Bool, true, is_some, List, [], ◌∷◌, Option, Some, None}
use Rattle.std.specs.FinMap.{get}
use Rattle.eevdf_weight.specs.{Weight.weight_of, Charge.charge_of}
use Rattle.eevdf_queue.specs.{declared.entry.Entry.Entry, State.State, Sums.Tasks, Pick.after_pick, Tick.tick}
use Rattle.eevdf_fairness.specs.Tallies.{if_charged_to}
use Rattle.eevdf_dozes.specs.Places.{place_of, IsNoEarlier}
-- no runnable task is past its own deadline
pub use Rattle.eevdf_queue.specs.Kept.{NoneIsPastDue}

-- a pick, a tick of so many nanoseconds, or anything else, told by what the queue is afterwards
pub data Event : Type 0 where
  Picks : Event
  Ticks : ℕ → Event
  Becomes : State → Event

abbrev pub picked : State → State
picked q = after_pick q

abbrev pub ticked : State → ℕ → State
ticked q ns = (tick q ns).1

abbrev pub after_events : State → List Event → State
after_events q [] = q
after_events q (Picks ∷ events) = after_events (picked q) events
after_events q (Ticks ns ∷ events) = after_events (ticked q ns) events
after_events q (Becomes r ∷ events) = after_events r events

-- ---- what a task is charged for
abbrev pub charge_by : Option Entry → ℕ → ℕ
charge_by None ns = 0
charge_by (Some e) ns = charge_of ns (weight_of e.nice)

-- what a tick of so many nanoseconds charges to this task, in virtual time: nothing where another one runs, or where it is refused
abbrev pub charged_for : ℕ → State → ℕ → ℕ
charged_for task q ns = if_charged_to task (tick q ns).0 (charge_by (get q.runnable task) ns)

abbrev pub charges : ℕ → State → List Event → ℕ
charges task q [] = 0
charges task q (Picks ∷ events) = charges task (picked q) events
charges task q (Ticks ns ∷ events) = charged_for task q ns + charges task (ticked q ns) events
charges task q (Becomes r ∷ events) = charges task r events

-- ---- what a stretch asks
-- One task stays runnable. Others count, and have these nice levels: whatever happens to them besides picks and ticks, they may not be put
-- back by it. All others may do anything. Between two picks the queue runs for so many nanoseconds at most
pub record Watch : Type 0 where
  pub stays : ℕ
  pub counts : ℕ → Bool
  pub nice_of : ℕ → ℤ
  pub turn : ℕ

-- of the tasks that count those that are runnable have these nice levels
abbrev pub HaveLevels : Watch → Tasks → Type 0
HaveLevels w tasks = (t : ℕ) (e : Entry) → w.counts t ≡ true → get tasks t ≡ Some e → e.nice ≡ w.nice_of t

-- what is asked of a queue at first
pub record IsWatched (w : Watch) (q : State) : Type 0 where
  pub here : is_some (get q.runnable w.stays) ≡ true
  pub levels : HaveLevels w q.runnable
  pub due : NoneIsPastDue q.runnable

-- the task that stays is still there, at the place where it was, and its deadline is no earlier
pub record Stays (task : ℕ) (q r : State) (e : Entry) : Type 0 where
  pub entry : Entry
  pub here : get r.runnable task ≡ Some entry
  pub place : entry.v +ℤ r.shift ≡ e.v +ℤ q.shift
  pub later : (e.d +ℤ q.shift) ≤ℤ (entry.d +ℤ r.shift)

-- the task ran before, and is no further than it was
pub record RunsOn (task : ℕ) (q r : State) : Type 0 where
  pub ran : q.running ≡ Some task
  pub no_further : IsNoEarlier (place_of r task) (place_of q task)

-- what may become of a queue besides picks and ticks
pub record IsChange (w : Watch) (q r : State) : Type 0 where
  pub stays : (e : Entry) → get q.runnable w.stays ≡ Some e → Stays w.stays q r e
  pub places : (t : ℕ) → w.counts t ≡ true → IsNoEarlier (place_of q t) (place_of r t)
  pub runner : (t : ℕ) → w.counts t ≡ true → r.running ≡ Some t → RunsOn t q r
  pub levels : HaveLevels w q.runnable → HaveLevels w r.runnable
  pub due : NoneIsPastDue q.runnable → NoneIsPastDue r.runnable

-- the same from a moment on at which the queue has run for so long since its last pick
abbrev pub IsStretch : Watch → ℕ → State → List Event → Type 0
IsStretch w ran q [] = Unit {0}
IsStretch w ran q (Picks ∷ events) = IsStretch w 0 (picked q) events
IsStretch w ran q (Ticks ns ∷ events) = (ran + ns ≤ w.turn) × IsStretch w (ran + ns) (ticked q ns) events
IsStretch w ran q (Becomes r ∷ events) = IsChange w q r × IsStretch w ran r events

-- a stretch that begins with a pick
pub record BeginsWithPick (w : Watch) (q : State) (events : List Event) : Type 0 where
  pub watched : IsWatched w q
  pub stretch : IsStretch w 0 (picked q) events
