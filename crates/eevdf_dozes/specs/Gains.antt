-- How much a task can be charged for while another one stays.
use Rattle.std.specs.Prelude.{◌≡◌, ℕ, ◌+◌, ◌*◌, ◌≤◌, ◌⊎◌, ℤ, pos, ◌+ℤ◌, ◌≤ℤ◌, true, List, [], ◌∷◌, length, Some}
use Rattle.std.specs.{FinMap.get, List.AllByRecursion}
use Rattle.eevdf_weight.specs.{Weight.weight_of, Charge.charge_of}
use Rattle.eevdf_queue.specs.{declared.entry.Entry.Entry, State.State, Moves.request_of}
use Rattle.eevdf_fairness.specs.{Healing.HasNotYielded, Turns.IsFresh}
use Rattle.eevdf_dozes.specs.Places.{place_of}
use Rattle.eevdf_dozes.specs.Stretches.{Event, Watch, NoneIsPastDue, BeginsWithPick, picked, after_events, charges}

-- what a turn of a task that counts is charged at most
abbrev pub turn_charge : Watch → ℕ → ℕ
turn_charge w task = charge_of w.turn (weight_of (w.nice_of task))

-- the task stays: it has one entry at first and another one in the end
pub record StaysWith (w : Watch) (q : State) (events : List Event) (e f : Entry) : Type 0 where
  pub at_first : get q.runnable w.stays ≡ Some e
  pub in_the_end : get (after_events (picked q) events).runnable w.stays ≡ Some f

-- a task was charged for nothing, or came from its place no further than this
abbrev pub ComesNoFurther : ℤ → ℕ → ℤ → Type 0
ComesNoFurther place charged limit = (charged ≡ 0) ⊎ ((place +ℤ pos charged) ≤ℤ limit)

-- a task that counts comes no further than a turn past the deadline that the one that stays has in the end
abbrev pub NoneRunsFarPast : Type 0
NoneRunsFarPast =
    (w : Watch) (q : State) (events : List Event) (e f : Entry) → BeginsWithPick w q events → StaysWith w q events e f
    → (t : ℕ) (place : ℤ) → w.counts t ≡ true → place_of q t ≡ Some place
    → ComesNoFurther place (charges t (picked q) events)
    ((f.d +ℤ (after_events (picked q) events).shift) +ℤ pos (turn_charge w t))

-- so it is charged for no more than the one that stays, that one's request, a turn and what it was behind that one at first
abbrev pub NobodyGains : Type 0
NobodyGains =
    (w : Watch) (q : State) (events : List Event) (e f : Entry) → BeginsWithPick w q events → StaysWith w q events e f
    → HasNotYielded f
    → (t : ℕ) (place : ℤ) → w.counts t ≡ true → place_of q t ≡ Some place
    → ComesNoFurther place (charges t (picked q) events)
    ((e.v +ℤ q.shift) +ℤ pos (charges w.stays (picked q) events + request_of f.nice f.slice + turn_charge w t))

-- ---- several tasks
-- a task that counts and isn't behind the one that stays
pub record IsLevel (w : Watch) (q : State) (e : Entry) (task : ℕ) : Type 0 where
  pub counts : w.counts task ≡ true
  pub place : ℤ
  pub there : place_of q task ≡ Some place
  pub not_behind : (e.v +ℤ q.shift) ≤ℤ place

-- where all runnable tasks stand at one virtual runtime with fresh requests, each that counts is so, and none is past its own deadline
abbrev pub FreshStartIsLevel : Type 0
FreshStartIsLevel =
    (w : Watch) (q : State) (v : ℤ) (e : Entry) → IsFresh v q.runnable → get q.runnable w.stays ≡ Some e
    → NoneIsPastDue q.runnable × ((t : ℕ) (f : Entry) → w.counts t ≡ true → get q.runnable t ≡ Some f → IsLevel w q e t)

abbrev pub sum_weights : Watch → List ℕ → ℕ
sum_weights w [] = 0
sum_weights w (t ∷ ts) = weight_of (w.nice_of t) + sum_weights w ts

-- the sum of weight times charges
abbrev pub sum_charges : Watch → State → List Event → List ℕ → ℕ
sum_charges w q events [] = 0
sum_charges w q events (t ∷ ts) = weight_of (w.nice_of t) * charges t q events + sum_charges w q events ts

-- together such tasks are charged for no more than their weight times what the one that stays is charged for and its request, and a turn
-- for each of them
abbrev pub TogetherNobodyGains : Type 0
TogetherNobodyGains =
    (w : Watch) (q : State) (events : List Event) (e f : Entry) → BeginsWithPick w q events → StaysWith w q events e f
    → HasNotYielded f
    → (ts : List ℕ) → AllByRecursion (IsLevel w q e) ts
    → sum_charges w (picked q) events ts
    ≤ sum_weights w ts * (charges w.stays (picked q) events + request_of f.nice f.slice) + length ts * (1024 * w.turn)
