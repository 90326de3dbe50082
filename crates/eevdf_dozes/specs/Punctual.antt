-- How late a request can be while other tasks doze and wake.
use Rattle.std.specs.Prelude.{◌≡◌, ℕ, ◌≤◌, ℤ, pos, ◌+ℤ◌, ◌*ℤ◌, ◌≤ℤ◌, true, List, [], ◌∷◌, Some}
use Rattle.std.specs.FinMap.{get}
use Rattle.eevdf_weight.specs.{Weight.weight_of, Charge.charge_of}
use Rattle.eevdf_queue.specs.{declared.entry.Entry.Entry, State.State, Sums.Tasks, Sums.total_weight, Sums.total_moment}
use Rattle.eevdf_dozes.specs.{Places.place_of, Gains.turn_charge, Gains.StaysWith}
use Rattle.eevdf_dozes.specs.Stretches.{Event, Picks, Ticks, Becomes, Watch, BeginsWithPick, picked, ticked, after_events}

-- no task that counts stands past this
abbrev pub NoneStandsPast : Watch → ℤ → State → Type 0
NoneStandsPast w limit q = (t : ℕ) (place : ℤ) → w.counts t ≡ true → place_of q t ≡ Some place → place ≤ℤ limit

-- whatever becomes of the queue besides picks and ticks puts no task that counts past where one of them stood
abbrev pub NoneIsPutPast : Watch → State → List Event → Type 0
NoneIsPutPast w q [] = Unit {0}
NoneIsPutPast w q (Picks ∷ events) = NoneIsPutPast w (picked q) events
NoneIsPutPast w q (Ticks ns ∷ events) = NoneIsPutPast w (ticked q ns) events
NoneIsPutPast w q (Becomes r ∷ events) = ((limit : ℤ) → NoneStandsPast w limit q → NoneStandsPast w limit r) × NoneIsPutPast w r events

-- all runnable tasks count
abbrev pub AllCount : Watch → Tasks → Type 0
AllCount w tasks = (t : ℕ) (e : Entry) → get tasks t ≡ Some e → w.counts t ≡ true

-- the exact virtual time isn't past this time: both sides are times the total weight
abbrev pub IsTimeWithin : Tasks → ℤ → Type 0
IsTimeWithin tasks time = total_moment tasks ≤ℤ (time *ℤ pos (total_weight tasks))

pub record IsPunctual (w : Watch) (r : State) (f : Entry) (most : ℕ) : Type 0 where
  pub none_past : NoneStandsPast w ((f.d +ℤ r.shift) +ℤ pos most) r
  pub late : AllCount w r.runnable → IsTimeWithin r.runnable (f.d +ℤ pos most)

-- where no place is past the deadline of the task that stays by more than the charge of a turn, none ever is: so its request is never later
abbrev pub RequestsStayPunctual : Type 0
RequestsStayPunctual =
    (w : Watch) (q : State) (events : List Event) (e f : Entry) → BeginsWithPick w q events → StaysWith w q events e f
    → NoneIsPutPast w (picked q) events
    → (most : ℕ) → ((t : ℕ) → w.counts t ≡ true → turn_charge w t ≤ most) → NoneStandsPast w ((e.d +ℤ q.shift) +ℤ pos most) q
    → IsPunctual w (after_events (picked q) events) f most

-- the charge of a turn of the lightest task is enough for each
abbrev pub LightestTurnIsLongest : Type 0
LightestTurnIsLongest = (ns : ℕ) (nice : ℤ) → charge_of ns (weight_of nice) ≤ charge_of ns 15
