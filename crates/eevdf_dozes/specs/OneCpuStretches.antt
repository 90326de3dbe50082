-- The laws of a stretch for one CPU of a machine, whatever deeds are done on all its CPUs.
use Rattle.std.specs.Prelude.{◌≡◌, ℕ, ◌+◌, ◌*◌, ◌≤◌, ℤ, pos, ◌+ℤ◌, true, false, List, [], ◌∷◌, length, Some}
use Rattle.std.specs.{FinMap.get, List.AllByRecursion}
use Rattle.eevdf_weight.specs.Weight.{weight_of}
use Rattle.eevdf_queue.specs.{declared.entry.Entry.Entry, State.State, Moves.request_of}
use Rattle.eevdf_ops.specs.{declared.deeds.Deed.Deed, declared.deeds.Deed.TheVariants.Pick, Machine.Machine, Machine.queue_at}
use Rattle.eevdf_ops.specs.{Whole.whole, Whole.lines_of, Whole.machine_after}
use Rattle.eevdf_fairness.specs.{Healing.HasNotYielded}
use Rattle.eevdf_fairness.specs.Lines as lines
use Rattle.eevdf_dozes.specs.{Places.place_of, Shares.time_of}
use Rattle.eevdf_dozes.specs.Stretches.{Event, Watch, IsWatched, BeginsWithPick, picked, after_events, charges}
use Rattle.eevdf_dozes.specs.Gains.{turn_charge, ComesNoFurther, IsLevel, sum_weights}
use Rattle.eevdf_dozes.specs.Punctual.{AllCount, NoneIsPutPast, NoneStandsPast, IsPunctual}
use Rattle.eevdf_dozes.specs.Histories.{Call, Tick, Doze, Wake, Touch, events_of, run_after, AreAllowed, SleepersDoze}
use Rattle.eevdf_dozes.specs.OneCpu.{calls_at, charged_on, AreAllowedDeeds}

-- What the calls may be that deeds come to while one task stays: a turn isn't too long, that task neither dozes nor wakes, and what is
-- touched otherwise is another task, which doesn't count
abbrev pub KeepsTo : Watch → ℕ → Call → Type 0
KeepsTo w ran (Tick ns) = ran + ns ≤ w.turn
KeepsTo w ran (Doze task) = task ≡ w.stays → ⊥
KeepsTo w ran (Wake task) = task ≡ w.stays → ⊥
KeepsTo w ran (Touch task r) = (w.counts task ≡ false) × (task ≡ w.stays → ⊥)
KeepsTo w ran call = Unit {0}

abbrev pub KeepTo : Watch → ℕ → List Call → Type 0
KeepTo w ran [] = Unit {0}
KeepTo w ran (call ∷ calls) = KeepsTo w ran call × KeepTo w (run_after ran call) calls

-- deeds of all CPUs, the first of which is a pick of this one
abbrev pub from_pick : ℕ → List Deed → List Deed
from_pick cpu deeds = Pick cpu ∷ deeds

pub record BeginsOnCpu (w : Watch) (homes : List ℕ) (cpu : ℕ) (m : Machine) (deeds : List Deed) : Type 0 where
  pub allowed : AreAllowedDeeds homes m (from_pick cpu deeds)
  pub watched : IsWatched w (queue_at m cpu)
  pub doze : SleepersDoze w (queue_at m cpu)
  pub keep : KeepTo w 0 (calls_at homes cpu m (from_pick cpu deeds))

-- the CPU's queue in the end
abbrev pub queue_after : List ℕ → ℕ → Machine → List Deed → State
queue_after homes cpu m deeds = queue_at (machine_after homes m (from_pick cpu deeds)) cpu

-- what a task is charged for there
abbrev pub charged_since : List ℕ → ℕ → ℕ → Machine → List Deed → ℕ
charged_since homes cpu task m deeds = charged_on homes cpu task m (from_pick cpu deeds)

-- what becomes of the CPU's queue after the pick
abbrev pub events_on : List ℕ → ℕ → Machine → List Deed → List Event
events_on homes cpu m deeds = events_of (picked (queue_at m cpu)) (calls_at homes cpu (whole homes (Pick cpu) m).1 deeds)

-- all runnable tasks of the CPU count, before each of the deeds
abbrev pub AllCountOn : Watch → List ℕ → ℕ → Machine → List Deed → Type 0
AllCountOn w homes cpu m [] = Unit {0}
AllCountOn w homes cpu m (d ∷ ds) = AllCount w (queue_at m cpu).runnable × AllCountOn w homes cpu (whole homes d m).1 ds

-- that is a stretch, of which each law of stretches speaks: it leaves the CPU's queue, charges what the CPU's ticks do, and for the time
-- that the lines tell
pub record IsStretchOn (w : Watch) (homes : List ℕ) (cpu : ℕ) (m : Machine) (deeds : List Deed) : Type 0 where
  pub begins : BeginsWithPick w (queue_at m cpu) (events_on homes cpu m deeds)
  pub allowed : AreAllowed w 0 (picked (queue_at m cpu)) (calls_at homes cpu (whole homes (Pick cpu) m).1 deeds)
  pub after : after_events (picked (queue_at m cpu)) (events_on homes cpu m deeds) ≡ queue_after homes cpu m deeds
  pub charged : (task : ℕ) → charges task (picked (queue_at m cpu)) (events_on homes cpu m deeds) ≡ charged_since homes cpu task m deeds
  pub times : (task : ℕ) → time_of task (picked (queue_at m cpu)) (events_on homes cpu m deeds)
      ≡ lines.time_of task cpu (lines_of homes m (from_pick cpu deeds))
  pub none_past : AllCountOn w homes cpu m (from_pick cpu deeds) → NoneIsPutPast w (picked (queue_at m cpu)) (events_on homes cpu m deeds)

abbrev pub OneCpuHasStretch : Type 0
OneCpuHasStretch =
    (w : Watch) (homes : List ℕ) (cpu : ℕ) (m : Machine) (deeds : List Deed) → BeginsOnCpu w homes cpu m deeds
    → IsStretchOn w homes cpu m deeds

-- ---- so the laws hold of the CPU
-- the task that stays has one entry at first and another one in the end
pub record StaysOnCpu (w : Watch) (homes : List ℕ) (cpu : ℕ) (m : Machine) (deeds : List Deed) (e f : Entry) : Type 0 where
  pub at_first : get (queue_at m cpu).runnable w.stays ≡ Some e
  pub in_the_end : get (queue_after homes cpu m deeds).runnable w.stays ≡ Some f

-- a task that counts comes no further than a turn past the deadline that the one that stays has in the end
abbrev pub NoneRunsFarPastOnCpu : Type 0
NoneRunsFarPastOnCpu =
    (w : Watch) (homes : List ℕ) (cpu : ℕ) (m : Machine) (deeds : List Deed) (e f : Entry) → BeginsOnCpu w homes cpu m deeds
    → StaysOnCpu w homes cpu m deeds e f
    → (t : ℕ) (place : ℤ) → w.counts t ≡ true → place_of (queue_at m cpu) t ≡ Some place
    → ComesNoFurther place (charged_since homes cpu t m deeds)
    ((f.d +ℤ (queue_after homes cpu m deeds).shift) +ℤ pos (turn_charge w t))

-- so it is charged for no more than the one that stays, that one's request, a turn and what it was behind that one at first
abbrev pub NobodyGainsOnCpu : Type 0
NobodyGainsOnCpu =
    (w : Watch) (homes : List ℕ) (cpu : ℕ) (m : Machine) (deeds : List Deed) (e f : Entry) → BeginsOnCpu w homes cpu m deeds
    → StaysOnCpu w homes cpu m deeds e f → HasNotYielded f
    → (t : ℕ) (place : ℤ) → w.counts t ≡ true → place_of (queue_at m cpu) t ≡ Some place
    → ComesNoFurther place (charged_since homes cpu t m deeds)
    ((e.v +ℤ (queue_at m cpu).shift) +ℤ pos (charged_since homes cpu w.stays m deeds + request_of f.nice f.slice + turn_charge w t))

-- the sum of weight times charges
abbrev pub sum_charged : Watch → List ℕ → ℕ → Machine → List Deed → List ℕ → ℕ
sum_charged w homes cpu m deeds [] = 0
sum_charged w homes cpu m deeds (t ∷ ts) =
    weight_of (w.nice_of t) * charged_since homes cpu t m deeds + sum_charged w homes cpu m deeds ts

-- together such tasks are charged for no more than their weight times what the one that stays is charged for and its request, and a turn
-- for each of them
abbrev pub TogetherNobodyGainsOnCpu : Type 0
TogetherNobodyGainsOnCpu =
    (w : Watch) (homes : List ℕ) (cpu : ℕ) (m : Machine) (deeds : List Deed) (e f : Entry) → BeginsOnCpu w homes cpu m deeds
    → StaysOnCpu w homes cpu m deeds e f → HasNotYielded f
    → (ts : List ℕ) → AllByRecursion (IsLevel w (queue_at m cpu) e) ts
    → sum_charged w homes cpu m deeds ts
    ≤ sum_weights w ts * (charged_since homes cpu w.stays m deeds + request_of f.nice f.slice) + length ts * (1024 * w.turn)

-- and while all its runnable tasks count, no request is later than a turn of the lightest that counts
abbrev pub RequestsStayPunctualOnCpu : Type 0
RequestsStayPunctualOnCpu =
    (w : Watch) (homes : List ℕ) (cpu : ℕ) (m : Machine) (deeds : List Deed) (e f : Entry) → BeginsOnCpu w homes cpu m deeds
    → StaysOnCpu w homes cpu m deeds e f → AllCountOn w homes cpu m (from_pick cpu deeds)
    → (most : ℕ) → ((t : ℕ) → w.counts t ≡ true → turn_charge w t ≤ most)
    → NoneStandsPast w ((e.d +ℤ (queue_at m cpu).shift) +ℤ pos most) (queue_at m cpu)
    → IsPunctual w (queue_after homes cpu m deeds) f most
