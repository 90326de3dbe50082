-- The laws of later moments for one CPU of a machine, whatever deeds are done on all its CPUs.
use Rattle.std.specs.Prelude.{◌≡◌, ℕ, ◌+◌, ◌≤◌, true, false, is_some, List, [], ◌∷◌, ◌++◌, Some}
use Rattle.std.specs.{FinMap.get, List.AllByRecursion}
use Rattle.eevdf_queue.specs.{declared.entry.Entry.Entry, Moves.request_of}
use Rattle.eevdf_ops.specs.{declared.deeds.Deed.Deed, Machine.Machine, Machine.queue_at, Whole.whole, Whole.machine_after}
use Rattle.eevdf_fairness.specs.{Healing.HasNotYielded}
use Rattle.eevdf_dozes.specs.{Stretches.Watch, Stretches.HaveLevels, Stretches.NoneIsPastDue, Gains.turn_charge, Shares.times_in}
use Rattle.eevdf_dozes.specs.Histories.{Call, Tick, Touch, run_after, SleepersDoze}
use Rattle.eevdf_dozes.specs.Bounds.{Bounds, IsWithin, AllAreWithin, LeavesWithin}
use Rattle.eevdf_dozes.specs.Ahead.{AreTheOthers, IsAheadByNoMore, most_ahead}
use Rattle.eevdf_dozes.specs.Apart.{SomeIsRunnable, AreTogether, RunnersAreRunnable, IsLeast, AreApartByNoMore, most_apart}
use Rattle.eevdf_dozes.specs.Apart.{most_ahead_later}
use Rattle.eevdf_dozes.specs.OneCpu.{calls_at, charged_on, AreAllowedDeeds}
use Rattle.eevdf_dozes.specs.OneCpuStretches.{KeepTo, from_pick, queue_after, charged_since, BeginsOnCpu}

-- the CPU's queue is within the bounds, before each of the deeds and after the last
abbrev pub IsWithinOn : Watch → Bounds → List ℕ → ℕ → Machine → List Deed → Type 0
IsWithinOn w b homes cpu m [] = IsWithin w b (queue_at m cpu)
IsWithinOn w b homes cpu m (d ∷ ds) = IsWithin w b (queue_at m cpu) × IsWithinOn w b homes cpu (whole homes d m).1 ds

-- and so it is where the calls that the deeds come to keep within them
abbrev pub BoundsAreKeptOnCpu : Type 0
BoundsAreKeptOnCpu =
    (w : Watch) (b : Bounds) (homes : List ℕ) (cpu ran : ℕ) (m : Machine) (deeds : List Deed) → AreAllowedDeeds homes m deeds
    → KeepTo w ran (calls_at homes cpu m deeds) → AllAreWithin w b (queue_at m cpu)
    → AllByRecursion (LeavesWithin w b) (calls_at homes cpu m deeds) → IsWithinOn w b homes cpu m deeds

-- ---- one task stays all along
-- the first of the deeds is a pick of the CPU, before which the task that stays is ahead of nobody there by more than the longest request
pub record BeginsLevelOnCpu (w : Watch) (b : Bounds) (homes : List ℕ) (cpu : ℕ) (m : Machine) (deeds : List Deed) : Type 0 where
  pub begins : BeginsOnCpu w homes cpu m deeds
  pub counts : w.counts w.stays ≡ true
  pub others : AreTheOthers w b.others
  pub level : IsAheadByNoMore w (queue_at m cpu) b.request
  pub within : IsWithinOn w b homes cpu m (from_pick cpu deeds)

-- then it is never far ahead there
abbrev pub NobodyIsEverFarAheadOnCpu : Type 0
NobodyIsEverFarAheadOnCpu =
    (w : Watch) (b : Bounds) (homes : List ℕ) (cpu : ℕ) (m : Machine) (deeds : List Deed) → BeginsLevelOnCpu w b homes cpu m deeds
    → IsAheadByNoMore w (queue_after homes cpu m deeds) (most_ahead w b)

-- and so from any later moment on a task that counts is charged for no more there than the one that stays, its request, a turn, and that
abbrev pub NobodyEverGainsOnCpu : Type 0
NobodyEverGainsOnCpu =
    (w : Watch) (b : Bounds) (homes : List ℕ) (cpu : ℕ) (m n : Machine) (before deeds : List Deed) (f : Entry)
    → BeginsLevelOnCpu w b homes cpu m (before ++ deeds) → machine_after homes m (from_pick cpu before) ≡ n
    → get (queue_at (machine_after homes n deeds) cpu).runnable w.stays ≡ Some f → HasNotYielded f
    → (t : ℕ) → w.counts t ≡ true
    → charged_on homes cpu t n deeds ≤ charged_on homes cpu w.stays n deeds + request_of f.nice f.slice + turn_charge w t + most_ahead w b

-- ---- all tasks may doze
-- what the calls may be that deeds come to then: a turn isn't too long, and what is touched otherwise is a task that doesn't count
abbrev pub KeepsToAll : Watch → ℕ → Call → Type 0
KeepsToAll w ran (Tick ns) = ran + ns ≤ w.turn
KeepsToAll w ran (Touch task r) = w.counts task ≡ false
KeepsToAll w ran call = Unit {0}

abbrev pub KeepToAll : Watch → ℕ → List Call → Type 0
KeepToAll w ran [] = Unit {0}
KeepToAll w ran (call ∷ calls) = KeepsToAll w ran call × KeepToAll w (run_after ran call) calls

-- some task is runnable on the CPU, before each of the deeds
abbrev pub SomeIsRunnableOn : List ℕ → ℕ → Machine → List Deed → Type 0
SomeIsRunnableOn homes cpu m [] = Unit {0}
SomeIsRunnableOn homes cpu m (d ∷ ds) = SomeIsRunnable (queue_at m cpu) × SomeIsRunnableOn homes cpu (whole homes d m).1 ds

pub record BeginsTogetherOnCpu (w : Watch) (b : Bounds) (homes : List ℕ) (cpu ran : ℕ) (m : Machine) (deeds : List Deed) : Type 0 where
  pub allowed : AreAllowedDeeds homes m deeds
  pub levels : HaveLevels w (queue_at m cpu).runnable
  pub due : NoneIsPastDue (queue_at m cpu).runnable
  pub doze : SleepersDoze w (queue_at m cpu)
  pub runner : RunnersAreRunnable (queue_at m cpu)
  pub together : AreTogether w b (queue_at m cpu)
  pub listed : (t : ℕ) → w.counts t ≡ true → 1 ≤ times_in t b.others
  pub keep : KeepToAll w ran (calls_at homes cpu m deeds)
  pub within : IsWithinOn w b homes cpu m deeds
  pub some : SomeIsRunnableOn homes cpu m deeds

abbrev pub NobodyIsEverFarApartOnCpu : Type 0
NobodyIsEverFarApartOnCpu =
    (w : Watch) (b : Bounds) (least : ℕ) (homes : List ℕ) (cpu ran : ℕ) (m : Machine) (deeds : List Deed) → IsLeast w least
    → BeginsTogetherOnCpu w b homes cpu ran m deeds → AreApartByNoMore (queue_at (machine_after homes m deeds) cpu) (most_apart w b least)

-- after such deeds a task stays there, from a pick of the CPU on
pub record StaysLaterOnCpu (w : Watch) (b : Bounds) (homes : List ℕ) (cpu : ℕ) (n : Machine) (deeds : List Deed) (f : Entry) : Type 0 where
  pub allowed : AreAllowedDeeds homes n (from_pick cpu deeds)
  pub here : is_some (get (queue_at n cpu).runnable w.stays) ≡ true
  pub keep : KeepTo w 0 (calls_at homes cpu n (from_pick cpu deeds))
  pub within : IsWithinOn w b homes cpu n (from_pick cpu deeds)
  pub in_the_end : get (queue_after homes cpu n deeds).runnable w.stays ≡ Some f
  pub short : HasNotYielded f

-- then each that counts is charged for no more there than that one, its request, a turn, and a constant
abbrev pub NobodyGainsLaterOnCpu : Type 0
NobodyGainsLaterOnCpu =
    (w : Watch) (b : Bounds) (least : ℕ) (homes : List ℕ) (cpu ran : ℕ) (m n : Machine) (before deeds : List Deed) (f : Entry)
    → IsLeast w least → BeginsTogetherOnCpu w b homes cpu ran m before → machine_after homes m before ≡ n
    → StaysLaterOnCpu w b homes cpu n deeds f
    → (t : ℕ) → w.counts t ≡ true
    → charged_since homes cpu t n deeds
    ≤ charged_since homes cpu w.stays n deeds + request_of f.nice f.slice + turn_charge w t + most_ahead_later w b least
