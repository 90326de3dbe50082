-- The shares of tasks that stay and of tasks that doze on one CPU of a machine, by the time that the lines of a history tell.
use Rattle.std.specs.Prelude.{◌≡◌, ℕ, ◌+◌, ◌≤◌, ℤ, ◌+ℤ◌, ◌≤ℤ◌, true, List, [], ◌∷◌, Some}
use Rattle.std.specs.List.{AllByRecursion}
use Rattle.eevdf_weight.specs.Weight.{weight_of}
use Rattle.eevdf_queue.specs.{declared.entry.Entry.Entry}
use Rattle.eevdf_ops.specs.{declared.deeds.Deed.Deed, declared.deeds.Deed.TheVariants.Tick, declared.deeds.Line.Line}
use Rattle.eevdf_ops.specs.{Machine.Machine, Machine.queue_at, Whole.lines_of}
use Rattle.eevdf_fairness.specs.{Healing.HasNotYielded, Lines.time_of}
use Rattle.eevdf_dozes.specs.{Places.place_of, Stretches.Watch, Gains.IsLevel, Gains.sum_weights}
use Rattle.eevdf_dozes.specs.Shares.{LosesNoMore, HasShareOfTime, lack_of, HasNoMoreOfTime, numbers, sum_slices}
use Rattle.eevdf_dozes.specs.OneCpuStretches.{from_pick, BeginsOnCpu, StaysOnCpu}

-- the time that these tasks run on a CPU, together
abbrev pub times_on : ℕ → List Line → List ℕ → ℕ
times_on cpu lines [] = 0
times_on cpu lines (t ∷ ts) = time_of t cpu lines + times_on cpu lines ts

-- a tick of this CPU is no shorter than this
abbrev pub IsNoShorter : ℕ → ℕ → Deed → Type 0
IsNoShorter cpu least (Tick at ns) = cpu ≡ at → least ≤ ns
IsNoShorter cpu least deed = Unit {0}

-- one that stays, and keeps its nice level, has its share beside others, whatever these doze, where none of them was behind it at first
abbrev pub WhoStaysHasItsShareOnCpu : Type 0
WhoStaysHasItsShareOnCpu =
    (w : Watch) (homes : List ℕ) (cpu : ℕ) (m : Machine) (deeds : List Deed) (e f : Entry) → BeginsOnCpu w homes cpu m deeds
    → StaysOnCpu w homes cpu m deeds e f → HasNotYielded f
    → w.counts w.stays ≡ true → (ts : List ℕ) → AllByRecursion (IsLevel w (queue_at m cpu) e) ts
    → (least most : ℕ) → AllByRecursion (IsNoShorter cpu least) deeds → AllByRecursion (LosesNoMore most w) (w.stays ∷ ts)
    → HasShareOfTime (weight_of (w.nice_of w.stays)) (sum_weights w ts) (lack_of w f ts) least most
    (times_on cpu (lines_of homes m (from_pick cpu deeds)) (w.stays ∷ ts)) (time_of w.stays cpu (lines_of homes m (from_pick cpu deeds)))

-- ---- one that counts, beside tasks that stay on the CPU
-- such a task: it has this entry in the end, no yield has made its request longer, and the other wasn't behind it at first
pub record IsBesideOnCpu (w : Watch) (homes : List ℕ) (cpu : ℕ) (m : Machine) (deeds : List Deed) (place : ℤ) (task : ℕ × Entry)
    : Type 0 where
  pub begins : BeginsOnCpu (record w { stays = task.0 }) homes cpu m deeds
  pub entry : Entry
  pub stays : StaysOnCpu (record w { stays = task.0 }) homes cpu m deeds entry task.1
  pub short : HasNotYielded task.1
  pub counts : w.counts task.0 ≡ true
  pub not_behind : (entry.v +ℤ (queue_at m cpu).shift) ≤ℤ place

-- it has no more than its share of the time that they run together there, and of their slices, and of a turn what is theirs
abbrev pub WhoSleepsHasNoMoreOnCpu : Type 0
WhoSleepsHasNoMoreOnCpu =
    (w : Watch) (homes : List ℕ) (cpu : ℕ) (m : Machine) (deeds : List Deed) (t : ℕ) (place : ℤ) (ts : List (ℕ × Entry)) → w.counts t ≡ true
    → place_of (queue_at m cpu) t ≡ Some place → AllByRecursion (IsBesideOnCpu w homes cpu m deeds place) ts
    → (least most : ℕ) → AllByRecursion (IsNoShorter cpu least) deeds → LosesNoMore most w t
    → HasNoMoreOfTime (weight_of (w.nice_of t)) (sum_weights w (numbers ts)) (sum_slices ts) w.turn least most
    (times_on cpu (lines_of homes m (from_pick cpu deeds)) (t ∷ numbers ts)) (time_of t cpu (lines_of homes m (from_pick cpu deeds)))
