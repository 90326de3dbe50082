-- Picks, ticks, leavings, rebases, yields and joins of one CPU of a machine, in whatever order, among whatever the other CPUs do.
use Rattle.std.specs.Prelude.{◌≡◌, ℕ, ◌+◌, ◌-◌, ◌*◌, ◌/◌, ◌<◌, ◌≤◌, true, ℤ, pos, ◌+ℤ◌, ◌*ℤ◌, ◌≤ℤ◌, List, [], ◌∷◌, length, if◌then◌else◌, Option, Some, None}
use Rattle.std.specs.{Option.option_map, List.AllByRecursion, FinMap.get, FinMap.insert}
use Rattle.eevdf_weight.specs.Weight.{weight_of}
use Rattle.eevdf_queue.specs.{declared.entry.Entry.Entry, declared.sleeper.Sleeper.Sleeper, State.State, Candidate.is_running, Lag.is_lag, Leaving.leave, Placing.placement, Moves.fresh_entry, Moves.request_of}
use Rattle.eevdf_queue.specs.Sums.{Tasks, total_weight, total_moment}
use Rattle.eevdf_ops.specs.{declared.deeds.Deed.Deed, Machine.Machine, Machine.queue_at, Whole.whole, Whole.machine_after}
use Rattle.eevdf_fairness.specs.{Anywhere.NoneIsPast, Fair.turns_of_others, Healing.HasNotYielded, Joining.lag_limit}
use Rattle.eevdf_fairness.specs.OneCpuSteps.{Change, Picks, Ticks, Lowers, Gains, Yields, change_at}

-- no virtual runtime is past a time, and no deadline is before it: so it is at a fresh start, and where one task is runnable, or none
pub record AreLevel (tasks : Tasks) : Type 0 where
  pub time : ℤ
  pub none_past : NoneIsPast time tasks
  pub none_due : (t : ℕ) (e : Entry) → get tasks t ≡ Some e → time ≤ℤ e.d

-- Since they were level: what is left of the turn, none where no tick may come before the next pick; by how much requests may be late, beyond
-- turns of the others; and who has joined.
pub record Course : Type 0 where
  pub left : Option ℕ
  pub late : ℕ
  pub joined : List ℕ

abbrev pub begun : Course
begun = record { left = None; late = 0; joined = [] }

-- how far past the deadline of another request the placement of a task can be among tasks that may be late by their turns and `late` more
abbrev pub reach_past : ℕ → ℕ → Tasks → Sleeper → ℕ
reach_past ns late tasks s =
    ((turns_of_others ns tasks + late) + lag_limit s * (total_weight tasks + weight_of s.nice)) / total_weight tasks + 1

-- A task joins others with a lag within its limit, at its placement or so far past it. It has left them first, where it was there; its next
-- request may be of another slice
pub record JoinsOthers (q : State) (task : ℕ) (r : State) : Type 0 where
  pub sleeper : Sleeper
  pub past : ℕ
  pub next : ℕ
  pub some : 1 ≤ total_weight (leave q task).runnable
  pub limited : is_lag sleeper.lag sleeper.nice sleeper.slice ≡ true
  pub joined : r.runnable
      ≡ insert (leave q task).runnable task
      (record (fresh_entry ((placement (leave q task) sleeper) +ℤ pos past) sleeper.nice sleeper.slice) { slice = next })

abbrev pub IsWithinTurn : Option ℕ → ℕ → Type 0
IsWithinTurn None t = ⊥
IsWithinTurn (Some rest) t = t ≤ rest

-- a change that may come then, by which the queue `q` is `r`
abbrev pub MayCome : Course → State → Option Change → State → Type 0
MayCome x q (Some (Ticks t)) r = IsWithinTurn x.left t
MayCome x q (Some (Gains task)) r = JoinsOthers q task r
MayCome x q change r = Unit {0}

-- The course after it, with turns of at most so many nanoseconds. A join adds to how late others may be what the weight of its task times its
-- reach is more than a turn. The next tick needs a pick after a rebase, a yield, and a join of the task that runs.
abbrev pub course_by : (ns : ℕ) (x : Course) (q : State) (change : Option Change) (r : State) → MayCome x q change r → Course
course_by ns x q (Some Picks) r may = record x { left = Some ns }
course_by ns x q (Some (Ticks t)) r may = record x { left = option_map (λ rest. rest - t) x.left }
course_by ns x q (Some Lowers) r may = record x { left = None }
course_by ns x q (Some Yields) r may = record x { left = None }
course_by ns x q (Some (Gains task)) r may = record {
  left = if is_running q.running task then None else x.left;
  late = x.late + (weight_of may.sleeper.nice * (reach_past ns x.late (leave q task).runnable may.sleeper + may.past) - 1024 * ns);
  joined = task ∷ x.joined;
}
course_by ns x q change r may = x

-- it comes so, or the tasks are level after it, and all begins anew
pub data Follows (x : Course) (q : State) (change : Option Change) (r : State) : Type 0 where
  Comes : MayCome x q change r → Follows x q change r
  BeginsAnew : AreLevel r.runnable → Follows x q change r

abbrev pub course_after : (ns : ℕ) (x : Course) (q : State) (change : Option Change) (r : State) → Follows x q change r → Course
course_after ns x q change r (Comes may) = course_by ns x q change r may
course_after ns x q change r (BeginsAnew level) = begun

-- what a deed changes at a CPU
abbrev pub change_by : List ℕ → ℕ → Machine → Deed → Option Change
change_by homes cpu m d = change_at cpu (queue_at m cpu) d (whole homes d m).0

-- deeds of all CPUs, of which those that change this CPU's runnable tasks or who runs there may come one after the other
abbrev pub MayFollow : (homes : List ℕ) (cpu ns : ℕ) → Course → Machine → List Deed → Type 0
MayFollow homes cpu ns x m [] = Unit {0}
MayFollow homes cpu ns x m (d ∷ ds) =
    (follows : Follows x (queue_at m cpu) (change_by homes cpu m d) (queue_at (whole homes d m).1 cpu))
    × MayFollow homes cpu ns (course_after ns x (queue_at m cpu) (change_by homes cpu m d) (queue_at (whole homes d m).1 cpu) follows) (whole homes d m).1 ds

abbrev pub course_of : (homes : List ℕ) (cpu ns : ℕ) (x : Course) (m : Machine) (deeds : List Deed) → MayFollow homes cpu ns x m deeds → Course
course_of homes cpu ns x m [] all = x
course_of homes cpu ns x m (d ∷ ds) all =
    course_of homes cpu ns (course_after ns x (queue_at m cpu) (change_by homes cpu m d) (queue_at (whole homes d m).1 cpu) all.0) (whole homes d m).1 ds all.1

abbrev pub HasNotJoined : Course → ℕ → Type 0
HasNotJoined x t = AllByRecursion (λ task. t ≡ task → ⊥) x.joined

pub record IsFairBeyond (ns beyond : ℕ) (tasks : Tasks) (e : Entry) : Type 0 where
  pub late : total_moment tasks ≤ℤ ((e.d *ℤ pos (total_weight tasks)) +ℤ pos (turns_of_others ns tasks + beyond))
  pub behind : HasNotYielded e → total_moment tasks
      ≤ℤ ((e.v *ℤ pos (total_weight tasks)) +ℤ pos (total_weight tasks * request_of e.nice e.slice + (turns_of_others ns tasks + beyond)))

-- However many tasks join there, in the middle of turns too: no request of a task that was there all along since the tasks were level is late
-- by more than turns of the others and what the joins add, nor is that task behind by more than its slice besides, where it hasn't yielded.
abbrev pub OneCpuJoinsKeepFair : Type 0
OneCpuJoinsKeepFair =
    (homes : List ℕ) (m : Machine) (cpu : ℕ) (deeds : List Deed) (ns : ℕ) → cpu < length m → AreLevel (queue_at m cpu).runnable
    → (all : MayFollow homes cpu ns begun m deeds) → (t : ℕ) (e : Entry) → HasNotJoined (course_of homes cpu ns begun m deeds all) t
    → get (queue_at (machine_after homes m deeds) cpu).runnable t ≡ Some e
    → IsFairBeyond ns (course_of homes cpu ns begun m deeds all).late (queue_at (machine_after homes m deeds) cpu).runnable e
