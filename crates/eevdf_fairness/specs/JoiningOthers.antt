-- The deeds by which a task joins others, as the law of any joins has it, and when tasks are level.
use Rattle.std.specs.Prelude.{◌≡◌, ℕ, ◌≤◌, true, ℤ, pos, ◌-ℤ◌, ◌≤ℤ◌, unsigned_abs, Option, Some, None}
use Rattle.std.specs.{FinMap.get, Int.int_max}
use Rattle.eevdf_queue.specs.{declared.entry.Entry.Entry, declared.sleeper.Sleeper.Sleeper, State.State, Sums.Tasks, Sums.total_weight, Leaving.leave, Renice.renice, Attributes.set}
use Rattle.eevdf_queue.specs.{declared.answers.ReniceAnswer.TheVariants.Reniced, declared.answers.SetAnswer.TheVariants.Set}
use Rattle.eevdf_queue.specs.{declared.answers.WakeAnswer.TheVariants.Woken, Lag.is_lag, Placing.placement, Wake.wake}
use Rattle.eevdf_fairness.specs.{Turns.IsFresh, Joining.Joins, JoiningDeeds.HasOthers, OneCpuJoins.AreLevel, OneCpuJoins.JoinsOthers}

-- others are runnable beside a task that is so too
pub record IsBesideOthers (q : State) (task : ℕ) (e : Entry) : Type 0 where
  pub here : get q.runnable task ≡ Some e
  pub some : 1 ≤ total_weight (leave q task).runnable

-- how far past its placement a wake puts a task: where it dozes its place may be later
abbrev pub past_placement : State → Sleeper → Option ℤ → ℕ
past_placement q s None = 0
past_placement q s (Some place) = unsigned_abs (int_max (pos 0) ((place -ℤ q.shift) -ℤ placement q s))

-- a task joins others by a wake, wherever that puts it
pub record WakesAmongOthers (q : State) (task : ℕ) (s : Sleeper) : Type 0 where
  pub joins : JoinsOthers q task (wake q task).1
  pub sleeper : joins.sleeper ≡ s
  pub past : joins.past ≡ past_placement q s (get q.places task)

pub record DeedsJoinOthers : Type 0 where
  -- a wake of a task without a place, and a pull at the CPU that pulls, by which a task joins others (`DeedsJoin`)
  pub joins : (q : State) (task : ℕ) (s : Sleeper) (r : State) → Joins q task s r → JoinsOthers q task r
  -- a wake that is done, at the later of the placement and the place
  pub wakes : (q : State) (task : ℕ) (s : Sleeper) → HasOthers q task → is_lag s.lag s.nice s.slice ≡ true → get q.asleep task ≡ Some s
      → (wake q task).0 ≡ Woken → WakesAmongOthers q task s
  -- a renice that is done
  pub renices : (q : State) (task : ℕ) (nice : ℤ) (e : Entry) → IsBesideOthers q task e → (renice q task nice).0 ≡ Reniced
      → JoinsOthers q task (renice q task nice).1
  -- a set that is done, of a runnable task
  pub sets : (q : State) (task : ℕ) (nice : ℤ) (slice : ℕ) (e : Entry) → IsBesideOthers q task e → (set q task nice slice).0 ≡ Set
      → JoinsOthers q task (set q task nice slice).1

-- a fresh start is level, and so is a task alone that has something left of its request
pub record StartsAreLevel : Type 0 where
  pub fresh : (v : ℤ) (tasks : Tasks) → IsFresh v tasks → AreLevel tasks
  pub alone : (tasks : Tasks) (e : Entry) → ((t : ℕ) (f : Entry) → get tasks t ≡ Some f → f ≡ e) → e.v ≤ℤ e.d → AreLevel tasks
