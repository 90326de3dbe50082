-- How a task with a lag joins a queue.
use Rattle.std.specs.Prelude.{ℕ, ◌==◌, ◌*◌, ◌^◌, ◌≤◌, ℤ, unsigned_abs, Bool, is_some, if◌then◌else◌, Option}
use Rattle.eevdf_weight.specs.{Weight.weight_of, Placement.placement_of}
use Rattle.eevdf_queue.specs.{declared.entry.Entry.Entry, State.State, State.Sleeper}
use Rattle.eevdf_queue.specs.{Sums.total_weight, Sums.virtual_time}
use Rattle.eevdf_queue.specs.Moves.{fresh_entry, entry_in_range, with_runnable}

-- the virtual runtime that a task gets at a virtual time: beside others of this total weight so far from that time that,
-- but for rounding, its lag stays what it was, and alone the time itself
abbrev pub runtime_of : ℤ → ℕ → ℤ → ℤ → ℤ
runtime_of time total lag nice = if total == 0 then time else placement_of time total lag (weight_of nice)

-- the virtual runtime that the task gets in a queue
abbrev pub placement : State → Sleeper → ℤ
placement q s = runtime_of (virtual_time q) (total_weight q.runnable) s.lag s.nice

-- the entry that it gets; none where that is out of range
abbrev pub placed_entry : State → Sleeper → Option Entry
placed_entry q s = entry_in_range (fresh_entry (placement q s) s.nice s.slice)

abbrev pub can_place : State → Sleeper → Bool
can_place q s = is_some (placed_entry q s)

-- the queue with the task runnable; none where its entry would be out of range
abbrev pub put : State → ℕ → Sleeper → Option State
put q task s = with_runnable q task (placed_entry q s)

-- tasks with these sums have a virtual time so far within its range that any task can join them
pub record IsRoomy (weight : ℕ) (moment : ℤ) : Type 0 where
  pub some : 1 ≤ weight
  pub small : unsigned_abs moment ≤ 2 ^ 59 * weight
