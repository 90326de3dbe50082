-- How a task leaves a queue, or falls asleep, through C.
use Rattle.std.specs.Prelude.{◌≡◌, ℕ, zero, suc, ◌<◌, ℤ, Option, Some, None}
use Rattle.std.specs.Option.{option_map}
use Rattle.std.specs.FinMap as map
use Rattle.eevdf_queue.specs.{declared.entry.Entry.Entry, State.State, declared.sleeper.Sleeper.Sleeper, State.Contents}
use Rattle.eevdf_queue.specs.{Numbers.checked_number, Numbers.number_limit, Moves.put_asleep, Lag.kept_lag}
use Rattle.eevdf_queue.specs.Leaving.{leaving, leaving_asleep, without_entry, without_sleeper, carried_running, leave_running, IsNowhere}
use Rattle.eevdf_queue.specs.Doze as dozes
use Rattle.eevdf_c.specs.{Codes.done, Codes.absent, Codes.invalid, Found.found_code, Found.found_or}

abbrev pub sleep_with : State → ℕ → Option Contents → ℤ × State
sleep_with q task None = (absent, q)
sleep_with q task (Some p) = (done, put_asleep (leave_running q task) p)

abbrev pub sleep_by : State → Option ℕ → ℤ × State
sleep_by q None = (invalid, q)
sleep_by q (Some task) = sleep_with q task (carried_running q task)

-- the running task falls asleep: what is answered, and the state afterwards
abbrev pub sleep : State → ℕ → ℤ × State
sleep q number = sleep_by q (checked_number number)

abbrev pub doze_by : State → Option ℕ → ℤ × State
doze_by q None = (invalid, q)
doze_by q (Some task) = (found_code (dozes.dozed_lag q task), dozes.doze q task)

-- the running task falls asleep and is held to its place: what is answered, and the state afterwards
abbrev pub doze : State → ℕ → ℤ × State
doze q number = doze_by q (checked_number number)

abbrev pub told_doze_by : State → ℤ → Option ℕ → ℤ
told_doze_by q other None = other
told_doze_by q other (Some task) = found_or other (dozes.dozed_lag q task)

-- what stands afterwards where the lag is to be written with which it leaves
abbrev pub told_doze : State → ℤ → ℕ → ℤ
told_doze q other number = told_doze_by q other (checked_number number)

abbrev pub carried_by : State → ℕ → Option Entry → Option Sleeper → Option Contents
carried_by q task (Some e) s = Some (leaving task (kept_lag q e) e)
carried_by q task None s = option_map (leaving_asleep q task) s

-- what a task that is here, runnable or asleep, takes along
abbrev pub carried_out : State → ℕ → Option Contents
carried_out q task = carried_by q task (map.get q.runnable task) (map.get q.asleep task)

abbrev pub gone_by : State → ℕ → Option Entry → Option Sleeper → State
gone_by q task (Some e) s = without_entry q task (Some e)
gone_by q task None s = without_sleeper q task s

-- the queue without it
abbrev pub gone : State → ℕ → State
gone q task = gone_by q task (map.get q.runnable task) (map.get q.asleep task)

abbrev pub end_with : State → Option Contents → State → ℤ × State
end_with q None after = (absent, q)
end_with q (Some p) after = (done, after)

abbrev pub end_by : State → Option ℕ → ℤ × State
end_by q None = (invalid, q)
end_by q (Some task) = end_with q (carried_out q task) (gone q task)

-- a task ends: what is answered, and the state afterwards
abbrev pub end : State → ℕ → ℤ × State
end q number = end_by q (checked_number number)

-- the queue when the tasks of the numbers below this one have ended, one after the other
unfoldable pub ended_below : State → ℕ → State
ended_below q zero = q
ended_below q (suc k) = (end_by (ended_below q k) (Some k)).1

-- the queue when all have
abbrev pub closed : State → State
closed q = ended_below q number_limit

-- each task of a number below this one is neither runnable nor asleep here
abbrev pub AreGone : State → ℕ → Type 0
AreGone q k = (t : ℕ) → t < k → IsNowhere q t

-- no task is here
pub record IsEmptied (q : State) : Type 0 where
  pub runnable : q.runnable ≡ map.empty
  pub asleep : q.asleep ≡ map.empty
  pub running : q.running ≡ None
  pub places : q.places ≡ map.empty
