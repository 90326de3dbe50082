-- What the deeds of a machine are to the queue of one of its CPUs: calls of it, one after the other.
use Rattle.std.specs.Prelude.{◌≡◌, ℕ, ◌+◌, ◌==◌, true, if◌then◌else◌, List, [], ◌∷◌, length, Option, Some, None}
use Rattle.std.specs.List.{AllByRecursion}
use Rattle.eevdf_queue.specs.State.{State}
use Rattle.eevdf_ops.specs.{declared.deeds.Deed.Deed, declared.deeds.Answer.Answer}
use Rattle.eevdf_ops.specs.declared.deeds.Deed.TheVariants as deed
use Rattle.eevdf_ops.specs.declared.deeds.Answer.TheVariants.{Slept, Woken, Pulled, Reniced, Begun, Ended}
use Rattle.eevdf_ops.specs.declared.deeds.Answer.TheVariants as answer
use Rattle.eevdf_ops.specs.{Machine.Machine, Machine.queue_at, Parts.touches, Places.AreCpus, Setup.home_of, Setup.is_allowed}
use Rattle.eevdf_ops.specs.{Whole.whole, Whole.lines_of, Whole.machine_after}
use Rattle.eevdf_fairness.specs.Lines as lines
use Rattle.eevdf_dozes.specs.{Stretches.charged_for, Shares.time_of, Ahead.charged_by}
use Rattle.eevdf_dozes.specs.Histories.{Call, Pick, Tick, Doze, Wake, Yield, Rebase, Touch, events_of, after_calls, AreCalls}

-- A deed with its answer, as a call of a queue that it touches and leaves as `r`; by any other answer it changes nothing there. A doze is
-- one where the task's home is: elsewhere the task leaves the one queue, and sleeps in the other. A deed of any other kind touches one task
abbrev pub call_of : List ℕ → Deed → Answer → State → Option Call
call_of homes (deed.Tick at ns) answer r = Some (Tick ns)
call_of homes (deed.Pick at) answer r = Some Pick
call_of homes (deed.Yield at) answer r = Some Yield
call_of homes (deed.Rebase at) answer r = Some Rebase
call_of homes (deed.Wake at task sender) Woken r = Some (Wake task)
call_of homes (deed.Doze at task) (Slept lag) r = Some (if home_of homes task == at then Doze task else Touch task r)
call_of homes (deed.Sleep at task) (Slept lag) r = Some (Touch task r)
call_of homes (deed.Pull at source) (Pulled task) r = Some (Touch task r)
call_of homes (deed.Renice at task nice) Reniced r = Some (Touch task r)
call_of homes (deed.Begin at task nice slice) Begun r = Some (Touch task r)
call_of homes (deed.End at task) Ended r = Some (Touch task r)
call_of homes (deed.Set at task nice slice) answer.Set r = Some (Touch task r)
call_of homes deed answer r = None

-- what a deed is to the queue of a CPU
abbrev pub call_at : List ℕ → ℕ → Machine → Deed → Option Call
call_at homes cpu m d =
    if touches homes d cpu then call_of homes d (whole homes d m).0 (queue_at (whole homes d m).1 cpu) else None

abbrev pub and_then : Option Call → List Call → List Call
and_then None calls = calls
and_then (Some call) calls = call ∷ calls

-- and deeds one after the other
abbrev pub calls_at : List ℕ → ℕ → Machine → List Deed → List Call
calls_at homes cpu m [] = []
calls_at homes cpu m (d ∷ ds) = and_then (call_at homes cpu m d) (calls_at homes cpu (whole homes d m).1 ds)

-- what ticks of a CPU charge to a task there, in virtual time
abbrev pub charged_at : ℕ → ℕ → Machine → Deed → ℕ
charged_at cpu task m (deed.Tick at ns) = if cpu == at then charged_for task (queue_at m cpu) ns else 0
charged_at cpu task m deed = 0

abbrev pub charged_on : List ℕ → ℕ → ℕ → Machine → List Deed → ℕ
charged_on homes cpu task m [] = 0
charged_on homes cpu task m (d ∷ ds) = charged_at cpu task m d + charged_on homes cpu task (whole homes d m).1 ds

-- deeds that name CPUs and tasks of the machine
pub record AreAllowedDeeds (homes : List ℕ) (m : Machine) (deeds : List Deed) : Type 0 where
  pub cpus : AreCpus (length m) homes
  pub each : AllByRecursion (λ (d : Deed). is_allowed (length m) homes d ≡ true) deeds

-- the CPU's queue goes by these calls, of which those that are told to touch one task alone do so; they charge to each task what the CPU's
-- ticks do, and for the time that the lines tell
pub record GoesByCalls (homes : List ℕ) (cpu : ℕ) (m : Machine) (deeds : List Deed) : Type 0 where
  pub after : queue_at (machine_after homes m deeds) cpu ≡ after_calls (queue_at m cpu) (calls_at homes cpu m deeds)
  pub calls : AreCalls (queue_at m cpu) (calls_at homes cpu m deeds)
  pub charges : (task : ℕ) → charged_by task (queue_at m cpu) (calls_at homes cpu m deeds) ≡ charged_on homes cpu task m deeds
  pub times : (task : ℕ) → time_of task (queue_at m cpu) (events_of (queue_at m cpu) (calls_at homes cpu m deeds))
      ≡ lines.time_of task cpu (lines_of homes m deeds)

-- so it is of each CPU, from any state of a machine on
abbrev pub DeedsAreCalls : Type 0
DeedsAreCalls =
    (homes : List ℕ) (m : Machine) (deeds : List Deed) (cpu : ℕ) → AreAllowedDeeds homes m deeds → GoesByCalls homes cpu m deeds
