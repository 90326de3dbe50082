-- What an event makes of a task.
use Rattle.std.specs.Prelude.{ℕ, zero, ◌+◌, ◌-◌, ◌^◌, min, max, ℤ, List, [], ◌∷◌, ◌++◌, Option, Some, None, if◌then◌else◌}
use Rattle.std.specs.Ordering.{int_eq}
use Rattle.std.specs.Option.{option_to_list}
use Rattle.eevdf_closed_loop.specs.{declared.phase.Phase.Phase, declared.phase.Span.Span}
use Rattle.eevdf_closed_loop.specs.declared.phase.Phase.TheVariants as phase
use Rattle.eevdf_trace.specs.{declared.course.Course.Course, declared.course.Standing.Standing, declared.course.Leaving.Leaving}
use Rattle.eevdf_trace.specs.{declared.course.Change.Change, declared.course.Step.Step, declared.course.End.End}
use Rattle.eevdf_trace.specs.declared.course.Standing.TheVariants as stands
use Rattle.eevdf_trace.specs.declared.course.Leaving.TheVariants as leaving
use Rattle.eevdf_trace.specs.declared.course.Change.TheVariants.{Wakes, Comes, Leaves}

-- so many nanoseconds, and 1 at least
abbrev pub span_of : ℕ → Span
span_of ns = record { least = max ns 1; most = max ns 1 }

-- a task that can run from a moment on
abbrev pub from : ℕ → ℤ → Course
from moment nice = record { standing = stands.Runnable; since = moment; ran = 0; nice = nice }

-- for how long a task has run at a moment, of which it stands so since another one: the time since then is added where it runs
abbrev pub ran_while : Standing → ℕ → ℕ → ℕ
ran_while stands.Running ran more = min (ran + more) (2 ^ 64 - 1)
ran_while stands.Runnable ran more = ran
ran_while stands.Asleep ran more = ran
ran_while stands.Dead ran more = ran

abbrev pub ran_at : Course → ℕ → ℕ
ran_at course at = ran_while course.standing course.ran (at - course.since)

abbrev pub run_until : Course → ℕ → Phase
run_until course at = phase.Run (span_of (ran_at course at))

-- one of two, the first where a task is asleep or dead
abbrev pub if_asleep : {T : Type 0} → Standing → T → T → T
if_asleep stands.Running asleep awake = awake
if_asleep stands.Runnable asleep awake = awake
if_asleep stands.Asleep asleep awake = asleep
if_asleep stands.Dead asleep awake = asleep

abbrev pub slept_until : Course → ℕ → Option Phase
slept_until course at = if_asleep course.standing (Some (phase.Sleep (span_of (at - course.since)))) None

abbrev pub woken : Course → ℕ → Course
woken course at = if_asleep course.standing (from at course.nice) course

-- one of two, the first where a task runs
abbrev pub if_running : {T : Type 0} → Standing → T → T → T
if_running stands.Running running other = running
if_running stands.Runnable running other = other
if_running stands.Asleep running other = other
if_running stands.Dead running other = other

-- a CPU switches to it, if it doesn't run
abbrev pub come : Course → ℕ → Course
come course at = if_running course.standing course (record { standing = stands.Running; since = at; ran = course.ran; nice = course.nice })

-- a CPU switches from it: what it has run is kept where it is preempted
abbrev pub left : Course → Leaving → ℕ → Course
left course leaving.Preempted at = record { standing = stands.Runnable; since = at; ran = ran_at course at; nice = course.nice }
left course leaving.Asleep at = record { standing = stands.Asleep; since = at; ran = 0; nice = course.nice }
left course leaving.Dead at = record { standing = stands.Dead; since = at; ran = 0; nice = course.nice }

abbrev pub run_over : Course → Leaving → ℕ → Option Phase
run_over course leaving.Preempted at = None
run_over course leaving.Asleep at = Some (run_until course at)
run_over course leaving.Dead at = Some (run_until course at)

-- where nothing says that a task came to the CPU that it leaves, it came when that one last switched, or at its own last event
abbrev pub found_at : Course → Change → ℕ → ℕ
found_at course Wakes at = at
found_at course Comes at = at
found_at course (Leaves how switched) at = max switched course.since

abbrev pub reniced : Course → ℤ → Option Phase
reniced course nice = if int_eq course.nice nice then None else Some (phase.Nice nice)

abbrev pub with : Course → ℤ → Course
with course nice = record { standing = course.standing; since = course.since; ran = course.ran; nice = nice }

-- a task that is awake, at a moment by which it has come where the event finds it
abbrev pub awake_at : Course → ℤ → ℕ → Course
awake_at course nice found = with (woken course found) nice

-- what an event makes of a task
abbrev pub step_of : Course → Change → ℤ → ℕ → Step
step_of course Wakes nice at = record {
  course = awake_at course nice at;
  slept = slept_until course at;
  reniced = reniced course nice;
  ran = None;
}
step_of course Comes nice at = record {
  course = come (awake_at course nice at) at;
  slept = slept_until course at;
  reniced = reniced course nice;
  ran = None;
}
step_of course (Leaves how switched) nice at =
    let found = max switched course.since in record {
      course = left (come (awake_at course nice found) found) how at;
      slept = slept_until course found;
      reniced = reniced course nice;
      ran = run_over (come (awake_at course nice found) found) how at;
    }

-- the phases that an event adds
abbrev pub phases_of : Step → List Phase
phases_of step = option_to_list step.slept ++ option_to_list step.reniced ++ option_to_list step.ran

-- what stands at the end of a task's phases, where the trace ends
abbrev pub end_while : Standing → Phase → End
end_while stands.Running run = record { ran = Some run; last = phase.Suspend }
end_while stands.Runnable run = record { ran = Some run; last = phase.Suspend }
end_while stands.Asleep run = record { ran = None; last = phase.Suspend }
end_while stands.Dead run = record { ran = None; last = phase.End }

abbrev pub end_of : Course → ℕ → End
end_of course at = end_while course.standing (run_until course at)

abbrev pub last_phases : End → List Phase
last_phases end = option_to_list end.ran ++ (end.last ∷ [])
