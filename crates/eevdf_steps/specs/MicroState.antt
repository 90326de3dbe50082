-- What the callers' steps make of the machine.
use Rattle.std.specs.Prelude.{ℕ, List, [], ◌∷◌, ◌++◌, replicate, Option, Some, None}
use Rattle.eevdf_ops.specs.declared.deeds.{Op.Op, Deed.Deed, Answer.Answer, Line.Line}
use Rattle.eevdf_ops.specs.declared.deeds.Op.TheVariants as op
use Rattle.eevdf_ops.specs.{Setup.Setup, Machine.start}
use Rattle.eevdf_steps.specs.declared.{micro.Micro.Micro, plan.Step.Step}
use Rattle.eevdf_steps.specs.{Counters.step_next, Commits.committed}
use Rattle.eevdf_steps.specs.declared.micro.Micro.TheVariants.{Act, Detach, Attach, Commit, Settle}
use Rattle.eevdf_steps.specs.Plan.{Plan, callers, home, plan_of}
use Rattle.eevdf_steps.specs.Requests.{Progress, found_by, progress_at_start, progress_step}
use Rattle.eevdf_steps.specs.Work.{Work, act, answer, attach, detach, wake_answer, woken}

-- the queues with what the callers hold, how far the callers have come, and the deeds that were done with
-- their answers
pub record MicroState : Type 0 where
  pub work : Work
  pub progress : Progress
  pub lines : List Line

abbrev pub micro_start : Setup → MicroState
micro_start s = record {
  work = record { machine = start s; hands = replicate (callers (plan_of s)) None; answers = replicate (callers (plan_of s)) None };
  progress = progress_at_start (plan_of s);
  lines = [];
}

-- the line of a deed with its answer, where there are both
abbrev pub line_of : Option Deed → Option Answer → List Line
line_of (Some d) (Some a) = record { deed = d; answer = a } ∷ []
line_of (Some d) None = []
line_of None a = []

-- a request that was found is settled by its wake
abbrev pub settled : Work → ℕ → Option ℕ → Work
settled w caller None = w
settled w caller (Some task) = woken w caller task

abbrev pub settled_answer : Work → ℕ → Option ℕ → Option Answer
settled_answer w caller None = None
settled_answer w caller (Some task) = Some (wake_answer w caller task)

-- the home to which an operation's task goes or its request is posted; the caller's CPU for any other operation
abbrev pub home_for : Plan → ℕ → Op → ℕ
home_for plan caller (op.Sleep task) = home plan task
home_for plan caller (op.Doze task) = home plan task
home_for plan caller (op.End task) = home plan task
home_for plan caller (op.Post task) = home plan task
home_for plan caller _ = caller

-- what a micro-step of a caller does to the queues, given the home of the operation's task and the request
-- that the caller found
abbrev pub works : ℕ → Work → ℕ → Op → Micro → Option ℕ → Work
works home w caller o Act found = act w caller o
works home w caller o Detach found = detach w caller o
works home w caller o Attach found = attach home w caller o
works home w caller o (Settle sender) found = settled w caller found
works home w caller o _ found = w

-- the answer that it commits, where it commits one
abbrev pub answers : Work → ℕ → Micro → Option ℕ → Option Answer
answers w caller Commit found = answer w caller
answers w caller (Settle sender) found = settled_answer w caller found
answers w caller _ found = None

-- the line that it appends, where it appends one
abbrev pub appends : Work → ℕ → Op → Micro → Option ℕ → List Line
appends w caller o m found = line_of (committed found caller o m) (answers w caller m found)

abbrev pub micro_by : Plan → MicroState → ℕ → Option Step → MicroState
micro_by plan s caller None = s
micro_by plan s caller (Some step) = record {
  work = works (home_for plan caller step.op) s.work caller step.op step.micro (found_by s.progress caller);
  progress = progress_step plan s.progress caller;
  lines = s.lines ++ appends s.work caller step.op step.micro (found_by s.progress caller);
}

-- the state after the next step of a caller
abbrev pub micro_step : Plan → MicroState → ℕ → MicroState
micro_step plan s caller = micro_by plan s caller (step_next plan s.progress.counters caller)

-- and after an order
abbrev pub micro_after : Plan → MicroState → List ℕ → MicroState
micro_after plan s [] = s
micro_after plan s (p ∷ order) = micro_after plan (micro_step plan s p) order

-- the state that an order leaves
abbrev pub micro : Setup → List ℕ → MicroState
micro setup order = micro_after (plan_of setup) (micro_start setup) order
