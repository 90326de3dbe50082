-- A player: what the callers are to do, and what their steps have come to.
use Rattle.std.specs.Prelude.{◌≡◌, ℕ, ◌++◌, true, List, Option, Result, MatchResult, Some, None}
use Rattle.std.specs.FinMap as map
use Rattle.eevdf_queue.specs.State.{State}
use Rattle.eevdf_ops.specs.{declared.deeds.Deed.Deed, Histories.machine_told, Machine.Machine, Machine.queue_at, Places.count}
use Rattle.eevdf_ops.specs.{Programs.deeds_of, Setup.Setup, Setup.is_task}
use Rattle.eevdf_steps.specs.declared.{micro.Micro.Micro, step_fault.StepFault.StepFault}
use Rattle.eevdf_steps.specs.{Plan.Plan, Plan.home, Plan.plan_of, Counters.holds, Commits.committed_by, Places.places_of}
use Rattle.eevdf_steps.specs.Counters as counters
use Rattle.eevdf_steps.specs.MicroState.{MicroState, micro_start, micro_step}

-- what the callers are to do, and the state that their steps have come to
pub record Player : Type 0 where
  pub plan : Plan
  pub state : MicroState

-- the step that a caller does next, what refuses it, and the least caller that nothing refuses
abbrev pub next : Player → ℕ → Option Micro
next a caller = counters.next a.plan a.state.progress.counters caller

abbrev pub refusal : Player → ℕ → Option StepFault
refusal a caller = counters.refusal a.plan a.state.progress.counters caller

abbrev pub ready : Player → Option ℕ
ready a = counters.ready a.plan a.state.progress.counters

-- the least caller that isn't done
abbrev pub unfinished : Player → Option ℕ
unfinished a = counters.unfinished a.plan a.state.progress.counters

-- who holds the lock of a CPU
abbrev pub holder : Player → ℕ → Option ℕ
holder a cpu = counters.holder a.plan a.state.progress.counters cpu

-- the deed that a caller's next step commits, where it commits one
abbrev pub committed_next : Player → ℕ → List Deed
committed_next a caller = committed_by a.state.progress caller (counters.step_next a.plan a.state.progress.counters caller)

-- the queue of a CPU, as it stands
abbrev pub queue_of : Player → ℕ → State
queue_of a cpu = queue_at a.state.work.machine cpu

-- the machine that the deeds committed so far leave, done as whole operations one after the other
abbrev pub machine_of_history : Player → Machine
machine_of_history a = machine_told a.plan.homes a.plan.start a.state.lines

-- the player one step of a caller later
abbrev pub player_step : Player → ℕ → Player
player_step a caller = record a { state = micro_step a.plan a.state caller }

-- the step is done exactly where nothing refuses it, and else nothing has changed
abbrev pub IsStep : Player → ℕ → Result (Unit {0}) StepFault → Player → Type 0
IsStep a caller result b =
    MatchResult result (λ _. (refusal a caller ≡ None) × (b ≡ player_step a caller)) (λ f. (refusal a caller ≡ Some f) × (b ≡ a))

-- the deed that a step commits comes after those before it
abbrev pub Appends : Player → ℕ → Player → Type 0
Appends a caller b = deeds_of b.state.lines ≡ deeds_of a.state.lines ++ committed_next a caller

-- a player of whose callers nobody has done a step
abbrev pub player_start : Setup → Player
player_start s = record { plan = plan_of s; state = micro_start s }

-- each task of the setup stands in one place, and no other number stands anywhere
abbrev pub EachInOnePlace : Player → Type 0
EachInOnePlace a = (task : ℕ) → places_of a.state.work task ≡ count (is_task a.plan.homes task)

-- a task sleeps at its home alone
abbrev pub EachSleepsAtHome : Player → Type 0
EachSleepsAtHome a = (cpu task : ℕ) → map.contains_key (queue_of a cpu).asleep task ≡ true → home a.plan task ≡ cpu

-- no two callers hold one lock
abbrev pub OneHolder : Player → Type 0
OneHolder a = (cpu p q : ℕ) → holds a.plan a.state.progress.counters cpu p ≡ true → holds a.plan a.state.progress.counters cpu q ≡ true → p ≡ q
