-- How far the callers have come, the locks that they hold, and who may do its next step.
use Rattle.std.specs.Prelude.{ℕ, zero, suc, ◌+◌, ◌==◌, nat_lt, Bool, true, false, List, [], ◌∷◌, take, slice_get, slice_index_or, slice_set, if◌then◌else◌, is_some, is_none, Option, Some, None, Result, MatchResult, ◌≡◌}
use Rattle.std.specs.Option.{option_map}
use Rattle.eevdf_steps.specs.declared.{micro.Micro.Micro, step_fault.StepFault.StepFault, plan.Step.Step}
use Rattle.eevdf_steps.specs.declared.micro.Micro.TheVariants.{Acquire, Release}
use Rattle.eevdf_steps.specs.{Plan.Plan, Plan.callers, MicroSteps.steps_by}
use Rattle.eevdf_steps.specs.declared.step_fault.StepFault.TheVariants.{NoCaller, Done, Blocked}

-- how many of its steps each caller has done
abbrev pub Counters : Type 0
Counters = List ℕ

abbrev pub count_of : Counters → ℕ → ℕ
count_of counters caller = slice_index_or counters caller 0

-- the counters when a caller has done one step more
abbrev pub counted : Counters → ℕ → Counters
counted counters caller = slice_set counters caller (count_of counters caller + 1)

-- the steps that a caller has done
abbrev pub done_by : Plan → Counters → ℕ → List Step
done_by plan counters caller = take (count_of counters caller) (steps_by plan caller)

-- the step that a caller does next, with its operation; none where it is done or there is no such caller
abbrev pub step_next : Plan → Counters → ℕ → Option Step
step_next plan counters caller = slice_get (steps_by plan caller) (count_of counters caller)

abbrev pub next : Plan → Counters → ℕ → Option Micro
next plan counters caller = option_map (λ (s : Step). s.micro) (step_next plan counters caller)

-- whether a lock is held after a step of its holder
abbrev pub held_after : ℕ → Bool → Micro → Bool
held_after cpu held (Acquire c) = if c == cpu then true else held
held_after cpu held (Release c) = if c == cpu then false else held
held_after cpu held _ = held

abbrev pub held_by_steps : ℕ → Bool → List Step → Bool
held_by_steps cpu held [] = held
held_by_steps cpu held (s ∷ ss) = held_by_steps cpu (held_after cpu held s.micro) ss

-- whether a caller holds the lock of a CPU: it has acquired it and hasn't released it since
abbrev pub holds : Plan → Counters → ℕ → ℕ → Bool
holds plan counters cpu caller = held_by_steps cpu false (done_by plan counters caller)

-- the least number that passes, of so many from one on
abbrev pub least : (ℕ → Bool) → ℕ → ℕ → Option ℕ
least passes from zero = None
least passes from (suc n) = if passes from then Some from else least passes (from + 1) n

-- who holds the lock of a CPU
abbrev pub holder : Plan → Counters → ℕ → Option ℕ
holder plan counters cpu = least (holds plan counters cpu) 0 (callers plan)

abbrev pub blocked_by : ℕ → Option ℕ → Option StepFault
blocked_by cpu None = None
blocked_by cpu (Some caller) = Some (Blocked cpu caller)

-- what refuses a step: the acquiring of a held lock alone
abbrev pub refused : Plan → Counters → Micro → Option StepFault
refused plan counters (Acquire cpu) = blocked_by cpu (holder plan counters cpu)
refused plan counters _ = None

abbrev pub refused_next : Plan → Counters → Option Micro → Option StepFault
refused_next plan counters None = Some Done
refused_next plan counters (Some m) = refused plan counters m

-- what refuses the next step of a caller
abbrev pub refusal : Plan → Counters → ℕ → Option StepFault
refusal plan counters caller =
    if nat_lt caller (callers plan) then refused_next plan counters (next plan counters caller) else Some NoCaller

-- the next step of a caller, where nothing refuses it, or what does
abbrev pub IsFreeStep : Plan → Counters → ℕ → Result Step StepFault → Type 0
IsFreeStep plan counters caller result =
    MatchResult result (λ s. (step_next plan counters caller ≡ Some s) × (refusal plan counters caller ≡ None)) (λ f. refusal plan counters caller ≡ Some f)

-- whether a caller may do its next step: it is one, it isn't done, and no lock that it waits for is held
abbrev pub may_step : Plan → Counters → ℕ → Bool
may_step plan counters caller = is_none (refusal plan counters caller)

-- whether a caller has steps to do
abbrev pub is_under_way : Plan → Counters → ℕ → Bool
is_under_way plan counters caller = is_some (step_next plan counters caller)

-- the least caller that has steps to do
abbrev pub unfinished : Plan → Counters → Option ℕ
unfinished plan counters = least (is_under_way plan counters) 0 (callers plan)

-- the least caller that may do its next step
abbrev pub ready : Plan → Counters → Option ℕ
ready plan counters = least (may_step plan counters) 0 (callers plan)
