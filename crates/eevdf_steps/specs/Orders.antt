-- Orders in which the callers take their steps, and what is wrong with one.
use Rattle.std.specs.Prelude.{◌≡◌, ◌≤◌, ℕ, ◌+◌, nat_lt, Bool, true, ◌&&◌, List, [], ◌∷◌, length, replicate, if◌then◌else◌, is_none, Option, Some, None}
use Rattle.std.specs.Option.{option_map}
use Rattle.eevdf_steps.specs.declared.{step_fault.StepFault.StepFault, play_fault.PlayFault.PlayFault}
use Rattle.eevdf_steps.specs.Plan.{Plan, callers}
use Rattle.eevdf_steps.specs.declared.step_fault.StepFault.TheVariants as step
use Rattle.eevdf_steps.specs.declared.play_fault.PlayFault.TheVariants.{TooLong, NoCaller, Done, Blocked, Short}
use Rattle.eevdf_steps.specs.Counters.{Counters, counted, may_step, refusal, unfinished}

-- nobody has done a step
abbrev pub counters_at_start : Plan → Counters
counters_at_start plan = replicate (callers plan) 0

-- the counters after an order, which is a list of callers
abbrev pub counters_after : Counters → List ℕ → Counters
counters_after counters [] = counters
counters_after counters (p ∷ order) = counters_after (counted counters p) order

-- at each place the order names a caller that may step
abbrev pub is_lawful : Plan → Counters → List ℕ → Bool
is_lawful plan counters [] = true
is_lawful plan counters (p ∷ order) = may_step plan counters p && is_lawful plan (counted counters p) order

-- after the order every caller is done
abbrev pub is_complete : Plan → Counters → List ℕ → Bool
is_complete plan counters order = is_none (unfinished plan (counters_after counters order))

-- an order is both
pub record IsWhole (plan : Plan) (counters : Counters) (order : List ℕ) : Type 0 where
  pub lawful : is_lawful plan counters order ≡ true
  pub complete : is_complete plan counters order ≡ true

abbrev pub fault_at : ℕ → StepFault → PlayFault
fault_at at step.NoCaller = NoCaller at
fault_at at step.Done = Done at
fault_at at (step.Blocked cpu holder) = Blocked at cpu

abbrev pub fault_or : ℕ → Option StepFault → Option PlayFault → Option PlayFault
fault_or at (Some f) later = Some (fault_at at f)
fault_or at None later = later

-- the first faulty place, counted from a number on, or where there is none the least caller that isn't done
abbrev pub order_fault : Plan → Counters → ℕ → List ℕ → Option PlayFault
order_fault plan counters at [] = option_map (λ (p : ℕ). Short p) (unfinished plan counters)
order_fault plan counters at (p ∷ order) =
    fault_or at (refusal plan counters p) (order_fault plan (counted counters p) (at + 1) order)

-- an order has at most so many places
abbrev pub most_places : ℕ
most_places = 1000000

-- the fault of an order, its length first
abbrev pub play_fault : Plan → List ℕ → Option PlayFault
play_fault plan order =
    if nat_lt most_places (length order) then Some TooLong else order_fault plan (counters_at_start plan) 0 order

-- a lawful and complete order that isn't too long has no fault
abbrev pub WholeIsPlayed : Type 0
WholeIsPlayed = (plan : Plan) (order : List ℕ) → length order ≤ most_places → IsWhole plan (counters_at_start plan) order → play_fault plan order ≡ None
