-- Orders in which each caller is the one that a choice comes to.
use Rattle.std.specs.Prelude.{ℕ, zero, suc, ◌-◌, ◌<◌, List, length, take, slice_index}
use Rattle.rand_pcg.specs.{Lcg.advance, Pcg.multiplier_64}
use Rattle.eevdf_steps.specs.{Plan.Plan, Plan.callers, Orders.counters_after, Orders.counters_at_start}
use Rattle.eevdf_orders.specs.{declared.caller_choice.Choice.Choice, declared.caller_choice.Choice.TheVariants.InTurn}
use Rattle.eevdf_orders.specs.{declared.caller_choice.Choice.TheVariants.Drawn, CallerChoice.first_of, CallerSteps.IsNext}

-- the choice after so many places, each of which takes one word of a generator
abbrev pub choice_after : ℕ → Choice → Choice
choice_after k InTurn = InTurn
choice_after k (Drawn g) = Drawn (advance 64 multiplier_64 k g)

-- the caller at the place before one, of so many; before the first place the last caller, whom caller 0 comes after
abbrev pub last_before : ℕ → List ℕ → ℕ → ℕ
last_before n order zero = n - 1
last_before n order (suc k) = slice_index order k

-- with whom of so many callers the search for the one at a place begins
abbrev pub begins_with : Choice → ℕ → List ℕ → ℕ → ℕ
begins_with choice n order k = first_of (choice_after k choice) n (last_before n order k)

-- the caller at a place is the next that may step after the steps at the places before it
abbrev pub IsChosenAt : Plan → Choice → List ℕ → ℕ → Type 0
IsChosenAt plan choice order k =
    IsNext plan (counters_after (counters_at_start plan) (take k order)) (begins_with choice (callers plan) order k) (slice_index order k)

-- at each place
abbrev pub IsChosen : Plan → Choice → List ℕ → Type 0
IsChosen plan choice order = (k : ℕ) → k < length order → IsChosenAt plan choice order k
