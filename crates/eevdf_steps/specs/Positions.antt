-- Where a caller stands in its program, and the counter that this comes to.
use Rattle.std.specs.Prelude.{◌≡◌, ℕ, ◌+◌, ◌<◌, ◌==◌, nat_lt, Bool, true, List, [], ◌∷◌, length, take, slice_get, slice_index_or, Option, Some, None}
use Rattle.eevdf_ops.specs.declared.deeds.Op.{Op}
use Rattle.eevdf_steps.specs.{declared.plan.Position.Position, Plan.Plan, Plan.program, Counters.Counters}
use Rattle.eevdf_steps.specs.MicroSteps.{micros_of, steps_by, steps_of}

-- fewer steps of the operation are done than it has; where the program is done, none
abbrev pub is_within : Plan → ℕ → ℕ → Option Op → Bool
is_within plan caller steps None = steps == 0
is_within plan caller steps (Some o) = nat_lt steps (length (micros_of plan caller o))

-- the number of steps done at a position: those of the operations before it, and those of its own
abbrev pub counter_at : Plan → ℕ → Position → ℕ
counter_at plan caller at = length (steps_of plan caller (take at.operation (program plan caller))) + at.steps

-- a position is within the program, and has the step that comes next
pub record IsPosition (plan : Plan) (caller : ℕ) (at : Position) : Type 0 where
  pub within : is_within plan caller at.steps (slice_get (program plan caller) at.operation) ≡ true
  pub next : at.next ≡ slice_get (steps_by plan caller) (counter_at plan caller at)

-- the counters of the callers, from one on
abbrev pub counters_at : Plan → ℕ → List Position → Counters
counters_at plan caller [] = []
counters_at plan caller (at ∷ rest) = counter_at plan caller at ∷ counters_at plan (caller + 1) rest

abbrev pub ArePositions : Plan → List Position → Type 0
ArePositions plan positions = (caller : ℕ) (d : Position) → caller < length positions → IsPosition plan caller (slice_index_or positions caller d)
