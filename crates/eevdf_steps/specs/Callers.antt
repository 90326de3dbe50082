-- The callers on their way: what they are to do, how far each has come, and the locks that they hold.
use Rattle.std.specs.Prelude.{◌≡◌, ℕ, ◌<◌, List, length, slice_index_or, Option}
use Rattle.eevdf_steps.specs.{declared.plan.Position.Position, Plan.Plan, Plan.callers, Counters.Counters}
use Rattle.eevdf_steps.specs.Holders.{AreHolders}
use Rattle.eevdf_steps.specs.Positions.{ArePositions, counter_at, counters_at}

pub record Callers : Type 0 where
  pub plan : Plan
  pub counters : Counters

abbrev pub callers_at : Plan → List Position → Callers
callers_at plan positions = record { plan = plan; counters = counters_at plan 0 positions }

-- each caller has a position in its program, and each lock its holder
pub record AreCallers (plan : Plan) (positions : List Position) (holders : List (Option ℕ)) : Type 0 where
  pub each : length positions ≡ callers plan
  pub within : ArePositions plan positions
  pub locks : AreHolders plan (counters_at plan 0 positions) holders

-- so many callers stand at the beginning of their programs
pub record BeginAll (plan : Plan) (many : ℕ) (positions : List Position) : Type 0 where
  pub each : length positions ≡ many
  pub within : ArePositions plan positions
  pub nothing_done : (caller : ℕ) (d : Position) → caller < length positions → counter_at plan caller (slice_index_or positions caller d) ≡ 0
