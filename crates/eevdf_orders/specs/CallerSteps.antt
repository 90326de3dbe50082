-- Steps of callers that may step.
use Rattle.std.specs.Prelude.{◌≡◌, ◌<◌, ℕ, ◌+◌, ◌-◌, ◌%◌, false, true, Option, MatchOption}
use Rattle.eevdf_steps.specs.{Plan.Plan, Plan.callers, Players.Player, Players.player_step}
use Rattle.eevdf_steps.specs.Counters.{Counters, least, may_step}

-- how far one of so many callers is ahead of another, going around
abbrev pub ahead : ℕ → ℕ → ℕ → ℕ
ahead n first caller = (caller + n - first) % n

-- of the callers that may step the nearest, going around from one on
pub record IsNext (plan : Plan) (counters : Counters) (first caller : ℕ) : Type 0 where
  pub below : caller < callers plan
  pub may : may_step plan counters caller ≡ true
  pub nearest : (q : ℕ) → q < callers plan → ahead (callers plan) first q < ahead (callers plan) first caller → may_step plan counters q ≡ false

-- the next caller, from one on, does its next step
pub record IsStepFrom (a : Player) (first caller : ℕ) (b : Player) : Type 0 where
  pub next : IsNext a.plan a.state.progress.counters first caller
  pub done : b ≡ player_step a caller

-- of so many callers from one on the least that may step does its next step; nothing changes where none may
pub record IsStepAmong (a : Player) (from count : ℕ) (result : Option ℕ) (b : Player) : Type 0 where
  pub least : result ≡ least (may_step a.plan a.state.progress.counters) from count
  pub done : MatchOption result (b ≡ a) (λ caller. b ≡ player_step a caller)
