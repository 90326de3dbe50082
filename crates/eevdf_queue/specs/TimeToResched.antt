-- When the running task's request is used up.
use Rattle.std.specs.Prelude.{◌≡◌, ℕ, ◌<◌, Bool, true, false, Option, Some, None}
use Rattle.eevdf_weight.specs.Limits.{is_tick}
use Rattle.eevdf_queue.specs.declared.answers.TickAnswer.{TickAnswer}
use Rattle.eevdf_queue.specs.declared.answers.TickAnswer.TheVariants.{Charged, Idle, Range}

-- a tick with this answer used up the request: it is time to pick, or the fresh request would have been out of range
abbrev pub ends_request : TickAnswer → Bool
ends_request (Charged task resched) = resched
ends_request Idle = false
ends_request Range = true

-- the shortest tick that passes a test, and none where no tick does
abbrev pub IsShortest : (ℕ → Bool) → Option ℕ → Type 0
IsShortest passes None = (ns : ℕ) → is_tick ns ≡ true → passes ns ≡ false
IsShortest passes (Some ns) =
    (is_tick ns ≡ true) × (passes ns ≡ true) × ((shorter : ℕ) → is_tick shorter ≡ true → shorter < ns → passes shorter ≡ false)
