-- A tick through C.
use Rattle.std.specs.Prelude.{ℕ, ℤ, if◌then◌else◌, Option, Some, None}
use Rattle.eevdf_weight.specs.Limits.{checked_tick}
use Rattle.eevdf_queue.specs.{State.State, declared.answers.TickAnswer.TickAnswer}
use Rattle.eevdf_queue.specs.Tick as ticks
use Rattle.eevdf_queue.specs.declared.answers.TickAnswer.TheVariants.{Charged, Idle, Range}
use Rattle.eevdf_c.specs.Codes.{done, time_to_pick, absent, invalid, out_of_range}

abbrev pub tick_code : TickAnswer → ℤ
tick_code (Charged task resched) = if resched then time_to_pick else done
tick_code Idle = absent
tick_code Range = out_of_range

abbrev pub tick_by : State → Option ℕ → ℤ × State
tick_by q None = (invalid, q)
tick_by q (Some ns) = (tick_code (ticks.tick q ns).0, (ticks.tick q ns).1)

-- what is answered, and the state afterwards
abbrev pub tick : State → ℕ → ℤ × State
tick q ns = tick_by q (checked_tick ns)
