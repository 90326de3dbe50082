-- A yield through C.
use Rattle.std.specs.Prelude.{ℤ}
use Rattle.eevdf_queue.specs.{State.State, declared.answers.YieldAnswer.YieldAnswer}
use Rattle.eevdf_queue.specs.Yield as yields
use Rattle.eevdf_queue.specs.declared.answers.YieldAnswer.TheVariants.{Yielded, Idle, Range}
use Rattle.eevdf_c.specs.Codes.{done, absent, out_of_range}

abbrev pub yield_code : YieldAnswer → ℤ
yield_code Yielded = done
yield_code Idle = absent
yield_code Range = out_of_range

-- what is answered, and the state afterwards
abbrev pub yield_now : State → ℤ × State
yield_now q = (yield_code (yields.yield_now q).0, (yields.yield_now q).1)
