-- Which deeds are refused.
use Rattle.std.specs.Prelude.{Bool, false, true}
use Rattle.eevdf_ops.specs.{declared.deeds.Answer.Answer, declared.deeds.Deed.Deed, declared.deeds.Line.Line}
use Rattle.eevdf_ops.specs.declared.deeds.Answer.TheVariants.{Awake, Idle, NotHere, NotRunning, Range}
use Rattle.eevdf_ops.specs.declared.deeds.Deed.TheVariants.{Yield}

abbrev pub is_yield : Deed → Bool
is_yield (Yield cpu) = true
is_yield _ = false

-- the machine isn't as the deed takes it to be; that there is nothing to pick, to charge or to pull is no refusal
abbrev pub is_refusal : Answer → Deed → Bool
is_refusal NotRunning d = true
is_refusal Awake d = true
is_refusal NotHere d = true
is_refusal Range d = true
is_refusal Idle d = is_yield d
is_refusal _ d = false

abbrev pub is_refused : Line → Bool
is_refused line = is_refusal line.answer line.deed
