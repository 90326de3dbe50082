-- A sleep: the running task leaves its CPU and falls asleep at its home.
use Rattle.eevdf_queue.specs.State.{Contents}
use Rattle.eevdf_ops.specs.{declared.deeds.Answer.Answer, declared.deeds.Answer.TheVariants.Slept}

abbrev pub slept : Contents → Answer
slept p = Slept p.lag
