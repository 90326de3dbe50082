-- The texts of what a fleet answers.
use Rattle.std.specs.Prelude.{ℕ, List, ◌++◌, codes, decimal}
use Rattle.eevdf_fleet.specs.{declared.drains.Drained.Drained, declared.rings.producer_ends.RingFull.RingFull}
use Rattle.eevdf_fleet.specs.{declared.run_fault.RunFault.RunFault, declared.run_fault.RunFault.TheVariants.Memory}
use Rattle.eevdf_fleet.specs.declared.run_fault.RunFault.TheVariants.{Start}
use Rattle.eevdf_ops.specs.Texts.{answer_text}
use Rattle.eevdf_fleet.specs.declared.operated.Operated.{Operated}
use Rattle.eevdf_fleet.specs.declared.operated.Operated.TheVariants.{Answer, Posted, Drained as DrainedAs}
use Rattle.eevdf_fleet.specs.declared.operated.Refused.{Refused}
use Rattle.eevdf_fleet.specs.declared.operated.Refused.TheVariants as refused

abbrev pub seat_full_text : List ℕ
seat_full_text = codes "seat full"

abbrev pub ring_full_text : RingFull → List ℕ
ring_full_text full = codes "ring full at task " ++ decimal full.task

abbrev pub drained_text : Drained → List ℕ
drained_text drained = decimal drained.taken ++ codes " taken, " ++ decimal drained.woken ++ codes " woken"

abbrev pub run_fault_text : RunFault → List ℕ
run_fault_text Memory = codes "memory"
run_fault_text Start = codes "thread"

abbrev pub operated_text : Operated → List ℕ
operated_text (Answer answer) = answer_text answer
operated_text Posted = codes "posted"
operated_text (DrainedAs drained) = drained_text drained

abbrev pub refused_text : Refused → List ℕ
refused_text (refused.NoTask task) = codes "no task " ++ decimal task
refused_text (refused.NoCpu cpu) = codes "no cpu " ++ decimal cpu
refused_text refused.OwnCpu = codes "own cpu"
refused_text (refused.OtherHome task) = codes "other home of task " ++ decimal task
refused_text refused.SeatFull = seat_full_text
refused_text (refused.RingFull full) = ring_full_text full
