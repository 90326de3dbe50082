use Rattle.std.proofs.Common.{◌≡◌, drop}
use Rattle.eevdf_ops.specs.Places.{places}
use Rattle.eevdf_steps.proofs.work.Work.queue_place.Given as goal

abbrev pub invariant-loop-at : goal.invariant-loop-at
invariant-loop-at l = places l.self.machine l.task ≡ places (drop l.at l.self.machine) l.task
