use Rattle.eevdf_live_tasks.specs.Openings.{AreKept}
use Rattle.eevdf_live_tasks.proofs.live_tasks.LiveTasks.open.Given as goal

abbrev pub invariant-loop-number : goal.invariant-loop-number
invariant-loop-number l = AreKept l.setup l.number l.initial.parts.items l.parts.items
