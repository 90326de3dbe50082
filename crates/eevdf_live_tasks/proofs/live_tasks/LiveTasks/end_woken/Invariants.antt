use Rattle.eevdf_fleet.specs.Fleets.{setup_of}
use Rattle.eevdf_live_tasks.specs.Lives.{HasEndedWoken}
use Rattle.eevdf_live_tasks.proofs.live_tasks.LiveTasks.end_woken.Given as goal

abbrev pub invariant-loop-place : goal.invariant-loop-place
invariant-loop-place g l = HasEndedWoken (setup_of g.N.Names.kit) l.first l.wakes.items l.ended l.initial.seat l.seat
