use Rattle.eevdf_fleet.specs.Fleets.{setup_of}
use Rattle.eevdf_live_tasks.proofs.Lives.{HavePickedStrays}
use Rattle.eevdf_live_tasks.proofs.live_tasks.LiveTasks.pick.Given as goal

abbrev pub invariant-loop : goal.invariant-loop
invariant-loop g l = HavePickedStrays (setup_of g.N.Names.kit) l.initial.seat l.seat
