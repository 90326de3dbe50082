use Rattle.std.proofs.Common.{◌≡◌, ◌+◌, ◌≤◌, List}
use mathlib.Core.List.{IsPrefix}
use Rattle.eevdf_ops.specs.Setup.{cpus_of}
use Rattle.eevdf_fleet.specs.declared.wake_list.DrainedWake.{DrainedWake}
use Rattle.eevdf_fleet.specs.{Drains.AreTakenBy, Fleets.IsNoLess, Fleets.setup_of}
use Rattle.eevdf_fleet.proofs.SenderTurns.{DrainedBelow}
use Rattle.eevdf_fleet.proofs.run_queues.RunQueues.drain_all.Given as goal

abbrev pub invariant-loop-sender : goal.invariant-loop-sender
invariant-loop-sender g l = DrainedBelow l.sender l.initial.seat.seat l.seat.seat l.drained × IsPrefix l.initial.seat.seen l.seat.seen × IsNoLess l.initial.seat.free l.seat.free × (l.slot.number ≡ l.initial.slot.number)
    × AreTakenBy (λ (wakes : List DrainedWake). g.L.WakeList.has_taken l.initial.wakes wakes l.wakes) l.initial.seat.seat l.seat.seat × (cpus_of (setup_of g.N.Names.kit) ≤ g.L.WakeList.room l.wakes + l.sender)
