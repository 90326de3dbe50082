use Rattle.std.proofs.Common.{ap, ◌∙◌}
use Rattle.eevdf_ops.specs.Setup.{cpus_of}
use Rattle.eevdf_fleet.specs.Fleets.{capacity_of, quota_of, seats_in, setup_of}
use Rattle.eevdf_fleet.proofs.SeatLists.{seats-fresh}
use Rattle.eevdf_fleet.proofs.fleet.Fleet.open.Goals as goal

pub returns : goal.returns
returns g c =
    let k = g.N.Names.kit in
    c.in_ok-seats.ensures ∙ ap seats_in c.in_ok-queues.ensures ∙ seats-fresh (quota_of k) (capacity_of k) (cpus_of (setup_of k))
