use Rattle.eevdf_fleet.proofs.EndlessSeats.{of-one-history, parts-in-order}
use Rattle.eevdf_fleet.proofs.endless.fleet.Fleet.close.Goals as goal

pub close-queues-requires : goal.close-queues-requires
close-queues-requires g c = parts-in-order _ c.parts_in.result.items c.args.seats.items c.parts_in.ensures c.requires

pub returns : goal.returns
returns g c = of-one-history g.N.Names.kit.terms c.parts_in.result.items c.args.seats.items c.close-queues.result c.parts_in.ensures c.close-queues.ensures
