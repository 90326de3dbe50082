use Rattle.std.proofs.Common.{◌*◌, refl}
use Rattle.eevdf_queue.proofs.ShortestTicks.{shortest}
use Rattle.eevdf_queue.proofs.queue.time_to_use_up.time_to_age.Goals as goal

pub returns : goal.returns
returns c =
    shortest c.args.distance c.args.weight (c.args.distance * c.args.weight) c.rounded_up.result c.new.result c.new.ensures refl c.requires.weighs
    c.rounded_up.ensures.some c.rounded_up.ensures.enough c.rounded_up.ensures.least
