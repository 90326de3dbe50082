use Rattle.eevdf_steps.proofs.PlayedOrders.{ends}
use Rattle.eevdf_steps.proofs.played_order.play_with.Goals as goal

pub returns-in-None : goal.returns-in-None
returns-in-None c =
    ends c.args.player c.args.order.now c.play_order.new.player c.into_outcome.result c.in-None.ensures
    c.into_outcome.ensures.sound c.into_outcome.ensures.outcome (c.into_outcome.ensures.history c.in-None.ensures.done)
