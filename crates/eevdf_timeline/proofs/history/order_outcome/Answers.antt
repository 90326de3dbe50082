use Rattle.eevdf_timeline.proofs.Outcomes.{order_done}
use Rattle.eevdf_timeline.proofs.history.order_outcome.Goals as goal

pub returns-in-Ok : goal.returns-in-Ok
returns-in-Ok c =
    order_done c.args.workload.now c.setup.result.now c.in-Some.order.now c.in-Ok.outcome c.in-Some.ensures c.setup.ensures
    c.in-Ok.ensures.whole c.in-Ok.ensures.one_thread c.in-Ok.ensures.allowed c.in-Ok.ensures.programs
