use Rattle.std.proofs.Common.{◌∙◌}
use Rattle.eevdf_orders.proofs.GoingAround.{PassedOver, least_beyond, passed_over}
use Rattle.eevdf_orders.proofs.order_making.step_among.Goals as goal

pub loop-caller-preserved : goal.loop-caller-preserved
loop-caller-preserved c =
    let passed : PassedOver c.loop-caller.player c.loop-caller.caller c.step.new.self
    = passed_over c.loop-caller.player c.loop-caller.caller c.step.result c.step.new.self c.step.ensures.step c.if-is_ok.ensures.value in
    record {
      same = passed.stays ∙ c.loop-caller.invariant.same;
      least = least_beyond c.loop-caller.player c.step.new.self c.args.from c.loop-caller.caller c.args.end passed c.loop-caller-test.true c.loop-caller.invariant.least;
    }
