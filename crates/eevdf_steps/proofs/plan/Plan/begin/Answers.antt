use Rattle.std.proofs.Common.{◌∙◌, sym}
use Rattle.eevdf_steps.proofs.Positions.{few_micros, position_in}
use Rattle.eevdf_steps.proofs.plan.Plan.begin.Goals as goal

pub returns-in-Some-clause-position : goal.returns-in-Some-clause-position
returns-in-Some-clause-position c =
    position_in c.args.self.now c.args.cpu c.args.operation 0 c.in-Some.op c.step_of.result (sym c.operation.ensures.op ∙ c.in-Some.is)
    (few_micros c.args.self.now c.args.cpu c.in-Some.op c.keeps.ensures.few).0 c.step_of.ensures
