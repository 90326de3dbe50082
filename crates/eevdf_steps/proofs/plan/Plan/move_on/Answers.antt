use Rattle.std.proofs.Common.{◌+◌, ◌*◌, ◌<◌, ◌≤◌, length, ◌∙◌, sym, arith}
use Rattle.eevdf_ops.specs.Numbers.{most_cpus}
use Rattle.eevdf_steps.specs.MicroSteps.{micros_of}
use Rattle.eevdf_steps.proofs.Lists.{got_past}
use Rattle.eevdf_steps.proofs.Plans.{op_sound, op_within}
use Rattle.eevdf_steps.proofs.Positions.{StandsIn, counter_of_next, few_micros, goes_on, stands}
use Rattle.eevdf_steps.proofs.plan.Plan.move_on.Goals as goal
use Rattle.eevdf_steps.proofs.plan.Plan.move_on.Goals.{After-keeps}

standing : (c : After-keeps) → StandsIn c.args.self.now c.args.cpu c.args.at.now c.args.step
standing c = stands c.args.self.now c.args.cpu c.args.at.now c.args.step c.requires.position c.requires.step

-- an operation has few steps
few : (c : After-keeps) → c.args.at.now.steps + 1 ≤ 2 * most_cpus + 2
few c =
    let within : c.args.at.now.steps < length (micros_of c.args.self.now c.args.cpu c.args.step.op) = (standing c).within in
    omega (arith, (few_micros c.args.self.now c.args.cpu c.args.step.op c.keeps.ensures.few).1)

pub overflow_add-at : goal.overflow_add-at
overflow_add-at c = omega (arith, few (goal.at.overflow_add-at c).After-keeps)

pub micro_at-requires : goal.micro_at-requires
micro_at-requires c =
    op_sound c.args.self.now c.args.cpu c.args.at.now.operation c.args.step.op c.keeps.ensures (standing (goal.at.micro_at-requires c).After-keeps).here

pub overflow_add-at-in-None : goal.overflow_add-at-in-None
overflow_add-at-in-None c =
    omega (arith, op_within c.args.self.now c.args.cpu c.args.at.now.operation c.args.step.op c.keeps.ensures (standing (goal.at.overflow_add-at-in-None c).After-keeps).here)

pub go_on-requires : goal.go_on-requires
go_on-requires c = omega (arith, few (goal.at.go_on-requires c).After-keeps)

pub returns-in-None-clause-counter : goal.returns-in-None-clause-counter
returns-in-None-clause-counter c =
    let at : StandsIn c.args.self.now c.args.cpu c.args.at.now c.args.step = standing (goal.at.returns-in-None-clause-counter c).After-keeps in
    let past : length (micros_of c.args.self.now c.args.cpu c.args.step.op) ≤ c.args.at.now.steps + 1
    = got_past (micros_of c.args.self.now c.args.cpu c.args.step.op) (c.args.at.now.steps + 1) (sym c.micro_at.ensures ∙ c.in-None.is) in
    c.begin.ensures.counter
    ∙ counter_of_next c.args.self.now c.args.cpu c.args.at.now.operation c.args.at.now.steps c.args.step.op at.here (omega (arith, at.within))

pub returns-in-Some-clause-position : goal.returns-in-Some-clause-position
returns-in-Some-clause-position c =
    goes_on c.args.self.now c.args.cpu c.args.at.now c.go_on.new.self c.args.step c.in-Some.micro (standing (goal.at.returns-in-Some-clause-position c).After-keeps)
    c.requires.step c.go_on.ensures.operation c.go_on.ensures.steps c.go_on.ensures.next (sym c.micro_at.ensures ∙ c.in-Some.is)
