use Rattle.eevdf_steps.specs.Callers.{BeginAll}
use Rattle.eevdf_steps.proofs.plan.Plan.first_positions.Given as goal

abbrev pub invariant-loop-caller : goal.invariant-loop-caller
invariant-loop-caller l = BeginAll l.self l.caller l.positions.items
