use Rattle.std.proofs.Common.{◌≡◌, ◌*◌, ◌≤◌, List, length, take}
use Rattle.std.specs.List.{sum_by}
use Rattle.eevdf_ops.specs.declared.deeds.Op.{Op}
use Rattle.eevdf_steps.proofs.openings.lines.Given as goal

abbrev pub invariant-loop-caller : goal.invariant-loop-caller
invariant-loop-caller l = record {
  sum : l.lines ≡ sum_by (λ (ops : List Op). length ops) (take l.caller l.plan.programs);
  few : l.lines ≤ 10000 * l.caller;
}
