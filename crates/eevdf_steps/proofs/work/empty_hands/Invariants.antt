use Rattle.std.proofs.Common.{◌≡◌, None, replicate}
use Rattle.eevdf_steps.proofs.work.empty_hands.Given as goal

abbrev pub invariant-loop-caller : goal.invariant-loop-caller
invariant-loop-caller l = l.hands.items ≡ replicate l._caller None
