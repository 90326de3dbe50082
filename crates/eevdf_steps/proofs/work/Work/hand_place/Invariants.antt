use Rattle.std.proofs.Common.{◌≡◌, drop}
use Rattle.eevdf_steps.specs.Places.{hands_with}
use Rattle.eevdf_steps.proofs.work.Work.hand_place.Given as goal

abbrev pub invariant-loop-caller : goal.invariant-loop-caller
invariant-loop-caller l = hands_with l.self.hands l.task ≡ hands_with (drop l.caller l.self.hands) l.task
