use Rattle.std.proofs.Common.{◌≡◌}
use Rattle.eevdf_tests.proofs.threads.call_turns.CallTurnsAnyEndlessSeatTurn.turn.Given as goal

abbrev pub invariant-loop-at : goal.invariant-loop-at
invariant-loop-at g l = l.seat.cpu ≡ l.initial.seat.cpu
