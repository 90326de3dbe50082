use Rattle.std.proofs.Common.{◌≡◌, drop, map}
use Rattle.eevdf_fairness.specs.Turns.{after_turns}
use Rattle.eevdf_fairness.proofs.turns.take_each.Given as goal

abbrev pub invariant-loop-turn : goal.invariant-loop-turn
invariant-loop-turn l = after_turns l.queue.state (map (λ t. t.items) (drop l.turn-index l.turns)) ≡ after_turns l.fn.queue.state (map (λ t. t.items) l.turns)
