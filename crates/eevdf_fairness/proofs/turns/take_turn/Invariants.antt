use Rattle.std.proofs.Common.{◌≡◌, drop}
use Rattle.eevdf_queue.specs.Pick.{view_after_pick}
use Rattle.eevdf_fairness.specs.Turns.{after_turn, after_ticks}
use Rattle.eevdf_fairness.proofs.turns.take_turn.Given as goal

abbrev pub invariant-loop-ns : goal.invariant-loop-ns
invariant-loop-ns l =
    (after_ticks l.queue.state (drop l.ns-index l.ticks) ≡ after_turn l.fn.queue.state l.ticks)
    × (l.queue.pick_depth ≡ (view_after_pick l.fn.queue).pick_depth)
