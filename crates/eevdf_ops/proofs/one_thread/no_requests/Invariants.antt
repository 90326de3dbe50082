use Rattle.std.proofs.Common.{◌≡◌, [], map, replicate}
use Rattle.eevdf_ops.proofs.one_thread.no_requests.Given as goal

abbrev pub invariant-loop-pair : goal.invariant-loop-pair
invariant-loop-pair l = map (λ p. p.items) l.left.items ≡ replicate l._pair []
