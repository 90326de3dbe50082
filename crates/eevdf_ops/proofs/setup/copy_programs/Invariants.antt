use Rattle.std.proofs.Common.{◌≡◌, take, map}
use Rattle.eevdf_ops.proofs.setup.copy_programs.Given as goal

abbrev pub invariant-loop-program : goal.invariant-loop-program
invariant-loop-program l = map (λ p. p.items) l.copies.items ≡ map (λ p. p.items) (take l.program-index l.programs)
