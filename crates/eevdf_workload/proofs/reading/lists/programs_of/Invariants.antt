use Rattle.std.proofs.Common.{map}
use Rattle.eevdf_workload.{specs.Meaning.program_at, proofs.ReadingLists.IsReadSoFar}
use Rattle.eevdf_workload.proofs.reading.lists.programs_of.Given as goal

abbrev pub invariant-loop-cpu : goal.invariant-loop-cpu
invariant-loop-cpu l = IsReadSoFar (program_at l.limits) l.members (map (λ p. p.items) l.programs.items) l.cpu
