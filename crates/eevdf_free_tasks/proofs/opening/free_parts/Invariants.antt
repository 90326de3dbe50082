use Rattle.eevdf_ops.specs.Setup.{cpus_of}
use Rattle.eevdf_free_tasks.specs.Parts.{AreFresh}
use Rattle.eevdf_free_tasks.specs.Openings.{AreJoined}
use Rattle.eevdf_free_tasks.proofs.opening.free_parts.Given as goal

abbrev pub invariant-loop-home : goal.invariant-loop-home
invariant-loop-home l = record {
  fresh : AreFresh l.setup (cpus_of l.setup) l.parts.items;
  joined : AreJoined (cpus_of l.setup) l.home 0 l.parts.items;
}

abbrev pub invariant-loop-sender : goal.invariant-loop-sender
invariant-loop-sender l = record {
  fresh : AreFresh l.setup (cpus_of l.setup) l.parts.items;
  joined : AreJoined (cpus_of l.setup) l.home l.sender l.parts.items;
}
