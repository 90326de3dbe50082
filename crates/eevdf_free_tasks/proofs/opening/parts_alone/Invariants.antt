use Rattle.eevdf_ops.specs.Setup.{cpus_of}
use Rattle.eevdf_free_tasks.specs.Parts.{AreFresh}
use Rattle.eevdf_free_tasks.specs.Openings.{AreJoined}
use Rattle.eevdf_free_tasks.proofs.opening.parts_alone.Given as goal

abbrev pub invariant-loop-cpu : goal.invariant-loop-cpu
invariant-loop-cpu l = record {
  fresh : AreFresh l.setup l.cpu l.parts.items;
  joined : AreJoined (cpus_of l.setup) 0 0 l.parts.items;
}
