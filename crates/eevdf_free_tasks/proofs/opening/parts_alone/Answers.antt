use Rattle.eevdf_free_tasks.proofs.{Openings.joined-push, Parts.fresh-push}
use Rattle.eevdf_free_tasks.proofs.opening.parts_alone.Goals as goal

pub loop-cpu-preserved : goal.loop-cpu-preserved
loop-cpu-preserved c = let alone = c.in_ok-of_cpu.ensures.alone in record {
  fresh = rw c.in_ok-push.ensures.items (fresh-push c.loop-cpu.invariant.fresh (rw (← c.numbered.ensures) c.in_ok-of_cpu.ensures.fresh));
  joined = rw c.in_ok-push.ensures.items (joined-push c.in_ok-of_cpu.field-0 c.loop-cpu.invariant.joined alone.0 alone.1 alone.2);
}
