use Rattle.std.proofs.Common.{◌∙◌, ap, length, arith}
use Rattle.eevdf_free_tasks.proofs.Comings.{come-more}
use Rattle.eevdf_free_tasks.proofs.ring_ends.receive.Goals as goal

pub loop-preserved : goal.loop-preserved
loop-preserved c =
    let ring = c.pop_known-task.ensures.ring in let before = c.loop.invariant.ring in record {
      ring = ((ring.0.0 ∙ before.0.0, ring.0.1 ∙ before.0.1, ring.0.2 ∙ before.0.2, ring.0.3 ∙ before.0.3), ring.1 ∙ before.1);
      come = come-more _ c.loop.invariant.come c.pop_known-task.ensures.received.0 c.set_free.ensures.after;
      rest = omega (arith, c.loop.invariant.rest, ap length c.pop_known-task.ensures.received.1);
    }
