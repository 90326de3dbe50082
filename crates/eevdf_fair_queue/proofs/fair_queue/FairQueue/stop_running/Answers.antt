use Rattle.std.proofs.Common.{refl}
use Rattle.eevdf_fair_queue.proofs.Keeping.{fair_of, stop_keeps}
use Rattle.eevdf_fair_queue.proofs.fair_queue.FairQueue.stop_running.Goals as goal

pub invariant_of-self : goal.invariant_of-self
invariant_of-self c = fair_of _ _ _ _ c.stop_running.ensures.after refl (stop_keeps c.self.inside.queue.state c.self.inside.bounds c.self.invariant)
