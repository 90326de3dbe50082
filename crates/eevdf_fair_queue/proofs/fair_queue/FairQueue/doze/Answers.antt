use Rattle.std.proofs.Common.{refl}
use Rattle.eevdf_fair_queue.proofs.Keeping.{fair_of, doze_keeps}
use Rattle.eevdf_fair_queue.proofs.fair_queue.FairQueue.doze.Goals as goal

pub invariant_of-self : goal.invariant_of-self
invariant_of-self c = fair_of _ _ _ _ c.doze-lag.ensures.after refl (doze_keeps c.self.inside.queue.state c.self.inside.bounds c.args.task c.self.invariant)
