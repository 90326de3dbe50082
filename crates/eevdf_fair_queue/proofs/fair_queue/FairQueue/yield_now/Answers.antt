use Rattle.std.proofs.Common.{refl}
use Rattle.eevdf_fair_queue.proofs.{Keeping.fair_of, Running.yield_keeps}
use Rattle.eevdf_fair_queue.proofs.fair_queue.FairQueue.yield_now.Goals as goal

pub invariant_of-self : goal.invariant_of-self
invariant_of-self c = fair_of _ _ _ _ c.yield_now.ensures.after refl (yield_keeps c.self.inside.queue.state c.self.inside.bounds c.self.invariant)
