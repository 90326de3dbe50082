use Rattle.std.proofs.Common.{refl}
use Rattle.eevdf_fair_queue.proofs.Keeping.{fair_of, any_taken_keeps}
use Rattle.eevdf_fair_queue.proofs.fair_queue.FairQueue.take_any.Goals as goal

pub invariant_of-self : goal.invariant_of-self
invariant_of-self c = fair_of _ _ _ _ c.take_any-parcel.ensures.after refl (any_taken_keeps c.self.inside.queue.state c.self.inside.bounds c.self.invariant)
