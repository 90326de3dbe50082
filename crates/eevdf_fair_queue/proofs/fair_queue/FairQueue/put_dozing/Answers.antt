use Rattle.std.proofs.Common.{refl}
use Rattle.eevdf_fair_queue.proofs.Keeping.{fair_of, dozing_keeps}
use Rattle.eevdf_fair_queue.proofs.fair_queue.FairQueue.put_dozing.Goals as goal

pub invariant_of-self : goal.invariant_of-self
invariant_of-self c = fair_of _ _ _ _ c.put_dozing.ensures.after refl (dozing_keeps c.self.inside.queue.state c.self.inside.bounds c.args.parcel c.self.invariant)
