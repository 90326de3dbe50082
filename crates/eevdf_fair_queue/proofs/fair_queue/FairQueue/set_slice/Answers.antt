use Rattle.std.proofs.Common.{refl}
use Rattle.eevdf_fair_queue.proofs.{Keeping.fair_of, Slices.slice_keeps}
use Rattle.eevdf_fair_queue.proofs.fair_queue.FairQueue.set_slice.Goals as goal

pub invariant_of-self : goal.invariant_of-self
invariant_of-self c = fair_of _ _ _ _ c.set_slice-here.ensures.after refl (slice_keeps c.self.inside.queue.state c.self.inside.bounds c.args.task c.args.slice c.self.invariant)
