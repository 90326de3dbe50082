use Rattle.std.proofs.Common.{refl}
use Rattle.eevdf_fair_queue.proofs.Keeping.{fair_of, asleep_keeps, leave_running_keeps}
use Rattle.eevdf_fair_queue.proofs.fair_queue.FairQueue.sleep.Goals as goal

pub invariant_of-self-2 : goal.invariant_of-self-2
invariant_of-self-2 c =
    fair_of _ _ _ _ c.put_asleep.ensures.after refl
    (asleep_keeps _ c.self.inside.bounds c.in_ok-parcel.parcel
    (fair_of _ _ _ _ c.detach_running.ensures.after refl (leave_running_keeps c.self.inside.queue.state c.self.inside.bounds c.args.task c.self.invariant)))
