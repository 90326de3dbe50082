use Rattle.std.proofs.Common.{refl, ap}
use Rattle.eevdf_queue.specs.State.{View, empty_state}
use Rattle.eevdf_fair_queue.proofs.Keeping.{fair_of}
use Rattle.eevdf_fair_queue.proofs.fair_queue.FairQueue.open.Goals as goal

pub invariant_of-result : goal.invariant_of-result
invariant_of-result c = fair_of _ _ _ _ (ap (λ (w : View). w.state) c.open.ensures) refl (c.fresh.ensures.fair empty_state refl)
