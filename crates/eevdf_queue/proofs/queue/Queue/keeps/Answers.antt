use Rattle.std.proofs.Common.{◌≡◌, true, subst}
use Rattle.std.specs.Prelude.{ℤ}
use Rattle.eevdf_weight.specs.Limits.{is_in_range}
use Rattle.eevdf_queue.specs.State.{View}
use Rattle.eevdf_queue.specs.{Kept.AreInRange, Kept.AreLimited, Kept.AreOfSleepers, Kept.IsSound, Kept.NoneIsPastDue, Rebase.is_shift}
use Rattle.eevdf_queue.proofs.queue.Queue.keeps.Goals as goal

pub returns : goal.returns
returns c = record {
  sound = subst (λ (w : View). IsSound w.state) c.self.view_is c.self.invariant.0;
  in_range = subst (λ (w : View). AreInRange w.state.runnable) c.self.view_is c.keeps.ensures;
  due = subst (λ (w : View). NoneIsPastDue w.state.runnable) c.self.view_is c.self.invariant.3;
  limited = subst (λ (w : View). AreLimited w.state.asleep) c.self.view_is c.keeps-2.ensures.limited;
  placed = subst (λ (w : View). AreOfSleepers w.state.places w.state.asleep) c.self.view_is c.keeps-2.ensures.placed;
  timed = subst (λ (z : ℤ). is_in_range z ≡ true) c.floor_time-time.ensures.value c.floor_time-time.ensures.in_range;
  shifted = subst (λ (w : View). is_shift w.state.shift ≡ true) c.self.view_is c.self.invariant.2;
}
