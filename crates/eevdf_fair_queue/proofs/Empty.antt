-- Where nothing is runnable, fresh bounds are fair.
use Rattle.std.proofs.Common.{◌≡◌, ℕ, Some, None, refl, ap, ◌∙◌}
use Rattle.std.specs.Prelude.{pos}
use Rattle.std.specs.{Ordering.nat_cmp, FinMap.empty, FinMap.get, FinMap.get-empty}
use Rattle.eevdf_queue.specs.{declared.entry.Entry.Entry, State.State, Sums.Tasks}
use Rattle.eevdf_fair_queue.specs.{Bounds.fresh, Fair.IsFair}
use Rattle.eevdf_fair_queue.proofs.Orders.{nothing_less, no_turn}

none_there : {A : Type 0} (tasks : Tasks) (t : ℕ) (x : Entry) → tasks ≡ empty → get tasks t ≡ Some x → A
none_there tasks t x nobody at =
    let gone : get tasks t ≡ None = ap (λ (m : Tasks). get m t) nobody ∙ get-empty nat_cmp t in absurd (cc)

pub nobody_is_fair : (q : State) → q.runnable ≡ empty → IsFair q fresh
nobody_is_fair q nobody = record {
  due = λ t x at. none_there q.runnable t x nobody at;
  longest = nothing_less (pos 0);
  behind = λ t x at. none_there q.runnable t x nobody at;
  near = λ t x at. none_there q.runnable t x nobody at;
  turn = λ turn is. no_turn turn None refl is;
}
