use Rattle.std.proofs.Common.{◌≤◌, sym, subst, arith}
use Rattle.std.proofs.lemmas.Int.{ints}
use Rattle.eevdf_queue.specs.{State.State, Sums.total_weight}
use Rattle.eevdf_c.proofs.calls.shares.charge.Goals as goal

pub charge-requires : goal.charge-requires
charge-requires c =
    subst (λ (x : State). 1 ≤ total_weight x.runnable) (sym c.opened.view_is) (c.requires (omega (arith, ints, c.if-code-ge0.true)))
