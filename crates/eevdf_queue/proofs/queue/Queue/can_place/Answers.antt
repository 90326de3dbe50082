use Rattle.std.proofs.Common.{◌≤◌, ◌∙◌, ap, sym, arith}
use Rattle.std.proofs.lemmas.Bool.Decides.{nat_tests}
use Rattle.eevdf_queue.specs.{State.View, Sums.total_weight, Sums.total_moment}
use Rattle.eevdf_queue.proofs.Roomy.{roomy}
use Rattle.eevdf_queue.proofs.queue.Queue.can_place.Goals as goal

pub returns-then-is_roomy : goal.returns-then-is_roomy
returns-then-is_roomy c =
    let w = c.get.ensures.within in
    let short : c.args.slice ≤ 100000000 = grind (arith, nat_tests) in
    sym (roomy c.args.self.now.state (record { lag = c.args.lag; nice = c.args.nice; slice = c.args.slice }) c.totals.result
    (c.totals.ensures.weight ∙ ap (λ (z : View). total_weight z.state.runnable) c.self.view_is)
    (c.totals.ensures.moment ∙ ap (λ (z : View). total_moment z.state.runnable) c.self.view_is)
    (c.is_roomy.ensures c.if-is_roomy.true) short c.requires)
