use Rattle.std.proofs.Common.{◌+◌, List, sym, subst}
use Rattle.eevdf_steps.specs.{Callers.BeginAll, declared.plan.Position.Position}
use Rattle.eevdf_steps.proofs.Positions.{begin_next}
use Rattle.eevdf_steps.proofs.plan.Plan.first_positions.Goals as goal

pub loop-caller-preserved : goal.loop-caller-preserved
loop-caller-preserved c =
    subst (λ (ps : List Position). BeginAll c.args.self.now (c.loop-caller.caller + 1) ps) (sym c.in_ok-push.ensures.items)
    (begin_next c.args.self.now c.loop-caller.caller c.numbered.result c.loop-caller.positions.items c.begin.result c.loop-caller.invariant
    c.numbered.ensures c.begin.ensures.position c.begin.ensures.counter)
