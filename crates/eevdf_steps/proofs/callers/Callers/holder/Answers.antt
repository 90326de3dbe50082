use Rattle.std.proofs.Common.{◌<◌, ap, subst, ◌∙◌, sym}
use Rattle.eevdf_steps.specs.{Callers.Callers, Counters.holder, Plan.callers, Positions.counters_at}
use Rattle.eevdf_steps.proofs.Holders.{read_holder}
use Rattle.eevdf_steps.proofs.callers.Callers.holder.Goals as goal

pub returns : goal.returns
returns c =
    read_holder c.self.inside.plan (counters_at c.self.inside.plan 0 c.self.inside.positions.items) c.self.inside.holders.items c.args.cpu c.index.result c.index-2.result.now
    c.index.ensures.number (subst (λ (w : Callers). c.args.cpu < callers w.plan) (sym c.self.view_is) c.requires) c.self.invariant.locks c.index-2.ensures
    ∙ ap (λ (w : Callers). holder w.plan w.counters c.args.cpu) c.self.view_is
