use Rattle.std.proofs.Common.{◌≡◌, sym, ap, ◌∙◌}
use Rattle.eevdf_queue.specs.{State.State, Sums.total_weight}
use Rattle.eevdf_fair_queue.specs.{Fair.FairView, ShareClock.charged, Owed.load_of, Owed.charged_from}
use Rattle.eevdf_fair_queue.proofs.Owed.{tick_load}
use Rattle.eevdf_fair_queue.proofs.fair_queue.FairQueue.tick.Goals as goal

pub returns-in-Charged-clause-clock : goal.returns-in-Charged-clause-clock
returns-in-Charged-clause-clock c =
    let f : FairView = record { queue = c.self.inside.queue; bounds = c.self.inside.bounds; clock = c.self.inside.clock } in
    let load : total_weight c.tick-answer.new.queue.state.runnable ≡ load_of f =
    ap (λ (q : State). total_weight q.runnable) c.tick-answer.ensures.after ∙ tick_load c.self.inside.queue.state c.args.ns in
    c.charge.ensures ∙ ap (charged c.self.inside.clock c.args.ns) load ∙ ap (charged_from f c.args.ns) (sym c.in-Charged.is)
    ∙ ap (λ (x : FairView). charged_from x c.args.ns c.tick-answer.result) c.self.view_is
