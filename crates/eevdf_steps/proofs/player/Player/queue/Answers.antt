use Rattle.std.proofs.Common.{ap, ◌∙◌}
use Rattle.eevdf_ops.specs.Machine.{queue_at}
use Rattle.eevdf_steps.specs.Players.{Player}
use Rattle.eevdf_steps.proofs.SerialSteps.{free_queue}
use Rattle.eevdf_steps.proofs.player.Player.queue.Goals as goal

pub returns-clause-free : goal.returns-clause-free
returns-clause-free c = λ e.
    c.queue.ensures
    ∙ ap (λ (a : Player). queue_at a.state.work.machine c.args.cpu) c.self.view_is
    ∙ free_queue c.args.self.now.plan c.args.self.now.plan.start c.args.self.now.state.progress.counters c.args.self.now.state.work c.args.self.now.state.lines c.args.cpu
    c.keeps.ensures.serial e
