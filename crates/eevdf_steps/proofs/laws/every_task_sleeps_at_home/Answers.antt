use Rattle.std.proofs.Common.{sym, subst}
use Rattle.eevdf_steps.specs.Plan.{Plan}
use Rattle.eevdf_steps.proofs.AsleepHomes.{AllAtHome, callers_at_home}
use Rattle.eevdf_steps.proofs.laws.every_task_sleeps_at_home.Goals as goal

pub returns : goal.returns
returns c = λ e.
    callers_at_home c.args.player.now.plan c.args.player.now.state.progress.counters c.args.player.now.state.work c.args.player.now.state.lines
    c.keeps.ensures.serial
    (subst (λ (plan : Plan). AllAtHome plan.homes plan.start) (sym e) c.start_is_placed.ensures.placed.at_home)
