use Rattle.eevdf_timeline.proofs.Outcomes.{run_done}
use Rattle.eevdf_timeline.proofs.history.run_outcome.Goals as goal

pub returns : goal.returns
returns g c =
    run_done c.args.workload.now c.setup.result.now c.in_ok-outcome.outcome c.setup.ensures c.in_ok-outcome.ensures.one_thread c.in_ok-outcome.ensures.allowed c.in_ok-outcome.ensures.programs c.in_ok-outcome.ensures.own
