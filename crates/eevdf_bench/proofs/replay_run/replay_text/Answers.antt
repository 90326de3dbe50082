use Rattle.eevdf_bench.proofs.ReplayAnswers.{not_replayed, played_report, replayed}
use Rattle.eevdf_bench.proofs.replay_run.replay_text.Goals as goal

pub returns-in-Err-clause-report : goal.returns-in-Err-clause-report
returns-in-Err-clause-report c =
    not_replayed c.args.workload.now c.args.form c.setup.result.now c.in-Some.order.now c.in-Err.fault c.from.result c.in-Some.ensures c.setup.ensures c.in-Err.ensures.play c.from.ensures

pub returns-clause-report : goal.returns-clause-report
returns-clause-report c =
    replayed c.args.workload.now c.args.form c.setup.result.now c.in-Some.order.now c.in_ok-text.text.items c.in-Ok.outcome c.in-Some.ensures c.setup.ensures c.in-Ok.ensures.play c.in_ok-text.ensures

pub returns-clause-one_thread : goal.returns-clause-one_thread
returns-clause-one_thread c =
    played_report c.args.workload.now c.args.form c.setup.result.now c.in-Some.order.now c.in_ok-text.text.items c.in-Ok.outcome c.in-Some.ensures c.setup.ensures
    c.in-Ok.ensures.whole c.in-Ok.ensures.one_thread c.in-Ok.ensures.allowed c.in-Ok.ensures.programs c.in-Ok.ensures.places c.in_ok-text.ensures
