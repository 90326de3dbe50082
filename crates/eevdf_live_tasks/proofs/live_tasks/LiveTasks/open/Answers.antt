use Rattle.std.proofs.Common.{◌∙◌, sym, arith}
use Rattle.eevdf_live_tasks.proofs.Openings.{kept-task, number-is}
use Rattle.eevdf_live_tasks.proofs.live_tasks.LiveTasks.open.Goals as goal

pub loop-number-preserved : goal.loop-number-preserved
loop-number-preserved c =
    kept-task c.in-Some.task c.spec.result.now c.loop-number.invariant
    (number-is c.loop-number.number c.in-Some.task (sym c.new-in-loop-number.ensures ∙ c.in-Some.is))
    (omega (arith, c.loop-number-test.true, c.tasks-number-end.ensures))
    c.spec.ensures c.keep_at_home.ensures
