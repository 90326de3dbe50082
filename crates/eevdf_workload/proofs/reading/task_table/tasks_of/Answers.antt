use Rattle.std.proofs.Common.{sym, ◌∙◌}
use Rattle.eevdf_workload.{specs.Meaning.task_at, proofs.ReadingLists.one_more}
use Rattle.eevdf_workload.proofs.reading.task_table.tasks_of.Goals as goal

pub loop-place-preserved : goal.loop-place-preserved
loop-place-preserved c =
    one_more (task_at c.args.limits) c.args.members.now c.loop-place.tasks.items _ c.loop-place.place c.index-members-place.result c.in_ok-task_at.field-0 c.loop-place.invariant c.loop-place-test.true
    c.index-members-place.is (sym c.task_at.ensures ∙ c.in_ok-task_at.was) c.in_ok-push.ensures.items
