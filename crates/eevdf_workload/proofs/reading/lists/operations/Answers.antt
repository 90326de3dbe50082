use Rattle.std.proofs.Common.{sym, ◌∙◌}
use Rattle.eevdf_workload.{specs.Meaning.operation_at, proofs.ReadingLists.one_more}
use Rattle.eevdf_workload.proofs.reading.lists.operations.Goals as goal

pub loop-place-preserved : goal.loop-place-preserved
loop-place-preserved c =
    one_more (operation_at c.args.limits c.args.cpu) c.args.members.now c.loop-place.program.items _ c.loop-place.place c.index-members-place.result c.in_ok-operation_at.field-0 c.loop-place.invariant c.loop-place-test.true
    c.index-members-place.is (sym c.operation_at.ensures ∙ c.in_ok-operation_at.was) c.in_ok-push.ensures.items
