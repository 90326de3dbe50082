use Rattle.std.proofs.Common.{◌∙◌}
use Rattle.eevdf_ops.proofs.GrownLists.{copied_more}
use Rattle.eevdf_ops.proofs.setup.copy_programs.Goals as goal

pub loop-program-preserved : goal.loop-program-preserved
loop-program-preserved c =
    copied_more (λ p. p.items) (λ p. p.items) c.loop-program.copies.items c.push.new.self.items _ c.args.programs.now
    c.loop-program.program-index c.program-item.result c.loop-program-test.true c.program-item.is c.in_ok-push.ensures.items
    (c.in_ok-from_slice.ensures.items ∙ c.deref.ensures.value) c.loop-program.invariant
