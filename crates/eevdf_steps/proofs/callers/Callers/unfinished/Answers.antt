use Rattle.std.proofs.Common.{ap, ◌∙◌, sym, arith}
use Rattle.std.specs.Prelude.{Option, is_some}
use Rattle.eevdf_steps.specs.{declared.plan.Step.Step, Counters.is_under_way, Plan.callers}
use Rattle.eevdf_steps.proofs.Holders.{least_past}
use Rattle.eevdf_steps.proofs.callers.Callers.unfinished.Goals as goal

pub loop-caller-preserved : goal.loop-caller-preserved
loop-caller-preserved c =
    c.loop-caller.invariant
    ∙ least_past (is_under_way c.args.self.now.plan c.args.self.now.counters) c.loop-caller.caller (callers c.args.self.now.plan)
    (omega (arith, c.loop-caller-test.true, c.callers-caller-end.ensures.callers, ap callers c.plan.ensures))
    (ap (is_under_way c.args.self.now.plan c.args.self.now.counters) (sym c.numbered.ensures)
    ∙ ap (λ (o : Option Step). is_some o) (sym c.next.ensures.step) ∙ sym c.is_some.ensures ∙ c.if-is_some.false)
