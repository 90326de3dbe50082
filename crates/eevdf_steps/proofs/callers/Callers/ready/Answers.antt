use Rattle.std.proofs.Common.{◌≡◌, ℕ, ap, ◌∙◌, sym, arith}
use Rattle.std.specs.Prelude.{Option, is_none, Result, Ok, Err, is_ok}
use Rattle.eevdf_steps.specs.declared.{plan.Step.Step, step_fault.StepFault.StepFault}
use Rattle.eevdf_steps.specs.{Plan.Plan, Plan.callers, Counters.Counters, Counters.IsFreeStep, Counters.may_step}
use Rattle.eevdf_steps.proofs.Holders.{least_past}
use Rattle.eevdf_steps.proofs.callers.Callers.ready.Goals as goal

is_free : (plan : Plan) (counters : Counters) (caller : ℕ) (r : Result Step StepFault) → IsFreeStep plan counters caller r → may_step plan counters caller ≡ is_ok r
is_free plan counters caller (Ok s) free = ap (λ (o : Option StepFault). is_none o) free.1
is_free plan counters caller (Err f) refused = ap (λ (o : Option StepFault). is_none o) refused

pub loop-caller-preserved : goal.loop-caller-preserved
loop-caller-preserved c =
    c.loop-caller.invariant
    ∙ least_past (may_step c.args.self.now.plan c.args.self.now.counters) c.loop-caller.caller (callers c.args.self.now.plan)
    (omega (arith, c.loop-caller-test.true, c.callers-caller-end.ensures.callers, ap callers c.plan.ensures))
    (ap (may_step c.args.self.now.plan c.args.self.now.counters) (sym c.numbered.ensures)
    ∙ is_free c.args.self.now.plan c.args.self.now.counters c.numbered.result c.free_step.result c.free_step.ensures ∙ sym c.is_ok.ensures.value ∙ c.if-is_ok.false)
