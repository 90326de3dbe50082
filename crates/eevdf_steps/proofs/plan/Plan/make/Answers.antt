use Rattle.std.proofs.Common.{sym, subst}
use Rattle.eevdf_ops.specs.Setup.{Setup}
use Rattle.eevdf_steps.specs.Plan.{IsSound, plan_of}
use Rattle.eevdf_steps.proofs.Setups.{plan_sound}
use Rattle.eevdf_steps.proofs.plan.Plan.make.Goals as goal

pub invariant_of-result : goal.invariant_of-result
invariant_of-result c = subst (λ (s : Setup). IsSound (plan_of s)) (sym c.in_ok-setup.ensures) (plan_sound c.args.setup.now c.cpus-cpus.ensures.sound)
