use Rattle.std.proofs.Common.{◌≡◌, ◌<◌, subst, arith}
use Rattle.std.proofs.lemmas.Grind.{common_steps}
use Rattle.eevdf_steps.specs.Plan.{IsSound, callers, home}
use Rattle.eevdf_steps.proofs.SoundSteps.{home_below}
use Rattle.eevdf_steps.proofs.plan.Plan.home.Goals as goal

pub returns-clause-below : goal.returns-clause-below
returns-clause-below c =
    let is : c.spec.result.now.home ≡ home c.args.self.now c.args.task = grind (arith, common_steps) in
    let below : home c.args.self.now c.args.task < callers c.args.self.now
    = home_below c.args.self.now c.args.task (subst IsSound c.self.view_is c.self.invariant) c.requires in
    omega (arith, is)
