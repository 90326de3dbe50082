use Rattle.std.proofs.Common.{length, ap, ◌∙◌}
use Rattle.eevdf_ops.specs.Outcome as outcome
use Rattle.eevdf_ops.specs.Setup.{is_allowed}
use Rattle.eevdf_ops.proofs.SoloPlaces.{kept-whole}
use Rattle.eevdf_ops.proofs.solo.Solo.apply.Goals as goal

pub invariant_of-self : goal.invariant_of-self
invariant_of-self c =
    kept-whole c.args.deed c.self.inside.homes.items c.deref.result.now c.self.inside.queues.items c.deref_mut.result.now c.whole.new.queues c.self.inside.queues.len
    c.deref.ensures.value c.deref_mut.ensures.value c.self.inside.queues.ok.0
    (ap (λ (s : outcome.Solo). is_allowed (length s.queues) s.homes c.args.deed) c.self.view_is ∙ c.requires) c.self.invariant c.whole.ensures.machine
