use Rattle.std.proofs.Common.{◌≡◌, true, ◌∙◌, ap, rules}
use Rattle.std.specs.{Prelude.ℤ, FinMap.get, FinMap.contains_key}
use Rattle.std.proofs.lemmas.Int.{to_z-of_z}
use mir.Syntax.{w64}
use mir.Val.{SFits}
use Rattle.eevdf_weight.specs.Limits.{is_in_range}
use Rattle.eevdf_queue.specs.State.{View}
use Rattle.eevdf_queue.proofs.{Bounds.range_v, DueTasks.due_left}
use Rattle.eevdf_queue.proofs.Sound.{sound_leave, nowhere_after, left_start}
use Rattle.eevdf_queue.proofs.queue.Queue.take.Goals as goal

pub invariant_of-self : goal.invariant_of-self
invariant_of-self c =
    let v : ℤ = c.start-self-inside.result in
    let r : is_in_range c.remove-parcel.result.start ≡ true =
    left_start (λ v. is_in_range v ≡ true) _ c.args.task (get c.self.inside.runnable.tasks c.args.task) c.remove-parcel.result c.remove-parcel.ensures.parcel (λ e h. range_v e (c.keeps.ensures c.args.task e h).1) in
    let fits : SFits w64 v = search rules in
    (sound_leave _ _ _ _ _ _ _ _ c.remove-parcel.ensures.rest c.stop.ensures (ap is_in_range (to_z-of_z w64 v fits ∙ c.start-self-inside.ensures) ∙ r) c.self.invariant.0, c.self.invariant.1, c.self.invariant.2, due_left _ _ _ c.remove-parcel.ensures.rest c.self.invariant.3)

pub returns-clause-nowhere : goal.returns-clause-nowhere
returns-clause-nowhere c =
    nowhere_after _ _ _ _ _ _ _ _ _ _ _ _ c.remove-parcel.ensures.rest (ap (λ (z : View). contains_key z.state.runnable c.args.task) c.self.view_is ∙ c.requires) c.remove-parcel.ensures.parcel c.self.invariant.0
