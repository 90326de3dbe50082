use Rattle.std.proofs.Common.{◌≡◌, true, sym, ap, ◌∙◌}
use Rattle.std.specs.{Prelude.is_some, FinMap.contains_key}
use Rattle.eevdf_queue.proofs.{AsleepCounts.some_asleep, AsleepCounts.one_less, Sound.sound_sleeper_leaves, Sound.nowhere_woken}
use Rattle.eevdf_queue.proofs.queue.Queue.detach_asleep.Goals as goal

pub overflow_sub-self : goal.overflow_sub-self
overflow_sub-self c = some_asleep _ _ _ c.self.invariant.1 (sym c.contains.ensures ∙ c.if-not-contains.false)

pub invariant_of-self : goal.invariant_of-self
invariant_of-self c = (
  sound_sleeper_leaves _ _ _ _ _ _ c.remove.ensures.rest c.self.invariant.0,
  one_less _ _ _ _ c.self.invariant.1 c.remove.ensures.rest (ap is_some c.remove.ensures.parcel),
  c.self.invariant.2,
  c.self.invariant.3,
)

pub returns-clause-nowhere : goal.returns-clause-nowhere
returns-clause-nowhere c =
    let here : contains_key c.self.inside.asleep.tasks c.args.task ≡ true = ap is_some c.remove.ensures.parcel in
    let same : c.starting_at.result.task ≡ c.args.task = search in
    nowhere_woken _ _ _ _ _ _ _ _ _ c.remove.ensures.rest here same c.self.invariant.0
