use Rattle.std.proofs.Common.{◌≡◌, ◌∙◌, to_z, of_z, sym, ap, rules}
use Rattle.std.specs.Prelude.{ℤ, pos, ◌+ℤ◌}
use Rattle.std.proofs.lemmas.Int.{to_z-of_z}
use mir.Syntax.{w64, w128}
use mir.Val.{SFits}
use Rattle.eevdf_queue.specs.{State.State, State.View, Sums.Tasks, Sums.virtual_time, Sums.time_over, Sums.total_weight, Sums.total_moment}
use Rattle.eevdf_queue.specs.Rebase.{is_shift, lowered_tasks}
use Rattle.eevdf_queue.proofs.{DueTasks.due_lowered, LoweredQueues.rebased_time, LoweredQueues.sound_lowered, Rebasing.shift_kept}
use Rattle.eevdf_queue.proofs.queue.Queue.rebase.Goals as goal

pub invariant_of-self-2 : goal.invariant_of-self-2
invariant_of-self-2 c =
    let fits : SFits w128 c.in-Some.shift = search rules in (
      sound_lowered _ _ _ _ _ _ (c.lower.ensures.lowered c.if-not-lower.false) c.self.invariant.0,
      c.self.invariant.1,
      ap is_shift (to_z-of_z w128 c.in-Some.shift fits) ∙ shift_kept (to_z w128 (of_z w128 c.self.inside.shift) +ℤ to_z w64 (of_z w64 c.floor_time-time.result)) c.in-Some.shift (sym c.shift_after.ensures ∙ c.in-Some.is),
      due_lowered _ _ _ (c.lower.ensures.lowered c.if-not-lower.false) c.self.invariant.3,
    )

pub returns-clause-time : goal.returns-clause-time
returns-clause-time c = λ can.
    let q : State = c.args.self.now.state in
    let time : to_z w64 (of_z w64 c.floor_time-time.result) ≡ virtual_time q =
    to_z-of_z w64 c.floor_time-time.result (record { sfits = c.floor_time-time.type_inv }) ∙ c.floor_time-time.ensures.value in
    ap (λ (m : Tasks). time_over (total_weight m) (total_moment m) (pos 0))
    (c.lower.ensures.lowered c.if-not-lower.false ∙ ap (λ (z : ℤ). lowered_tasks z c.self.inside.runnable.tasks) time)
    ∙ ap (λ (w : View). virtual_time (record w.state { runnable = lowered_tasks (virtual_time q) w.state.runnable; base = pos 0 })) c.self.view_is
    ∙ rebased_time q
