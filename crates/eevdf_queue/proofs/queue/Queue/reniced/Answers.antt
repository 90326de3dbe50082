use Rattle.std.proofs.Common.{◌∙◌, ap, rules}
use Rattle.std.specs.{Prelude.ℤ, FinMap.get}
use Rattle.std.proofs.lemmas.Int.{to_z-of_z}
use mir.Syntax.{w64}
use mir.Val.{SFits}
use Rattle.eevdf_queue.specs.State.{State, Sleeper, View}
use Rattle.eevdf_queue.specs.{Moves.entry_in_range, Moves.fresh_entry, Leaving.leave}
use Rattle.eevdf_queue.specs.Placing.{placed_entry, runtime_of}
use Rattle.eevdf_queue.proofs.Renicing.{placed_again}
use Rattle.eevdf_queue.proofs.queue.Queue.reniced.Goals as goal

pub returns : goal.returns
returns c =
    let a = c.self.inside in
    let q : State = record { runnable = a.runnable.tasks; running = a.running; asleep = a.asleep.tasks; base = a.base; places = a.asleep.places; shift = a.shift } in
    let s : Sleeper = c.as_sleeper-sleeper.result in
    let others = c.totals_without-others in
    let time : ℤ = c.time_after.result in
    let fits : SFits w64 time = search rules in
    c.placed_entry.ensures
    ∙ ap (λ (z : ℤ). entry_in_range (fresh_entry (runtime_of z others.result.weight s.lag s.nice) s.nice s.slice)) (to_z-of_z w64 time fits)
    ∙ placed_again q c.args.task c.args.entry.now s others.result.weight others.result.moment time
    (ap (λ (w : View). get w.state.runnable c.args.task) c.self.view_is ∙ c.requires.here) others.ensures.weight others.ensures.moment c.time_after.ensures.value
    ∙ ap (λ (w : View). placed_entry (leave w.state c.args.task) s) c.self.view_is
    ∙ ap (placed_entry (leave c.args.self.now.state c.args.task)) c.as_sleeper-sleeper.ensures.value
