use Rattle.std.proofs.Common.{◌≡◌, true, ap, ◌∙◌}
use Rattle.std.specs.FinMap.{contains_key, insert}
use Rattle.eevdf_queue.specs.{State.State, State.View}
use Rattle.eevdf_queue.proofs.{AsleepCounts.as_many, Sound.Asleep, Sound.Places, Sound.sound_kept}
use Rattle.eevdf_queue.proofs.queue.Queue.keep_asleep.Goals as goal

pub invariant_of-self : goal.invariant_of-self
invariant_of-self c =
    let here : contains_key c.self.inside.asleep.tasks c.args.task ≡ true = ap (λ (w : View). contains_key w.state.asleep c.args.task) c.self.view_is ∙ c.requires.here in
    (sound_kept _ _ _ _ _ _ _ c.change.ensures.tasks here c.self.invariant.0, as_many _ _ _ _ c.self.invariant.1 _ c.change.ensures.tasks here, c.self.invariant.2, c.self.invariant.3)

pub returns-clause-after : goal.returns-clause-after
returns-clause-after c =
    let a = c.self.inside in
    let q : State = record { runnable = a.runnable.tasks; running = a.running; asleep = a.asleep.tasks; base = a.base; places = a.asleep.places; shift = a.shift } in
    ap (λ (n : Asleep). record q { asleep = n; places = c.change.new.self.places }) c.change.ensures.tasks
    ∙ ap (λ (p : Places). record q { asleep = insert a.asleep.tasks c.args.task c.args.sleeper.now; places = p }) c.change.ensures.places
    ∙ ap (λ (w : View). record w.state { asleep = insert w.state.asleep c.args.task c.args.sleeper.now }) c.self.view_is
