use Rattle.std.proofs.Common.{◌≡◌, true, ap, ◌∙◌}
use Rattle.std.specs.FinMap.{get, contains_key, insert, remove}
use Rattle.eevdf_queue.specs.State.{State, View, Contents, TasksAsleep}
use Rattle.eevdf_queue.proofs.{KeptAsleep.put_back, AsleepCounts.as_many, Sound.Asleep, Sound.Places, Sound.gone, Sound.sound_kept}
use Rattle.eevdf_queue.proofs.queue.Queue.begin_asleep.Goals as goal
use Rattle.eevdf_queue.proofs.queue.Queue.begin_asleep.Goals.{After-add}

pub add-requires : goal.add-requires
add-requires c =
    ap (get c.remove-parcel.new.self.tasks) (ap (λ (p : Contents). p.task) c.bringing.ensures ∙ c.remove-parcel.ensures.task)
    ∙ ap (λ (n : Asleep). get n c.args.task) c.remove-parcel.ensures.rest ∙ gone c.self.inside.asleep.tasks c.args.task

-- the sleeping tasks afterwards
asleep_after : (c : After-add) → c.add.new.self.tasks ≡ insert c.self.inside.asleep.tasks c.args.task c.args.sleeper.now
asleep_after c =
    put_back c.self.inside.asleep.tasks c.remove-parcel.new.self.tasks c.add.new.self.tasks c.args.task c.remove-parcel.result c.bringing.result c.args.sleeper.now
    c.remove-parcel.ensures.rest c.remove-parcel.ensures.task c.bringing.ensures (ap (λ (w : TasksAsleep). w.tasks) c.add.ensures)

pub invariant_of-self : goal.invariant_of-self
invariant_of-self c =
    let after = asleep_after (goal.at.invariant_of-self c).After-add in
    let here : contains_key c.self.inside.asleep.tasks c.args.task ≡ true = ap (λ (w : View). contains_key w.state.asleep c.args.task) c.self.view_is ∙ c.requires.here in
    (sound_kept _ _ _ _ _ _ _ after here c.self.invariant.0, as_many _ _ _ _ c.self.invariant.1 _ after here, c.self.invariant.2, c.self.invariant.3)

pub returns-clause-after : goal.returns-clause-after
returns-clause-after c =
    let a = c.self.inside in
    let q : State = record { runnable = a.runnable.tasks; running = a.running; asleep = a.asleep.tasks; base = a.base; places = a.asleep.places; shift = a.shift } in
    let at = (goal.at.returns-clause-after c).After-add in
    let placed : c.add.new.self.places ≡ remove a.asleep.places c.args.task = ap (λ (w : TasksAsleep). w.places) c.add.ensures ∙ c.remove-parcel.ensures.places in
    ap (λ (n : Asleep). record q { asleep = n; places = c.add.new.self.places }) (asleep_after at)
    ∙ ap (λ (p : Places). record q { asleep = insert a.asleep.tasks c.args.task c.args.sleeper.now; places = p }) placed
    ∙ ap (λ (w : View). record w.state { asleep = insert w.state.asleep c.args.task c.args.sleeper.now; places = remove w.state.places c.args.task }) c.self.view_is
