use Rattle.std.proofs.Common.{◌≡◌, ℕ, ap, ◌∙◌}
use Rattle.std.specs.{Prelude.is_some, FinMap.get, FinMap.insert, FinMap.remove, FinMap.contains_key}
use Rattle.eevdf_queue.specs.{State.State, State.View, Sums.Tasks}
use Rattle.eevdf_queue.proofs.{AsleepCounts.some_asleep, AsleepCounts.one_less, DueTasks.due_written, Sound.Asleep, Sound.Places, Sound.not_runnable_of, Sound.sound_wake}
use Rattle.eevdf_queue.proofs.queue.Queue.rise.Goals as goal
use Rattle.eevdf_queue.proofs.queue.Queue.rise.Goals.{After-add}

pub remove-parcel-requires : goal.remove-parcel-requires
remove-parcel-requires c = ap (λ (w : View). contains_key w.state.asleep c.args.task) c.self.view_is ∙ c.requires.here

pub overflow_sub-self : goal.overflow_sub-self
overflow_sub-self c = some_asleep _ _ _ c.self.invariant.1 (ap (λ (w : View). contains_key w.state.asleep c.args.task) c.self.view_is ∙ c.requires.here)

pub add-requires : goal.add-requires
add-requires c = record {
  absent =
      ap (get c.self.inside.runnable.tasks) c.remove-parcel.ensures.task
      ∙ not_runnable_of c.self.inside.runnable.tasks c.self.inside.asleep.tasks c.args.task (c.self.invariant.0.apart c.args.task)
      (ap (λ (w : View). contains_key w.state.asleep c.args.task) c.self.view_is ∙ c.requires.here);
  in_range = c.requires.in_range;
}

-- the runnable tasks afterwards
runnable_after : (c : After-add) → c.add.new.self.tasks ≡ insert c.self.inside.runnable.tasks c.args.task c.args.entry
runnable_after c = c.add.ensures ∙ ap (λ (k : ℕ). insert c.self.inside.runnable.tasks k c.args.entry) c.remove-parcel.ensures.task

pub invariant_of-self : goal.invariant_of-self
invariant_of-self c = (
  sound_wake _ _ _ _ _ _ c.args.task c.args.entry (runnable_after (goal.at.invariant_of-self c).After-add)
      c.remove-parcel.ensures.rest c.self.invariant.0,
  one_less _ _ _ _ c.self.invariant.1 c.remove-parcel.ensures.rest (ap is_some c.remove-parcel.ensures.parcel),
  c.self.invariant.2,
  due_written _ _ c.args.task c.args.entry (runnable_after (goal.at.invariant_of-self c).After-add) c.requires.due c.self.invariant.3,
)

pub returns-clause-after : goal.returns-clause-after
returns-clause-after c =
    let a = c.self.inside in
    let e = c.args.entry in
    let q : State = record { runnable = a.runnable.tasks; running = a.running; asleep = a.asleep.tasks; base = a.base; places = a.asleep.places; shift = a.shift } in
    ap (λ (m : Tasks). record q { runnable = m; asleep = c.remove-parcel.new.self.tasks; places = c.remove-parcel.new.self.places })
    (c.add.ensures ∙ ap (λ (k : ℕ). insert a.runnable.tasks k e) c.remove-parcel.ensures.task)
    ∙ ap (λ (n : Asleep). record q { runnable = insert a.runnable.tasks c.args.task e; asleep = n; places = c.remove-parcel.new.self.places }) c.remove-parcel.ensures.rest
    ∙ ap (λ (p : Places). record q { runnable = insert a.runnable.tasks c.args.task e; asleep = remove a.asleep.tasks c.args.task; places = p }) c.remove-parcel.ensures.places
    ∙ ap (λ (w : View). record w.state {
      runnable = insert w.state.runnable c.args.task e;
      asleep = remove w.state.asleep c.args.task;
      places = remove w.state.places c.args.task;
    })
    c.self.view_is
