use Rattle.std.proofs.Common.{◌≡◌, ◌∙◌, ℕ, to_z, of_z, ap, arith, rules}
use Rattle.std.specs.Prelude.{ℤ, ◌+ℤ◌}
use Rattle.std.specs.FinMap.{get, insert}
use Rattle.std.proofs.lemmas.Int.{to_z-of_z}
use mir.Syntax.{w64, w128}
use mir.Val.{SFits}
use Rattle.eevdf_queue.specs.State.{State, View}
use Rattle.eevdf_queue.specs.{Moves.sleeper_of, Doze.dozing, Doze.put_dozing}
use Rattle.eevdf_queue.proofs.{AsleepCounts.few_asleep, AsleepCounts.one_more, Sound.Asleep, Sound.Places, Sound.sound_sleep}
use Rattle.eevdf_queue.proofs.queue.Queue.put_dozing.Goals as goal
use Rattle.eevdf_queue.proofs.queue.Queue.put_dozing.Goals.{After-add_at}

pub overflow_add-self : goal.overflow_add-self
overflow_add-self c = omega (arith, c.self.invariant.1, few_asleep c.self.inside.asleep.tasks c.keeps.ensures.limited)

tasks_after : (c : After-add_at) → c.add_at.new.self.tasks ≡ insert c.self.inside.asleep.tasks c.args.parcel.task (dozing c.args.parcel)
tasks_after c =
    c.add_at.ensures.tasks
    ∙ ap (λ (k : ℕ). insert c.self.inside.asleep.tasks k (sleeper_of c.without_debt.result)) c.without_debt.ensures.task
    ∙ ap (insert c.self.inside.asleep.tasks c.args.parcel.task) c.without_debt.ensures.sleeper

place_is : (c : After-add_at) → to_z w128 (of_z w128 c.place_at-place.result) ≡ c.args.parcel.start +ℤ c.self.inside.shift
place_is c =
    let start : SFits w64 c.start.result = search rules in
    let shift : SFits w128 c.self.inside.shift = search rules in
    to_z-of_z w128 c.place_at-place.result (record { sfits = c.place_at-place.type_inv })
    ∙ c.place_at-place.ensures.value
    ∙ ap (λ (z : ℤ). z +ℤ to_z w128 (of_z w128 c.self.inside.shift)) (to_z-of_z w64 c.start.result start ∙ c.start.ensures)
    ∙ ap (λ (z : ℤ). c.args.parcel.start +ℤ z) (to_z-of_z w128 c.self.inside.shift shift)

places_after : (c : After-add_at) → c.add_at.new.self.places ≡ insert c.self.inside.asleep.places c.args.parcel.task (c.args.parcel.start +ℤ c.self.inside.shift)
places_after c =
    c.add_at.ensures.places
    ∙ ap (λ (k : ℕ). insert c.self.inside.asleep.places k (to_z w128 (of_z w128 c.place_at-place.result))) c.without_debt.ensures.task
    ∙ ap (insert c.self.inside.asleep.places c.args.parcel.task) (place_is c)

pub invariant_of-self : goal.invariant_of-self
invariant_of-self c =
    let after = tasks_after (goal.at.invariant_of-self c).After-add_at in (
      sound_sleep _ _ _ _ _ _ _ after
          (ap (λ (w : View). get w.state.runnable c.args.parcel.task) c.self.view_is ∙ c.requires.not_runnable)
          c.self.invariant.0,
      one_more _ _ _ _ c.self.invariant.1 _ after
          (ap (λ (w : View). get w.state.asleep c.args.parcel.task) c.self.view_is ∙ c.requires.not_asleep),
      c.self.invariant.2,
      c.self.invariant.3,
    )

pub returns-clause-after : goal.returns-clause-after
returns-clause-after c =
    let a = c.self.inside in
    let p = c.args.parcel in
    let q : State = record { runnable = a.runnable.tasks; running = a.running; asleep = a.asleep.tasks; base = a.base; places = a.asleep.places; shift = a.shift } in
    let at = (goal.at.returns-clause-after c).After-add_at in
    ap (λ (n : Asleep). record q { asleep = n; places = c.add_at.new.self.places }) (tasks_after at)
    ∙ ap (λ (x : Places). record q { asleep = insert a.asleep.tasks p.task (dozing p); places = x }) (places_after at)
    ∙ ap (λ (w : View). put_dozing w.state p) c.self.view_is
