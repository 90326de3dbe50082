use Rattle.std.proofs.Common.{◌≡◌, ℕ, ◌+◌, ◌<◌, List, length, set, true, ap, subst, ◌∙◌, sym, arith}
use Rattle.std.proofs.Math.ListN.{length-set}
use Rattle.std.specs.Prelude.{Option, Some}
use Rattle.std.proofs.lemmas.Grind.{common_steps}
use Rattle.eevdf_steps.specs.{Callers.Callers, Counters.counted, Counters.refused, Counters.step_next, Plan.callers}
use Rattle.eevdf_steps.specs.{Holders.holders_after, Positions.IsPosition, Positions.counter_at, Positions.counters_at, SoundSteps.is_sound_step}
use Rattle.eevdf_steps.proofs.{SoundSteps.is_caller, SoundSteps.micro_sound, SoundSteps.step_sound}
use Rattle.eevdf_steps.proofs.CounterLists.{counters_with, length-counters_at, positions_with, step_kept}
use Rattle.eevdf_steps.proofs.Holders.{holders_next, same_holders, sound_lock, written_back, length-holders_after}
use Rattle.eevdf_steps.proofs.callers.Callers.advance.Goals as goal
use Rattle.eevdf_steps.proofs.callers.Callers.advance.Goals.{After-keeps, After-index, After-index_mut, After-move_on}

step_is : (c : After-keeps) → step_next c.self.inside.plan (counters_at c.self.inside.plan 0 c.self.inside.positions.items) c.args.cpu ≡ Some c.args.step
step_is c = ap (λ (w : Callers). step_next w.plan w.counters c.args.cpu) c.self.view_is ∙ c.requires.step

caller : (c : After-keeps) → c.args.cpu < callers c.self.inside.plan
caller c = is_caller c.self.inside.plan (counters_at c.self.inside.plan 0 c.self.inside.positions.items) c.args.cpu c.args.step (step_is c)

sound : (c : After-keeps) → is_sound_step c.self.inside.plan c.args.step ≡ true
sound c =
    step_sound c.self.inside.plan (counters_at c.self.inside.plan 0 c.self.inside.positions.items) c.args.cpu c.args.step c.keeps.ensures (caller c) (step_is c)

pub note_locks-requires : goal.note_locks-requires
note_locks-requires c =
    sound_lock c.self.inside.plan (length c.deref_mut.result.now) c.args.step.micro
    (ap (λ (hs : List (Option ℕ)). length hs) c.deref_mut.ensures.value ∙ c.self.invariant.locks.each)
    (micro_sound c.self.inside.plan c.args.step (sound (goal.at.note_locks-requires c).After-keeps))

within : (c : After-index) → c.index.result < length c.self.inside.positions.items
within c = omega (arith, caller (goal.at.After-index c).After-keeps, c.index.ensures.number, c.self.invariant.each)

kept : (c : After-index_mut) → c.index_mut.result.now.next ≡ Some c.args.step
kept c =
    step_kept c.self.inside.plan c.self.inside.positions.items c.index.result c.args.cpu c.index_mut.result.now c.index.ensures.number
    (within (goal.at.After-index_mut c).After-index) c.index_mut.ensures.value c.self.invariant.within
    ∙ step_is (goal.at.After-index_mut c).After-keeps

pub move_on-requires-clause-step : goal.move_on-requires-clause-step
move_on-requires-clause-step c = kept (goal.at.move_on-requires-clause-step c).After-index_mut

counts : (c : After-move_on) → counters_at c.self.inside.plan 0 (set c.self.inside.positions.items c.index.result c.move_on.new.at)
    ≡ counted (counters_at c.self.inside.plan 0 c.self.inside.positions.items) c.args.cpu
counts c =
    counters_with c.self.inside.plan c.self.inside.positions.items c.index.result c.index_mut.result.now c.move_on.new.at
    (within (goal.at.After-move_on c).After-index) c.index_mut.ensures.value
    (subst (λ (k : ℕ). counter_at c.self.inside.plan k c.move_on.new.at ≡ counter_at c.self.inside.plan k c.index_mut.result.now + 1)
    (sym c.index.ensures.number) c.move_on.ensures.counter)
    ∙ ap (counted (counters_at c.self.inside.plan 0 c.self.inside.positions.items)) c.index.ensures.number

pub invariant_of-self : goal.invariant_of-self
invariant_of-self c =
    let noted : c.note_locks.new.holders ≡ holders_after c.args.cpu c.args.step.micro c.self.inside.holders.items
    = c.note_locks.ensures ∙ ap (λ (hs : List (Option ℕ)). holders_after c.args.cpu c.args.step.micro hs) c.deref_mut.ensures.value in
    let long : length c.note_locks.new.holders ≡ length c.self.inside.holders.items
    = ap (λ (hs : List (Option ℕ)). length hs) noted ∙ length-holders_after c.args.cpu c.args.step.micro c.self.inside.holders.items in
    record {
      each = length-set c.self.inside.positions.items c.index.result c.move_on.new.at ∙ c.self.invariant.each;
      within = positions_with c.self.inside.plan c.self.inside.positions.items c.index.result c.move_on.new.at (within (goal.at.invariant_of-self c).After-index)
          (subst (λ (k : ℕ). IsPosition c.self.inside.plan k c.move_on.new.at) (sym c.index.ensures.number) c.move_on.ensures.position) c.self.invariant.within;
      locks = same_holders c.self.inside.plan _ _ _ _ (counts (goal.at.invariant_of-self c).After-move_on)
          (written_back c.self.inside.holders.len c.note_locks.new.holders c.self.inside.holders.items (omega (arith, c.deref_mut.ensures.len, long)) ∙ noted)
          (holders_next c.self.inside.plan (counters_at c.self.inside.plan 0 c.self.inside.positions.items) c.self.inside.holders.items c.args.cpu c.args.step c.self.invariant.locks
          (omega (arith, caller (goal.at.invariant_of-self c).After-keeps, length-counters_at c.self.inside.plan 0 c.self.inside.positions.items, c.self.invariant.each))
          (step_is (goal.at.invariant_of-self c).After-keeps) (sound (goal.at.invariant_of-self c).After-keeps)
          (ap (λ (w : Callers). refused w.plan w.counters c.args.step.micro) c.self.view_is ∙ c.requires.free));
    }

pub returns-clause-counters : goal.returns-clause-counters
returns-clause-counters c = counts (goal.at.returns-clause-counters c).After-move_on ∙ ap (λ (w : Callers). counted w.counters c.args.cpu) c.self.view_is

pub move_on-requires-clause-position : goal.move_on-requires-clause-position
move_on-requires-clause-position c = grind (arith, common_steps)

pub move_on-requires-clause-caller : goal.move_on-requires-clause-caller
move_on-requires-clause-caller c = grind (arith, common_steps)

pub returns-clause-plan : goal.returns-clause-plan
returns-clause-plan c = grind (arith, common_steps)
