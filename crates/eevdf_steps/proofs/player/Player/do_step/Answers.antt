use Rattle.std.proofs.Common.{◌≡◌, ◌+◌, ◌<◌, ◌≤◌, length, ℕ, true, get_or, set, ap, subst, ◌∙◌, sym, arith}
use Rattle.std.proofs.lemmas.List.{get_or_default}
use Rattle.std.specs.Prelude.{Option, None}
use Rattle.eevdf_steps.specs.{Journals.Journal, Recorded.recorded, Work.Work, Working.IsWorking}
use Rattle.eevdf_steps.specs.{SoundSteps.is_sound_micro}
use Rattle.eevdf_steps.specs.Plan.{Plan, callers, is_sound_op}
use Rattle.eevdf_steps.specs.MicroState.{appends, home_for, works}
use Rattle.eevdf_steps.specs.PostLists.{has_room, list_at, place_of, posts_after, request_after}
use Rattle.eevdf_steps.proofs.PlayerSteps.{After, Stepping, commits_after, done_then, done_with, is_working, playing_after, posts_have_room, pulls, request_then, room_for, state_after, step_of, stepping}
use Rattle.eevdf_steps.proofs.player.Player.do_step.Goals as goal
use Rattle.eevdf_steps.proofs.player.Player.do_step.Goals.{After-advance, After-do_micro, After-index_mut, After-keeps}

is_stepping : (c : After-keeps) → Stepping c.self.inside.callers c.self.inside.posts c.self.inside.found.items (recorded c.self.inside.work c.self.inside.journal) c.args.cpu c.args.step
is_stepping c = stepping c.args.cpu c.args.step c.args.self.now c.self.view_is c.self.invariant c.keeps.ensures.sound c.keeps.ensures.each c.requires.next c.requires.free

-- what the caller has found is read
read_found : (c : After-index_mut) → c.index_mut.result.now ≡ get_or c.self.inside.found.items c.args.cpu None
read_found c =
    let caller : c.args.cpu < callers c.self.inside.callers.plan = (is_stepping (goal.at.After-index_mut c).After-keeps).caller in
    c.index_mut.ensures.value ∙ get_or_default c.self.inside.found.items c.index.result c.index_mut.result.now None
    (omega (arith, caller, c.self.invariant.found, c.index.ensures.number))
    ∙ ap (λ (k : ℕ). get_or c.self.inside.found.items k None) c.index.ensures.number

-- what the plan says, said of the callers
pub do_micro-requires-clause-op : goal.do_micro-requires-clause-op
do_micro-requires-clause-op c =
    subst (λ (p : Plan). is_sound_op p c.args.step.op ≡ true) (sym c.plan.ensures) (is_stepping (goal.at.do_micro-requires-clause-op c).After-keeps).sound_op

pub do_micro-requires-clause-micro : goal.do_micro-requires-clause-micro
do_micro-requires-clause-micro c =
    subst (λ (p : Plan). is_sound_micro p c.args.step.micro ≡ true) (sym c.plan.ensures) (is_stepping (goal.at.do_micro-requires-clause-micro c).After-keeps).sound_micro

pub do_micro-requires-clause-work : goal.do_micro-requires-clause-work
do_micro-requires-clause-work c =
    subst (λ (p : Plan). IsWorking c.self.inside.work c.args.cpu (home_for p c.args.cpu c.args.step.op)) (sym c.plan.ensures)
    (is_working (is_stepping (goal.at.do_micro-requires-clause-work c).After-keeps))

pub do_micro-requires-clause-source : goal.do_micro-requires-clause-source
do_micro-requires-clause-source c = pulls (is_stepping (goal.at.do_micro-requires-clause-source c).After-keeps)

pub do_micro-requires-clause-hand : goal.do_micro-requires-clause-hand
do_micro-requires-clause-hand c = (step_of (is_stepping (goal.at.do_micro-requires-clause-hand c).After-keeps) c.index_mut.result.now).hand

pub do_micro-requires-clause-room : goal.do_micro-requires-clause-room
do_micro-requires-clause-room c =
    subst (λ (f : Option ℕ). length c.self.inside.journal.lines + length (appends c.self.inside.work c.args.cpu c.args.step.op c.args.step.micro f) ≤ c.self.inside.journal.room)
    (sym (read_found (goal.at.do_micro-requires-clause-room c).After-index_mut)) (room_for (is_stepping (goal.at.do_micro-requires-clause-room c).After-keeps))

pub do_micro-requires-clause-post : goal.do_micro-requires-clause-post
do_micro-requires-clause-post c =
    subst (λ (p : Plan). has_room (list_at c.self.inside.posts (place_of p c.args.cpu c.args.step.micro)) c.args.step.micro ≡ true) (sym c.plan.ensures)
    (posts_have_room (is_stepping (goal.at.do_micro-requires-clause-post c).After-keeps))

done_is : (c : After-do_micro) → recorded c.do_micro.new.work c.do_micro.new.journal
    ≡ done_then c.self.inside.callers c.self.inside.found.items (recorded c.self.inside.work c.self.inside.journal) c.args.cpu c.args.step
done_is c =
    ap (λ (w : Work). recorded w c.do_micro.new.journal) c.do_micro.ensures.work
    ∙ ap (λ (j : Journal). recorded (works (home_for c.plan.result.now c.args.cpu c.args.step.op) c.self.inside.work c.args.cpu c.args.step.op c.args.step.micro c.index_mut.result.now) j)
    c.do_micro.ensures.journal
    ∙ ap (λ (p : Plan). done_with (recorded c.self.inside.work c.self.inside.journal) c.args.cpu c.args.step (home_for p c.args.cpu c.args.step.op) c.index_mut.result.now) c.plan.ensures
    ∙ ap (λ (f : Option ℕ). done_with (recorded c.self.inside.work c.self.inside.journal) c.args.cpu c.args.step (home_for c.self.inside.callers.plan c.args.cpu c.args.step.op) f)
    (read_found (goal.at.After-do_micro c).After-index_mut)

after : (c : After-advance) → After c.self.inside.callers c.advance.new.self c.self.inside.posts c.do_micro.new.posts
    c.self.inside.found.items (set c.self.inside.found.items c.index.result c.do_micro.new.found)
    (recorded c.self.inside.work c.self.inside.journal) (recorded c.do_micro.new.work c.do_micro.new.journal) c.args.cpu c.args.step
after c = record {
  stepped = is_stepping (goal.at.After-advance c).After-keeps;
  plan = c.advance.ensures.plan;
  counters = c.advance.ensures.counters;
  lists_are = c.do_micro.ensures.posts ∙ ap (λ (p : Plan). posts_after (place_of p c.args.cpu c.args.step.micro) c.args.step.micro c.self.inside.posts) c.plan.ensures;
  found_are = ap (λ (k : ℕ). set c.self.inside.found.items k c.do_micro.new.found) c.index.ensures.number
      ∙ ap (λ (r : Option ℕ). set c.self.inside.found.items c.args.cpu r)
      (c.do_micro.ensures.found
      ∙ ap (λ (p : Plan). request_after (place_of p c.args.cpu c.args.step.micro) c.args.step.micro c.self.inside.posts c.index_mut.result.now) c.plan.ensures
      ∙ ap (λ (f : Option ℕ). request_then c.self.inside.callers c.self.inside.posts c.args.cpu c.args.step f) (read_found (goal.at.After-advance c).After-index_mut));
  done_is = done_is (goal.at.After-advance c).After-do_micro;
}

pub invariant_of-self : goal.invariant_of-self
invariant_of-self c = playing_after (after c)

pub returns-clause-step : goal.returns-clause-step
returns-clause-step c = state_after (after c) c.args.self.now c.self.view_is

pub returns-clause-commits : goal.returns-clause-commits
returns-clause-commits c = commits_after (after c) c.args.self.now c.self.view_is
