-- A player one step later.
use Rattle.std.proofs.Common.{◌≡◌, ℕ, ◌+◌, ◌<◌, ◌≤◌, true, List, ◌++◌, length, get_or, set, sym, ap, ◌∙◌, arith, refl}
use Rattle.std.proofs.Math.ListN.{length-set, length-append}
use Rattle.std.proofs.lemmas.{Bool.and_parts, Grind.common_steps}
use Rattle.std.specs.Prelude.{nat_lt, Option, Some, None}
use Rattle.eevdf_ops.specs.{declared.deeds.Op.Op, Programs.deeds_of}
use Rattle.eevdf_ops.specs.declared.deeds.Op.TheVariants as op
use Rattle.eevdf_steps.specs.{declared.plan.Step.Step, Commits.committed, Commits.committed_by, Callers.Callers}
use Rattle.eevdf_steps.specs.{SoundSteps.is_sound_micro, Requests.Progress, Room.lines_to_come, Work.pulls_from, Journals.noted}
use Rattle.eevdf_steps.specs.{Recorded.Recorded, Working.IsWorking, Players.Player, Players.player_step, Playing.IsPlaying}
use Rattle.eevdf_steps.specs.Playing.{player_of}
use Rattle.eevdf_steps.specs.Plan.{IsSound, Plan, callers, is_sound_op}
use Rattle.eevdf_steps.specs.Counters.{counted, refused, step_next}
use Rattle.eevdf_steps.specs.PostLists.{PostList, has_room, list_at, place_of, posts_after, request_after, ArePosted}
use Rattle.eevdf_steps.specs.MicroState.{answers, appends, home_for, micro_by, works}
use Rattle.eevdf_steps.proofs.{SoundSteps.home_for_below, SoundSteps.is_caller, SoundSteps.step_sound, WorkPlaces.hand_nowhere, SerialSteps.SerialStep}
use Rattle.eevdf_steps.proofs.{SerialSteps.serial_step, WorkSteps.works_kept, Rooms.fewer_to_come, Posting.place_below}
use Rattle.eevdf_steps.proofs.{Posting.posts_step, Progressing.progress_then, PlayerParts.same_callers, PlayerParts.with_parts}

-- a player whose caller is to do a step
pub record Stepping (w : Callers) (lists : List PostList) (found : List (Option ℕ)) (done : Recorded) (p : ℕ) (s : Step) : Type 0 where
  pub playing : IsPlaying w lists found done
  pub sound : IsSound w.plan
  pub each : length w.counters ≡ callers w.plan
  pub step : step_next w.plan w.counters p ≡ Some s
  pub caller : p < callers w.plan
  pub sound_op : is_sound_op w.plan s.op ≡ true
  pub sound_micro : is_sound_micro w.plan s.micro ≡ true
  pub free : refused w.plan w.counters s.micro ≡ None

pub stepping : {w : Callers} {lists : List PostList} {found : List (Option ℕ)} {done : Recorded} (p : ℕ) (s : Step) (a : Player) → player_of w lists found done ≡ a
    → IsPlaying w lists found done → IsSound w.plan → length w.counters ≡ callers w.plan → step_next a.plan a.state.progress.counters p ≡ Some s
    → refused a.plan a.state.progress.counters s.micro ≡ None → Stepping w lists found done p s
stepping {w} p s a same playing sound each e free =
    let step : step_next w.plan w.counters p ≡ Some s = ap (λ (b : Player). step_next b.plan b.state.progress.counters p) same ∙ e in
    let caller : p < callers w.plan = is_caller w.plan w.counters p s step in
    let parts = and_parts (is_sound_op w.plan s.op) (is_sound_micro w.plan s.micro) (step_sound w.plan w.counters p s sound caller step) in
    record {
      playing = playing;
      sound = sound;
      each = each;
      step = step;
      caller = caller;
      sound_op = parts.0;
      sound_micro = parts.1;
      free = ap (λ (b : Player). refused b.plan b.state.progress.counters s.micro) same ∙ free;
    }

pulls_by : (plan : Plan) (n : ℕ) (o : Op) → n ≡ callers plan → is_sound_op plan o ≡ true → pulls_from n o ≡ true
pulls_by plan n (op.Pull source) e h = ap (λ (k : ℕ). nat_lt source k) e ∙ h
pulls_by plan n _ e h = refl

-- the parts of the player after the step
abbrev pub callers_then : Callers → ℕ → Callers
callers_then w p = record { plan = w.plan; counters = counted w.counters p }

abbrev pub lists_then : Callers → List PostList → ℕ → Step → List PostList
lists_then w lists p s = posts_after (place_of w.plan p s.micro) s.micro lists

abbrev pub request_then : Callers → List PostList → ℕ → Step → Option ℕ → Option ℕ
request_then w lists p s f = request_after (place_of w.plan p s.micro) s.micro lists f

abbrev pub found_then : Callers → List PostList → List (Option ℕ) → ℕ → Step → List (Option ℕ)
found_then w lists found p s = set found p (request_then w lists p s (get_or found p None))

-- what is done, with the home of the step's task and the request that was found
abbrev pub done_with : Recorded → ℕ → Step → ℕ → Option ℕ → Recorded
done_with done p s h f = record {
  work = works h done.work p s.op s.micro f;
  journal = noted done.journal (committed f p s.op s.micro) (answers done.work p s.micro f);
}

abbrev pub done_then : Callers → List (Option ℕ) → Recorded → ℕ → Step → Recorded
done_then w found done p s = done_with done p s (home_for w.plan p s.op) (get_or found p None)

module _ {w : Callers} {lists : List PostList} {found : List (Option ℕ)} {done : Recorded} {p : ℕ} {s : Step} (st : Stepping w lists found done p s) where
  counted_it : p < length w.counters
  counted_it = omega (arith, st.caller, st.each)

  home_there : home_for w.plan p s.op < callers w.plan
  home_there = home_for_below w.plan p s.op st.sound st.caller st.sound_op

  works_at : (h : ℕ) → h < callers w.plan → IsWorking done.work p h
  works_at h home = grind (arith, hand_nowhere)

  pub is_working : IsWorking done.work p (home_for w.plan p s.op)
  is_working = works_at (home_for w.plan p s.op) home_there

  pub pulls : pulls_from (length done.work.machine) s.op ≡ true
  pulls = pulls_by w.plan (length done.work.machine) s.op st.playing.work.queues st.sound_op

  -- the step appends no more lines than it leaves fewer to come
  fewer : lines_to_come w.plan (counted w.counters p) (lists_then w lists p s) (found_then w lists found p s)
      + length (appends done.work p s.op s.micro (get_or found p None)) ≤ lines_to_come w.plan w.counters lists found
  fewer =
      fewer_to_come w.plan w.counters lists found done.work (place_of w.plan p s.micro) p s (get_or found p None) (record {
        listed = omega (arith, place_below w.plan p s.micro st.sound st.caller st.sound_micro, st.playing.posts.each);
        caller = omega (arith, st.caller, st.playing.found);
        read = refl;
      }) counted_it st.caller st.step

  pub room_for : length done.journal.lines + length (appends done.work p s.op s.micro (get_or found p None)) ≤ done.journal.room
  room_for = omega (arith, fewer, st.playing.room)

  posts_then : (has_room (list_at lists (place_of w.plan p s.micro)) s.micro ≡ true) × ArePosted w.plan (counted w.counters p) (lists_then w lists p s)
  posts_then = posts_step w.plan w.counters lists p s st.sound st.playing.posts counted_it st.caller st.step st.sound_micro

  pub posts_have_room : has_room (list_at lists (place_of w.plan p s.micro)) s.micro ≡ true
  posts_have_room = posts_then.0

  -- the step, seen from the history
  pub step_of : (f : Option ℕ) → SerialStep w.plan w.plan.start w.counters p done.work done.journal.lines s f
  step_of f =
      serial_step w.plan w.plan.start w.counters p done.work done.journal.lines s f st.sound st.sound.start
      (record { each = st.each; queues = st.playing.work.queues; hands = st.playing.work.hands; answers = st.playing.work.answers })
      st.playing.serial st.step st.free

  -- the deeds done after the step
  commits_then : (a : Player) → player_of w lists found done ≡ a
      → deeds_of (done_then w found done p s).journal.lines ≡ deeds_of a.state.lines ++ committed_by a.state.progress p (step_next a.plan a.state.progress.counters p)
  commits_then a same = grind (arith, common_steps)

  playing_then : IsPlaying (callers_then w p) (lists_then w lists p s) (found_then w lists found p s) (done_then w found done p s)
  playing_then = record {
    posts = posts_then.1;
    found = length-set found p (request_then w lists p s (get_or found p None)) ∙ st.playing.found;
    work = works_kept w.plan done.work p (home_for w.plan p s.op) s.op s.micro (get_or found p None) st.playing.work st.caller home_there
        (pulls_by w.plan (callers w.plan) s.op refl st.sound_op) (step_of (get_or found p None)).hand;
    reserved = st.playing.reserved;
    room = omega (arith, fewer, st.playing.room, length-append done.journal.lines (appends done.work p s.op s.micro (get_or found p None)));
    serial = (step_of (get_or found p None)).serial;
  }

  player_then : player_of (callers_then w p) (lists_then w lists p s) (found_then w lists found p s) (done_then w found done p s) ≡ player_step (player_of w lists found done) p
  player_then =
      ap (λ (g : Progress). record {
        plan = w.plan;
        state = record {
          work = works (home_for w.plan p s.op) done.work p s.op s.micro (get_or found p None);
          progress = g;
          lines = done.journal.lines ++ appends done.work p s.op s.micro (get_or found p None);
        };
      }) (progress_then w.plan w.counters lists found p s st.playing.posts st.caller st.step st.sound_micro)
      ∙ ap (λ (o : Option Step). record { plan = w.plan; state = micro_by w.plan (player_of w lists found done).state p o }) (sym st.step)

-- the parts after a step, by equations
pub record After (w w' : Callers) (lists lists' : List PostList) (found found' : List (Option ℕ)) (done done' : Recorded) (p : ℕ) (s : Step) : Type 0 where
  pub stepped : Stepping w lists found done p s
  pub plan : w'.plan ≡ w.plan
  pub counters : w'.counters ≡ counted w.counters p
  pub lists_are : lists' ≡ lists_then w lists p s
  pub found_are : found' ≡ found_then w lists found p s
  pub done_is : done' ≡ done_then w found done p s

module _ {w w' : Callers} {lists lists' : List PostList} {found found' : List (Option ℕ)} {done done' : Recorded} {p : ℕ} {s : Step}
    (t : After w w' lists lists' found found' done done' p s) where
  then : (P : Callers → List PostList → List (Option ℕ) → Recorded → Type 0)
      → P (callers_then w p) (lists_then w lists p s) (found_then w lists found p s) (done_then w found done p s) → P w' lists' found' done'
  then P = with_parts P (same_callers w' w.plan (counted w.counters p) t.plan t.counters) t.lists_are t.found_are t.done_is

  pub playing_after : IsPlaying w' lists' found' done'
  playing_after = then IsPlaying (playing_then t.stepped)

  pub state_after : (a : Player) → player_of w lists found done ≡ a → player_of w' lists' found' done' ≡ player_step a p
  state_after a same = then (λ v ls fs d. player_of v ls fs d ≡ player_step a p) (player_then t.stepped ∙ ap (λ (b : Player). player_step b p) same)

  pub commits_after : (a : Player) → player_of w lists found done ≡ a
      → deeds_of done'.journal.lines ≡ deeds_of a.state.lines ++ committed_by a.state.progress p (step_next a.plan a.state.progress.counters p)
  commits_after a same = ap (λ (d : Recorded). deeds_of d.journal.lines) t.done_is ∙ commits_then t.stepped a same
