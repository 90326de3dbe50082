-- How a player begins.
use Rattle.std.proofs.Common.{◌≡◌, ℕ, zero, suc, ◌*◌, ◌/◌, ◌<◌, List, [], ◌∷◌, length, map, take, replicate, sym, ap, subst, ◌∙◌, arith, refl}
use Rattle.std.proofs.Math.ListN.{length-replicate}
use Rattle.std.proofs.lemmas.Nat.{div-mul-add, mod-mul-add, mul-add-lt}
use Rattle.std.specs.Prelude.{Option, None}
use Rattle.eevdf_ops.specs.{Machine.start, Places.IsPlaced, Programs.posts_in, Setup.Setup, Setup.homes_of}
use Rattle.eevdf_steps.proofs.{SerialStart.serial_start, Holders.count_first, ProgramPosts.program_posts, Reserving.room_first}
use Rattle.eevdf_steps.specs.Plan.{IsSound, Plan, callers, pair, plan_of, program}
use Rattle.eevdf_steps.specs.{MicroSteps.steps_by, Orders.counters_at_start, Callers.Callers, Places.hands_with, Openings.AreEmpty}
use Rattle.eevdf_steps.specs.{Openings.most_lines, MicroState.micro_start, Players.player_start, Recorded.Recorded}
use Rattle.eevdf_steps.specs.{Recorded.done_at_start, Playing.IsPlaying, Playing.player_of}
use Rattle.eevdf_steps.specs.Requests.{Progress, posts_to, progress_at_start}
use Rattle.eevdf_steps.specs.PostLists.{ArePosted, PostList, list_at, progress_in}

pub posts_first : (plan : Plan) (lists : List PostList) → AreEmpty plan lists → ArePosted plan (counters_at_start plan) lists
posts_first plan lists a = record {
  each = a.each;
  posted = λ q c i j.
      ap (λ (l : PostList). l.posted) (a.empty (pair plan q c) (mul-add-lt q (callers plan) c (callers plan) i j))
      ∙ ap (λ (k : ℕ). posts_to plan c (take k (steps_by plan q))) (sym (count_first (callers plan) q));
  room = λ q c i j.
      let room : (list_at lists (pair plan q c)).room ≡ length (posts_in plan.homes c (program plan q))
      = ap (λ (l : PostList). l.room) (a.empty (pair plan q c) (mul-add-lt q (callers plan) c (callers plan) i j))
      ∙ ap (λ (k : ℕ). length (posts_in plan.homes k (program plan (pair plan q c / callers plan)))) (mod-mul-add q (callers plan) c j)
      ∙ ap (λ (k : ℕ). length (posts_in plan.homes c (program plan k))) (div-mul-add q (callers plan) c j) in
      omega (arith, ap (λ (l : List ℕ). length l) (program_posts plan q c (program plan q)));
}

none_held : (n u : ℕ) → hands_with (replicate n None) u ≡ 0
none_held zero u = refl
none_held (suc n) u = omega (arith, none_held n u)

taken_none : (lists : List PostList) (n : ℕ) → length lists ≡ n → ((k : ℕ) → k < n → (list_at lists k).taken ≡ 0) → map (λ (l : PostList). l.taken) lists ≡ replicate n 0
taken_none [] zero e h = refl
taken_none [] (suc n) e h = absurd (omega arith)
taken_none (l ∷ lists) zero e h = absurd (omega arith)
taken_none (l ∷ lists) (suc n) e h =
    ap (λ (k : ℕ). k ∷ map (λ (m : PostList). m.taken) lists) (h 0 (omega arith))
    ∙ ap (λ (ns : List ℕ). 0 ∷ ns) (taken_none lists n (omega arith) (λ k below. h (suc k) (omega arith)))

pub playing_first : (plan : Plan) (lists : List PostList) → IsSound plan → AreEmpty plan lists → IsPlaced plan.homes plan.start
    → IsPlaying (record { plan = plan; counters = counters_at_start plan }) lists (replicate (callers plan) None) (done_at_start plan.start (callers plan) (most_lines plan))
playing_first plan lists sound a placed = record {
  posts = posts_first plan lists a;
  found = length-replicate (callers plan) None;
  work = record {
    queues = sound.start;
    hands = length-replicate (callers plan) None;
    answers = length-replicate (callers plan) None;
    once = λ u. omega (arith, placed.once u, none_held (callers plan) u);
  };
  reserved = refl;
  room = omega (arith, room_first plan lists a);
  serial = serial_start plan plan.start sound refl;
}

pub progress_first : (plan : Plan) (lists : List PostList) → AreEmpty plan lists
    → progress_in (counters_at_start plan) lists (replicate (callers plan) None) ≡ progress_at_start plan
progress_first plan lists a =
    ap (λ (ns : List ℕ). record { counters = counters_at_start plan; taken = ns; found = replicate (callers plan) None })
    (taken_none lists (callers plan * callers plan) a.each (λ k below. ap (λ (l : PostList). l.taken) (a.empty k below)))

-- a player whose parts are known by equations
pub record Opened (s : Setup) (w : Callers) (lists : List PostList) (found : List (Option ℕ)) (done : Recorded) : Type 0 where
  pub sound : IsSound w.plan
  pub plan : w.plan ≡ plan_of s
  pub counters : w.counters ≡ counters_at_start (plan_of s)
  pub empty : AreEmpty w.plan lists
  pub nothing : found ≡ replicate (callers w.plan) None
  pub placed : IsPlaced (homes_of s) (start s)
  pub is_done : done ≡ done_at_start (start s) (callers (plan_of s)) (most_lines w.plan)

-- the parts as they are at the start
abbrev first_callers : Setup → Callers
first_callers s = record { plan = plan_of s; counters = counters_at_start (plan_of s) }

abbrev first_done : Setup → Recorded
first_done s = done_at_start (start s) (callers (plan_of s)) (most_lines (plan_of s))

module _ {s : Setup} {w : Callers} {lists : List PostList} {found : List (Option ℕ)} {done : Recorded} (o : Opened s w lists found done) where
  opens : (P : Callers → List PostList → List (Option ℕ) → Recorded → Type 0)
      → P (first_callers s) lists (replicate (callers (plan_of s)) None) (first_done s) → P w lists found done
  opens P there = grind arith

  pub playing_open : IsPlaying w lists found done
  playing_open =
      opens IsPlaying (playing_first (plan_of s) lists (subst IsSound o.plan o.sound) (subst (λ (p : Plan). AreEmpty p lists) o.plan o.empty) o.placed)

  pub player_open : player_of w lists found done ≡ player_start s
  player_open =
      opens (λ v ls fs d. player_of v ls fs d ≡ player_start s)
      (ap (λ (g : Progress). record { plan = plan_of s; state = record (micro_start s) { progress = g } })
      (progress_first (plan_of s) lists (subst (λ (p : Plan). AreEmpty p lists) o.plan o.empty)))
