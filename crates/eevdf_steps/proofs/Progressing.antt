-- The progress that the lists of requests show after a step.
use Rattle.std.proofs.Common.{◌≡◌, ℕ, zero, suc, ◌+◌, ◌<◌, true, cond, List, [], ◌∷◌, map, get_or, set, sym, ap, ◌∙◌, refl, arith}
use Rattle.std.proofs.lemmas.{List.set-get_or, Grind.common_steps}
use Rattle.std.specs.Prelude.{is_some, Option, Some, None}
use Rattle.eevdf_steps.specs.{declared.micro.Micro.Micro, declared.plan.Step.Step, SoundSteps.is_sound_micro}
use Rattle.eevdf_steps.specs.Plan.{Plan, callers, pair}
use Rattle.eevdf_steps.specs.Counters.{Counters, counted, step_next}
use Rattle.eevdf_steps.specs.declared.micro.Micro.TheVariants.{Take, Settle, Post}
use Rattle.eevdf_steps.specs.Requests.{Progress, oldest, progress_step, requested, takes}
use Rattle.eevdf_steps.specs.PostLists.{ArePosted, PostList, list_at, oldest_in, place_of, posts_after, progress_in, request_after}

abbrev taken_in : List PostList → List ℕ
taken_in lists = map (λ (l : PostList). l.taken) lists

pub get_taken : (lists : List PostList) (k : ℕ) → get_or (taken_in lists) k 0 ≡ (list_at lists k).taken
get_taken [] k = refl
get_taken (l ∷ lists) zero = refl
get_taken (l ∷ lists) (suc k) = get_taken lists k

set_taken : (lists : List PostList) (k : ℕ) (l : PostList) → taken_in (set lists k l) ≡ set (taken_in lists) k l.taken
set_taken [] k l = refl
set_taken (m ∷ lists) zero l = refl
set_taken (m ∷ lists) (suc k) l = ap (λ (ns : List ℕ). m.taken ∷ ns) (set_taken lists k l)

-- a list with as many requests taken
same_taken : (lists : List PostList) (k : ℕ) (l : PostList) → l.taken ≡ (list_at lists k).taken → taken_in (set lists k l) ≡ taken_in lists
same_taken lists k l e =
    set_taken lists k l ∙ ap (λ (n : ℕ). set (taken_in lists) k n) (e ∙ sym (get_taken lists k)) ∙ set-get_or (taken_in lists) k 0

abbrev progress_as : Counters → List ℕ → List (Option ℕ) → Progress
progress_as counters taken found = record { counters = counters; taken = taken; found = found }

same_progress : (counters : Counters) (a b : List ℕ) (f g : List (Option ℕ)) → a ≡ b → f ≡ g → progress_as counters a f ≡ progress_as counters b g
same_progress counters a b f g e h = ap (λ (x : List ℕ). progress_as counters x f) e ∙ ap (λ (y : List (Option ℕ)). progress_as counters b y) h

takes_by : (plan : Plan) (counters : Counters) (lists : List PostList) (found : List (Option ℕ)) (p q : ℕ) (l : PostList) (r : Option ℕ)
    → l ≡ list_at lists (pair plan q p)
    → progress_as (counted counters p) (taken_in (set lists (pair plan q p) (cond (is_some r) (record l { taken = l.taken + 1 }) l))) (set found p r)
    ≡ record (takes plan (progress_in counters lists found) p q r) { counters = counted counters p }
takes_by plan counters lists found p q l None e = grind (arith, common_steps)
takes_by plan counters lists found p q l (Some t) e = grind (arith, same_progress, set_taken, get_taken)

-- the oldest request is the list's
oldest_is : (plan : Plan) (counters : Counters) (lists : List PostList) (found : List (Option ℕ)) (q c : ℕ) → ArePosted plan counters lists → q < callers plan → c < callers plan
    → oldest_in (list_at lists (pair plan q c)) ≡ oldest plan (progress_in counters lists found) q c
oldest_is plan counters lists found q c a i j = grind (arith, common_steps)

unchanged : (plan : Plan) (counters : Counters) (lists : List PostList) (found : List (Option ℕ)) (p : ℕ)
    → progress_as (counted counters p) (taken_in lists) (set found p (get_or found p None)) ≡ progress_as (counted counters p) (taken_in lists) found
unchanged plan counters lists found p = same_progress (counted counters p) _ _ _ _ refl (set-get_or found p None)

by_micro : (plan : Plan) (counters : Counters) (lists : List PostList) (found : List (Option ℕ)) (p : ℕ) (m : Micro) → ArePosted plan counters lists → p < callers plan
    → is_sound_micro plan m ≡ true
    → progress_in (counted counters p) (posts_after (place_of plan p m) m lists) (set found p (request_after (place_of plan p m) m lists (get_or found p None)))
    ≡ record (requested plan (progress_in counters lists found) p m) { counters = counted counters p }
by_micro plan counters lists found p (Take q) a below well = grind (arith, common_steps, takes_by, oldest_is)
by_micro plan counters lists found p (Settle q) a below well = refl
by_micro plan counters lists found p (Post t) a below well = grind (arith, same_progress, same_taken, set-get_or)
by_micro plan counters lists found p _ a below well = unchanged plan counters lists found p

pub progress_then : (plan : Plan) (counters : Counters) (lists : List PostList) (found : List (Option ℕ)) (p : ℕ) (s : Step) → ArePosted plan counters lists → p < callers plan
    → step_next plan counters p ≡ Some s → is_sound_micro plan s.micro ≡ true
    → progress_in (counted counters p) (posts_after (place_of plan p s.micro) s.micro lists) (set found p (request_after (place_of plan p s.micro) s.micro lists (get_or found p None)))
    ≡ progress_step plan (progress_in counters lists found) p
progress_then plan counters lists found p s a below e well = grind (arith, by_micro)
