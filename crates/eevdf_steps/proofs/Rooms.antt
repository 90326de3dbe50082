-- The history has room for all the lines that come.
use Rattle.std.proofs.Common.{◌≡◌, ◌≢◌, ℕ, zero, suc, ◌+◌, ◌<◌, ◌≤◌, cond, List, [], ◌∷◌, length, drop, get_or, set, sym, ap, ◌∙◌, arith, refl}
use Rattle.std.proofs.lemmas.{List.get_or-set_same, List.get_or-set_other, List.Sums.sum_by-set, Option.slice_get_within, Grind.common_steps}
use Rattle.std.specs.Prelude.{slice_get, is_some, Option, Some, None}
use Rattle.eevdf_ops.specs.{declared.deeds.Op.Op, declared.deeds.Deed.Deed, declared.deeds.Answer.Answer, Places.count, Programs.deed_of}
use Rattle.eevdf_steps.specs.{declared.micro.Micro.Micro, declared.plan.Step.Step, Plan.Plan, Plan.callers, Work.Work, Work.answer, MicroSteps.steps_by}
use Rattle.eevdf_steps.specs.MicroState.{appends, line_of}
use Rattle.eevdf_steps.specs.declared.micro.Micro.TheVariants.{Commit, Take, Settle, Post}
use Rattle.eevdf_steps.specs.Counters.{Counters, count_of, counted, step_next}
use Rattle.eevdf_steps.specs.PostLists.{PostList, list_at, no_posts, oldest_in, posts_after, request_after, taken_more}
use Rattle.eevdf_steps.specs.Room.{lines_in, lines_left, lines_of, lines_to_come, steps_to_come, sum_from, unsettled, waiting, waiting_in}

rest_of : (ss : List Step) (k : ℕ) (s : Step) → slice_get ss k ≡ Some s → lines_in (drop k ss) ≡ lines_of s.micro + lines_in (drop (suc k) ss)
rest_of [] k s e = cc
rest_of (x ∷ ss) zero s e = let same : x ≡ s = cc in ap (λ (t : Step). lines_of t.micro + lines_in ss) same
rest_of (x ∷ ss) (suc k) s e = rest_of ss k s e

left_own : (plan : Plan) (counters : Counters) (p : ℕ) (s : Step) → p < length counters → step_next plan counters p ≡ Some s
    → lines_left plan counters p ≡ lines_left plan (counted counters p) p + lines_of s.micro
left_own plan counters p s h e =
    let once : count_of (counted counters p) p ≡ suc (count_of counters p) =
    get_or-set_same counters p (count_of counters p + 1) 0 h ∙ (let one : count_of counters p + 1 ≡ suc (count_of counters p) = omega arith in one) in
    let less : lines_left plan (counted counters p) p ≡ lines_in (drop (suc (count_of counters p)) (steps_by plan p)) =
    ap (λ (k : ℕ). lines_in (drop k (steps_by plan p))) once in
    omega (arith, less, rest_of (steps_by plan p) (count_of counters p) s e)

left_other : (plan : Plan) (counters : Counters) (p q : ℕ) → q ≢ p → lines_left plan (counted counters p) q ≡ lines_left plan counters q
left_other plan counters p q apart =
    ap (λ (k : ℕ). lines_in (drop k (steps_by plan q))) (get_or-set_other counters p q (count_of counters p + 1) 0 apart)

sum_same : (f g : ℕ → ℕ) (p from n : ℕ) → p < from → ((q : ℕ) → q ≢ p → f q ≡ g q) → sum_from f from n ≡ sum_from g from n
sum_same f g p from zero h same = refl
sum_same f g p from (suc n) h same =
    omega (arith, same from (λ e. omega (arith, e)), sum_same f g p (from + 1) n (omega arith) same)

-- a sum is less by as much as one of its parts is
pub sum_less : (f g : ℕ → ℕ) (p from n d : ℕ) → from ≤ p → p < from + n → f p ≡ g p + d → ((q : ℕ) → q ≢ p → f q ≡ g q) → sum_from f from n ≡ sum_from g from n + d
sum_less f g p from zero d low high less same = absurd (omega arith)
sum_less f g p from (suc n) d low high less same = grind (arith, sum_less f g p (from + 1) n d, sum_same)

-- what a step comes to is no longer to come of the steps
steps_less : (plan : Plan) (counters : Counters) (p : ℕ) (s : Step) → p < length counters → p < callers plan → step_next plan counters p ≡ Some s
    → steps_to_come plan counters ≡ steps_to_come plan (counted counters p) + lines_of s.micro
steps_less plan counters p s h below e =
    sum_less (lines_left plan counters) (lines_left plan (counted counters p)) p 0 (callers plan) (lines_of s.micro) (omega arith) (omega arith)
    (left_own plan counters p s h e) (λ q apart. sym (left_other plan counters p q apart))

-- one list of requests is changed
waiting_set : (lists : List PostList) (k : ℕ) (l : PostList) → k < length lists → waiting (set lists k l) + waiting_in (list_at lists k) ≡ waiting lists + waiting_in l
waiting_set lists k l h = sum_by-set waiting_in lists k l no_posts h

-- what one caller has found is changed
unsettled_set : (found : List (Option ℕ)) (p : ℕ) (f r : Option ℕ) → p < length found → f ≡ get_or found p None
    → unsettled (set found p r) + count (is_some f) ≡ unsettled found + count (is_some r)
unsettled_set found p f r h read = grind (arith, common_steps)

-- a request that is found waits no longer
taken_less : (l : PostList) (r : Option ℕ) → oldest_in l ≡ r → waiting_in (cond (is_some r) (record l { taken = l.taken + 1 }) l) + count (is_some r) ≡ waiting_in l
taken_less l None e = omega arith
taken_less l (Some t) e = grind (arith, slice_get_within)

-- what a step does on: its list and its caller are there, and this is what the caller has found
pub record Passing (lists : List PostList) (found : List (Option ℕ)) (place p : ℕ) (f : Option ℕ) : Type 0 where
  pub listed : place < length lists
  pub caller : p < length found
  pub read : f ≡ get_or found p None

-- a step appends no more lines than it leaves fewer to come of itself and of the requests
abbrev LeavesFewer : Work → List PostList → List (Option ℕ) → ℕ → ℕ → Op → Micro → Option ℕ → Type 0
LeavesFewer w lists found place p o m f =
    waiting (posts_after place m lists) + unsettled (set found p (request_after place m lists f)) + length (appends w p o m f) ≤ waiting lists + unsettled found + lines_of m

-- a step that has nothing to do with requests
other_leaves : (lists : List PostList) (found : List (Option ℕ)) (place p : ℕ) (f : Option ℕ) (n : ℕ) → Passing lists found place p f
    → waiting lists + unsettled (set found p f) + n ≤ waiting lists + unsettled found + n
other_leaves lists found place p f n h = omega (arith, unsettled_set found p f f h.caller h.read)

one_line : (d : Option Deed) (a : Option Answer) → length (line_of d a) ≤ 1
one_line None a = omega arith
one_line (Some d) None = omega arith
one_line (Some d) (Some a) = omega arith

commit_leaves : (w : Work) (lists : List PostList) (found : List (Option ℕ)) (place p : ℕ) (o : Op) (f : Option ℕ) → Passing lists found place p f
    → LeavesFewer w lists found place p o Commit f
commit_leaves w lists found place p o f h = omega (arith, unsettled_set found p f f h.caller h.read, one_line (deed_of p o) (answer w p))

-- the request that is posted waits
post_leaves : (w : Work) (lists : List PostList) (found : List (Option ℕ)) (place p t : ℕ) (o : Op) (f : Option ℕ) → Passing lists found place p f
    → LeavesFewer w lists found place p o (Post t) f
post_leaves w lists found place p t o f h = grind (arith, common_steps)

-- the request that is taken was waiting, and is found
take_leaves : (w : Work) (lists : List PostList) (found : List (Option ℕ)) (place p q : ℕ) (o : Op) (f : Option ℕ) → Passing lists found place p f
    → LeavesFewer w lists found place p o (Take q) f
take_leaves w lists found place p q o f h =
    let l : PostList = list_at lists place in
    omega (arith, waiting_set lists place (taken_more l) h.listed, taken_less l (oldest_in l) refl, unsettled_set found p f (oldest_in l) h.caller h.read)

settle_leaves : (w : Work) (lists : List PostList) (found : List (Option ℕ)) (place p q : ℕ) (o : Op) (f : Option ℕ) → Passing lists found place p f
    → LeavesFewer w lists found place p o (Settle q) f
settle_leaves w lists found place p q o f h = grind (arith, common_steps)

leaves_fewer : (w : Work) (lists : List PostList) (found : List (Option ℕ)) (place p : ℕ) (o : Op) (m : Micro) (f : Option ℕ) → Passing lists found place p f
    → LeavesFewer w lists found place p o m f
leaves_fewer w lists found place p o Commit f h = commit_leaves w lists found place p o f h
leaves_fewer w lists found place p o (Post t) f h = post_leaves w lists found place p t o f h
leaves_fewer w lists found place p o (Take q) f h = take_leaves w lists found place p q o f h
leaves_fewer w lists found place p o (Settle q) f h = settle_leaves w lists found place p q o f h
leaves_fewer w lists found place p o _ f h = other_leaves lists found place p f 0 h

-- a step appends no more lines than it leaves fewer to come
pub fewer_to_come : (plan : Plan) (counters : Counters) (lists : List PostList) (found : List (Option ℕ)) (w : Work) (place p : ℕ) (s : Step) (f : Option ℕ)
    → Passing lists found place p f → p < length counters → p < callers plan → step_next plan counters p ≡ Some s
    → lines_to_come plan (counted counters p) (posts_after place s.micro lists) (set found p (request_after place s.micro lists f)) + length (appends w p s.op s.micro f)
    ≤ lines_to_come plan counters lists found
fewer_to_come plan counters lists found w place p s f h each below e =
    omega (arith, steps_less plan counters p s each below e, leaves_fewer w lists found place p s.op s.micro f h)
