-- Each request that is posted is taken once, in the order of posting, and settled before its home takes another.
use Rattle.std.proofs.Common.{append_assoc, append-nil, ◌≡◌, ℕ, ◌<◌, List, [], ◌∷◌, ◌++◌, take, sym, ap, subst, ◌∙◌, arith, refl}
use Rattle.std.proofs.lemmas.{Grind.common_steps, List.get_or-replicate}
use Rattle.std.specs.Prelude.{None}
use Rattle.eevdf_ops.specs.{declared.deeds.Deed.Deed, declared.deeds.Line.Line}
use Rattle.eevdf_ops.specs.Programs.{deeds_by, deeds_of, wakes_in}
use Rattle.eevdf_steps.specs.{MicroSteps.steps_by, Counters.step_next, Commits.commits, Commits.committed_by}
use Rattle.eevdf_steps.specs.Orders.{counters_at_start, order_fault}
use Rattle.eevdf_steps.specs.Plan.{IsSound, Plan, callers}
use Rattle.eevdf_steps.specs.Requests.{Progress, found_by, left, posted, posts_to, progress_after, progress_at_start, progress_step}
use Rattle.eevdf_steps.proofs.CommittedLines.{PostsAreKept, PostsAreTakenOrLeft, unsettled}
use Rattle.eevdf_steps.proofs.{CommittedPrograms.deeds_of_lines, Holders.count_first}
use Rattle.eevdf_steps.proofs.LawfulOrders.{done_by_all, faultless_whole, whole_ends}
use Rattle.eevdf_steps.proofs.RequestMoves.{IsOrderly, Moves, step_moves}

-- what was posted, in three parts: the wakes done, the request that was taken and not settled, and the requests left
abbrev IsParted : Plan → Progress → ℕ → ℕ → List ℕ → Type 0
IsParted plan g q c wakes = posted plan g.counters q c ≡ wakes ++ (unsettled plan g q c ++ left plan g q c)

parted_next : (plan : Plan) (g h : Progress) (q c : ℕ) (before wakes : List ℕ) → Moves plan g h q c wakes → IsParted plan g q c before → IsParted plan h q c (before ++ wakes)
parted_next plan g h q c before wakes m parted = grind (arith, common_steps)

wakes_joined : (q c : ℕ) (a b : List Deed) → wakes_in q (deeds_by c (a ++ b)) ≡ wakes_in q (deeds_by c a) ++ wakes_in q (deeds_by c b)
wakes_joined q c a b = grind (arith, common_steps)

parted_after : (plan : Plan) (g : Progress) (order : List ℕ) (q c : ℕ) (before : List ℕ) → IsSound plan → c < callers plan → IsOrderly plan g q c → IsParted plan g q c before
    → IsParted plan (progress_after plan g order) q c (before ++ wakes_in q (deeds_by c (commits plan g order)))
parted_after plan g [] q c before sound caller ord parted = subst (λ (l : List ℕ). IsParted plan g q c l) (sym (append-nil before)) parted
parted_after plan g (x ∷ order) q c before sound caller ord parted =
    let h : Progress = progress_step plan g x in
    let mine : List Deed = committed_by g x (step_next plan g.counters x) in
    let m : Moves plan g h q c (wakes_in q (deeds_by c mine)) = step_moves plan g x q c (step_next plan g.counters x) sound caller ord refl in
    subst (λ (l : List ℕ). IsParted plan (progress_after plan h order) q c l)
    (append_assoc before (wakes_in q (deeds_by c mine)) (wakes_in q (deeds_by c (commits plan h order)))
    ∙ ap (λ (l : List ℕ). before ++ l) (sym (wakes_joined q c mine (commits plan h order))))
    (parted_after plan h order q c (before ++ wakes_in q (deeds_by c mine)) sound caller m.orderly
    (parted_next plan g h q c before (wakes_in q (deeds_by c mine)) m parted))

-- at the start nothing is posted, taken or found
none_posted : (plan : Plan) (q c : ℕ) → posted plan (counters_at_start plan) q c ≡ []
none_posted plan q c = ap (λ (k : ℕ). posts_to plan c (take k (steps_by plan q))) (count_first (callers plan) q)

none_found : (plan : Plan) (c : ℕ) → c < callers plan → found_by (progress_at_start plan) c ≡ None
none_found plan c caller = get_or-replicate (callers plan) c None None caller

orderly_first : (plan : Plan) (q c : ℕ) → c < callers plan → IsOrderly plan (progress_at_start plan) q c
orderly_first plan q c caller = grind (arith, common_steps)

parted_first : (plan : Plan) (q c : ℕ) → c < callers plan → IsParted plan (progress_at_start plan) q c []
parted_first plan q c caller = grind (arith, common_steps)

-- after any order
pub posts_kept_after : (plan : Plan) (order : List ℕ) (lines : List Line) → IsSound plan → deeds_of lines ≡ commits plan (progress_at_start plan) order
    → PostsAreKept plan (progress_after plan (progress_at_start plan) order) lines
posts_kept_after plan order lines sound same q c caller = grind (arith, common_steps, deeds_of_lines, parted_after, orderly_first, parted_first)

-- after an order without fault
pub posts_taken_or_left : (plan : Plan) (order : List ℕ) (lines : List Line) → IsSound plan → order_fault plan (counters_at_start plan) 0 order ≡ None
    → deeds_of lines ≡ commits plan (progress_at_start plan) order → PostsAreTakenOrLeft plan (progress_after plan (progress_at_start plan) order) lines
posts_taken_or_left plan order lines sound faultless same q c caller = grind (arith, done_by_all, whole_ends, faultless_whole, posts_kept_after, append-nil)
