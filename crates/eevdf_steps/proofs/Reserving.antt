-- What is reserved for the requests and the lines.
use Rattle.std.proofs.Common.{◌≡◌, ℕ, zero, suc, ◌+◌, ◌*◌, ◌<◌, ◌≤◌, Bool, cond, List, [], ◌∷◌, ◌++◌, length, map, take, get_or, replicate, sym, subst, arith, refl}
use Rattle.std.proofs.lemmas.{Grind.common_steps, List.Folds.sum_by-replicate, List.Sums.sum_by-cons}
use Rattle.std.proofs.lemmas.List.{get_or_append_left, get_or_push, length-take-le}
use Rattle.std.specs.{List.sum_by, Prelude.slice_index, Prelude.None}
use Rattle.eevdf_ops.specs.{declared.deeds.Op.Op, Numbers.most_operations, Programs.posts_in}
use Rattle.eevdf_steps.specs.{declared.micro.Micro.TheVariants.Release, declared.plan.Step.Step, Orders.counters_at_start}
use Rattle.eevdf_steps.specs.PostLists.{PostList, list_at}
use Rattle.eevdf_steps.specs.Plan.{IsSound, Plan, callers, program}
use Rattle.eevdf_steps.specs.MicroSteps.{draining, moving, steps_of, under_lock, under_locks}
use Rattle.eevdf_steps.specs.Room.{lines_in, lines_left, lines_to_come, steps_to_come, sum_from, waiting, waiting_in}
use Rattle.eevdf_steps.specs.Openings.{AreEmpty, CountPosts, empty_at, most_lines, post_counted, room_at}
use Rattle.eevdf_steps.proofs.{Holders.count_first, Plans.program_short, Positions.micros_in, Positions.step_in}

posts_few : (homes : List ℕ) (c : ℕ) (ops : List Op) → length (posts_in homes c ops) ≤ length ops
posts_few homes c [] = omega arith
posts_few homes c (o ∷ ops) = grind (arith, posts_few homes c ops)

counts_few : (plan : Plan) (ops : List Op) (counts : List ℕ) (c : ℕ) → CountPosts plan ops counts → c < length counts → slice_index counts c ≤ length ops
counts_few plan ops counts c a h =
    subst (λ (n : ℕ). n ≤ length ops) (sym (a.count c (omega (arith, a.each)))) (posts_few plan.homes c ops)

-- the operation at a place of a program is counted after those before it
pub counted_next : (plan : Plan) (p i : ℕ) (o : Op) (counts : List ℕ) → IsSound plan → i < length (program plan p) → o ≡ get_or (program plan p) i o
    → CountPosts plan (take i (program plan p)) counts → CountPosts plan (take (i + 1) (program plan p)) (post_counted plan o counts)
counted_next plan p i o counts sound h at a = grind (arith, common_steps)

-- fewer than a program may have
pub counts_below : (plan : Plan) (p i c : ℕ) (counts : List ℕ) → IsSound plan → i < length (program plan p) → CountPosts plan (take i (program plan p)) counts → c < length counts
    → slice_index counts c < most_operations
counts_below plan p i c counts sound h a k =
    omega (arith, counts_few plan (take i (program plan p)) counts c a k, length-take-le i (program plan p) (omega arith), program_short plan p sound)

-- the room at the place of a pair
pub room_of : (plan : Plan) (q c : ℕ) (counts : List ℕ) → c < callers plan → CountPosts plan (program plan q) counts → slice_index counts c ≡ room_at plan (q * callers plan + c)
room_of plan q c counts h a = grind arith

-- one list more
pub empty_next : (plan : Plan) (q c : ℕ) (lists : List PostList) (counts : List ℕ) (l : PostList) → c < callers plan → CountPosts plan (program plan q) counts
    → l ≡ record { posted = []; taken = 0; room = slice_index counts c } → length lists ≡ q * callers plan + c → ((k : ℕ) → k < q * callers plan + c → list_at lists k ≡ empty_at plan k)
    → (k : ℕ) → k < q * callers plan + (c + 1) → list_at (lists ++ l ∷ []) k ≡ empty_at plan k
empty_next plan q c lists counts l h a is long before k below = grind (arith, get_or_append_left, get_or_push, room_of)

lines_joined : (xs ys : List Step) → lines_in (xs ++ ys) ≡ lines_in xs + lines_in ys
lines_joined [] ys = omega arith
lines_joined (x ∷ xs) ys = omega (arith, lines_joined xs ys)

draining_lines : (o : Op) (n s cpu : ℕ) → lines_in (map (step_in o) (draining n s ++ Release cpu ∷ [])) ≡ 0
draining_lines o zero s cpu = refl
draining_lines o (suc n) s cpu = omega (arith, draining_lines o n (s + 1) cpu)

sleeping_lines : (o : Op) (p h : ℕ) (b : Bool) → lines_in (map (step_in o) (cond b (under_lock p moving) (under_locks p h moving))) ≤ 1
sleeping_lines o p h b = grind arith

-- an operation comes to at most one line
operation_lines : (plan : Plan) (p : ℕ) (o : Op) → lines_in (micros_in plan p o) ≤ 1
operation_lines plan p o = grind (arith, sleeping_lines, draining_lines)

program_lines : (plan : Plan) (p : ℕ) (ops : List Op) → lines_in (steps_of plan p ops) ≤ length ops
program_lines plan p [] = omega arith
program_lines plan p (o ∷ ops) =
    omega (arith, operation_lines plan p o, program_lines plan p ops, lines_joined (micros_in plan p o) (steps_of plan p ops))

first_lines : (plan : Plan) (p : ℕ) → lines_left plan (counters_at_start plan) p ≤ length (program plan p)
first_lines plan p = grind (arith, count_first, program_lines)

sum_below : (f : ℕ → ℕ) (from : ℕ) (programs : List (List Op)) → ((k : ℕ) → f (from + k) ≤ length (get_or programs k []))
    → sum_from f from (length programs) ≤ sum_by (λ (ops : List Op). length ops) programs
sum_below f from [] h = omega arith
sum_below f from (ops ∷ programs) h =
    let here : f from ≤ length ops = subst (λ (k : ℕ). f k ≤ length ops) (let e : from + 0 ≡ from = omega arith in e) (h 0) in
    let rest : sum_from f (from + 1) (length programs) ≤ sum_by (λ (os : List Op). length os) programs
    = sum_below f (from + 1) programs (λ k. subst (λ (n : ℕ). f n ≤ length (get_or programs k [])) (let e : from + suc k ≡ from + 1 + k = omega arith in e) (h (suc k))) in
    omega (arith, sum_by-cons (λ (os : List Op). length os) ops programs)

steps_first : (plan : Plan) → steps_to_come plan (counters_at_start plan) ≤ most_lines plan
steps_first plan = grind (arith, sum_below, first_lines)

waiting_none : (lists : List PostList) → ((k : ℕ) → k < length lists → waiting_in (list_at lists k) ≡ 0) → waiting lists ≡ 0
waiting_none [] h = refl
waiting_none (l ∷ lists) h =
    omega (arith, sum_by-cons waiting_in l lists, h 0 (omega arith), waiting_none lists (λ k below. h (suc k) (omega arith)))

-- there is room for all that is to come
pub room_first : (plan : Plan) (lists : List PostList) → AreEmpty plan lists
    → lines_to_come plan (counters_at_start plan) lists (replicate (callers plan) None) ≤ most_lines plan
room_first plan lists a = grind (arith, waiting_none, sum_by-replicate, steps_first)
