-- What a caller has posted when it is done is what its program posts.
use Rattle.std.proofs.Common.{◌≡◌, ℕ, zero, suc, ◌+◌, Bool, cond, List, [], ◌∷◌, ◌++◌, map, refl, arith}
use Rattle.std.proofs.lemmas.List.{take_all}
use Rattle.std.specs.Prelude.{None}
use Rattle.eevdf_ops.specs.{declared.deeds.Op.Op, Programs.post_of, Programs.posts_in}
use Rattle.eevdf_ops.specs.declared.deeds.Op.TheVariants as op
use Rattle.eevdf_steps.specs.{declared.micro.Micro.TheVariants.Release, Requests.posted, Requests.posts_to, Plan.Plan, Plan.program}
use Rattle.eevdf_steps.specs.Counters.{Counters, step_next}
use Rattle.eevdf_steps.specs.MicroSteps.{draining, moving, steps_of, under_lock}
use Rattle.eevdf_steps.proofs.{Lists.got_past, Positions.micros_in, Positions.step_in, Posting.posts_joined}

sleep_posts : (plan : Plan) (p a b c : ℕ) (o : Op) (here : Bool)
    → posts_to plan c (map (step_in o) (cond here (under_lock p moving) (under_lock a (under_lock b moving)))) ≡ []
sleep_posts plan p a b c o here = grind arith

drain_posts : (plan : Plan) (p c n s : ℕ) → posts_to plan c (map (step_in op.Drain) (draining n s ++ Release p ∷ [])) ≡ []
drain_posts plan p c zero s = refl
drain_posts plan p c (suc n) s = drain_posts plan p c n (s + 1)

operation_posts : (plan : Plan) (p c : ℕ) (o : Op) → posts_to plan c (micros_in plan p o) ≡ post_of plan.homes c o
operation_posts plan p c o = grind (arith, sleep_posts, drain_posts)

pub program_posts : (plan : Plan) (p c : ℕ) (ops : List Op) → posts_to plan c (steps_of plan p ops) ≡ posts_in plan.homes c ops
program_posts plan p c [] = refl
program_posts plan p c (o ∷ ops) = search (program_posts plan p c ops, posts_joined, operation_posts)

pub posted_when_done : (plan : Plan) (counters : Counters) (q c : ℕ) → step_next plan counters q ≡ None
    → posted plan counters q c ≡ posts_in plan.homes c (program plan q)
posted_when_done plan counters q c done = grind (arith, take_all, got_past, program_posts)
