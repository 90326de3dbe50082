-- Every step of a caller keeps each task in one place.
use Rattle.std.proofs.Common.{◌≡◌, ℕ, zero, suc, ◌+◌, ◌<◌, ◌≤◌, Bool, true, false, cond, List, [], ◌∷◌, length, get_or, set, arith, refl}
use Rattle.std.proofs.Math.ListN.{length-set}
use Rattle.std.specs.Prelude.{◌==◌, IfSome, Option, Some, None}
use Rattle.eevdf_queue.specs.{State.State, State.Contents, Leaving.leave}
use Rattle.eevdf_ops.specs.{Acts.local_of, LocalActs.local_done, declared.acts.LocalAct.LocalAct, declared.deeds.Op.Op, declared.deeds.Answer.Answer, declared.halves.Putting.Putting, declared.halves.Taking.Taking}
use Rattle.eevdf_ops.specs.declared.halves.Putting.TheVariants.{Asleep, Dozing, Runnable}
use Rattle.eevdf_ops.specs.declared.halves.Taking.TheVariants as taking
use Rattle.eevdf_ops.specs.{Halves.taken_out, Machine.queue_at, Setup.is_task, OneQueue.one_wake, WholePull.pull_decision, WholePull.task_of}
use Rattle.eevdf_ops.specs.Halves as halves
use Rattle.eevdf_ops.specs.declared.deeds.Op.TheVariants as op
use Rattle.eevdf_ops.specs.Places.{count, places, places_in}
use Rattle.eevdf_ops.proofs.MachinePlaces.{places-set, places-at}
use Rattle.eevdf_ops.proofs.QueuePlaces.{IsSame, IsWith, IsWithout, own-same, wake-same, asleep-with, dozing-with, runnable-with}
use Rattle.eevdf_ops.proofs.{Carried.leaves-without, Carried.taken-carries, Pulling.with_task-put}
use Rattle.eevdf_steps.specs.{declared.micro.Micro.Micro, Plan.Plan, Plan.callers, Playing.IsWork, Working.FitsHand}
use Rattle.eevdf_steps.specs.{Working.HasRoom, MicroState.settled, MicroState.works}
use Rattle.eevdf_steps.specs.Places.{hands_with, is_in_hand, places_of}
use Rattle.eevdf_steps.specs.declared.micro.Micro.TheVariants.{Act, Detach, Attach, Settle}
use Rattle.eevdf_steps.specs.Work.{Work, act, local_act, attach, detach, detached, hand, pulls_from, put_in}
use Rattle.eevdf_steps.proofs.WorkPlaces.{held_nowhere, count-le}
use Rattle.std.proofs.lemmas.Bool.{ltb-true}

hands-set : (hands : List (Option Contents)) (k u : ℕ) (h : Option Contents) → k < length hands
    → hands_with (set hands k h) u + count (is_in_hand (get_or hands k None) u) ≡ hands_with hands u + count (is_in_hand h u)
hands-set [] k u h below = absurd (omega arith)
hands-set (x ∷ hands) zero u h below = omega arith
hands-set (x ∷ hands) (suc k) u h below = omega (arith, hands-set hands k u h (omega arith))

same_queue : (plan : Plan) (w : Work) (p : ℕ) (q : State) (kept : List (Option Answer)) → IsWork plan w → p < callers plan → IsSame (queue_at w.machine p) q
    → length kept ≡ length w.answers → IsWork plan (record w { machine = set w.machine p q; answers = kept })
same_queue plan w p q kept works below same long = grind (arith, length-set, places-set)

out_kept : (plan : Plan) (w : Work) (p c : ℕ) (q : State) (t : Contents) (a : Answer) → IsWork plan w → p < callers plan → c < callers plan
    → IsWithout (queue_at w.machine c) t.task q → hand w p ≡ None
    → IsWork plan (record { machine = set w.machine c q; hands = set w.hands p (Some t); answers = set w.answers p (Some a) })
out_kept plan w p c q t a works below source without empty = grind (arith, length-set, places-set, hands-set)

in_kept : (plan : Plan) (w : Work) (p c : ℕ) (q : State) (t : Contents) → IsWork plan w → p < callers plan → c < callers plan
    → IsWith (queue_at w.machine c) t.task q → hand w p ≡ Some t
    → IsWork plan (record w { machine = set w.machine c q; hands = set w.hands p None })
in_kept plan w p c q t works below target with full = grind (arith, length-set, places-set, hands-set)

local_kept : (plan : Plan) (w : Work) (p : ℕ) (o : Option LocalAct) → IsWork plan w → p < callers plan → IfSome o (λ (a : LocalAct). IsSame (queue_at w.machine p) (local_done a (queue_at w.machine p)).1)
    → IsWork plan (local_act w p o)
local_kept plan w p None works below same = works
local_kept plan w p (Some a) works below same = grind (arith, same_queue, same, length-set)

act_kept : (plan : Plan) (w : Work) (p : ℕ) (o : Op) → IsWork plan w → p < callers plan → IsWork plan (act w p o)
act_kept plan w p o works below = local_kept plan w p (local_of o) works below (own-same o (queue_at w.machine p))

take_kept : (plan : Plan) (w : Work) (p c : ℕ) (a : Answer) (t : Taking) (r : Option Contents) → IsWork plan w → p < callers plan → c < callers plan → hand w p ≡ None
    → taken_out t (queue_at w.machine c) ≡ r → IsWork plan (detached w p c a r)
take_kept plan w p c a t None works below source empty e = grind (arith, length-set, places-set, hands-set)
take_kept plan w p c a t (Some x) works below source empty e =
    out_kept plan w p c (leave (queue_at w.machine c) x.task) x a works below source
    (leaves-without (queue_at w.machine c) x.task x (taken-carries t (queue_at w.machine c) x e)) empty

detach_kept : (plan : Plan) (w : Work) (p : ℕ) (o : Op) → IsWork plan w → p < callers plan → pulls_from (callers plan) o ≡ true → hand w p ≡ None → IsWork plan (detach w p o)
detach_kept plan w p (op.Sleep task) works below from empty = take_kept plan w p p _ (taking.Sleep task) _ works below below empty refl
detach_kept plan w p (op.Doze task) works below from empty = take_kept plan w p p _ (taking.Sleep task) _ works below below empty refl
detach_kept plan w p (op.End task) works below from empty = take_kept plan w p p _ (taking.End task) _ works below below empty refl
detach_kept plan w p (op.Pull source) works below from empty =
    take_kept plan w p source _ (taking.Pull (task_of (pull_decision w.machine p source))) _ works below (ltb-true source (callers plan) from) empty refl
detach_kept plan w p _ works below from empty = works

put_kept : (plan : Plan) (w : Work) (p c : ℕ) (how : Putting) (h : Option Contents) → IsWork plan w → p < callers plan → c < callers plan → hand w p ≡ h
    → IfSome h (halves.HasRoom how (queue_at w.machine c)) → IsWork plan (put_in w p c how h)
put_kept plan w p c Asleep None works below taker e room = grind (arith, length-set, places-set, hands-set)
put_kept plan w p c Dozing None works below taker e room = grind (arith, length-set, places-set, hands-set)
put_kept plan w p c Runnable None works below taker e room = grind (arith, length-set, places-set, hands-set)
put_kept plan w p c Asleep (Some t) works below taker e room = search (in_kept, asleep-with, held_nowhere)
put_kept plan w p c Dozing (Some t) works below taker e room = search (in_kept, dozing-with, held_nowhere)
put_kept plan w p c Runnable (Some t) works below taker e room = search (in_kept, runnable-with, held_nowhere, with_task-put)

unasked : (h : Option Contents) → IfSome h (λ (t : Contents). Unit {0})
unasked None = tt
unasked (Some t) = tt

-- a doze puts the task in as one, or as a sleep does
doze_or_sleep : (P : Putting → Type 0) (here : Bool) → P Dozing → P Asleep → P (cond {A = Putting} here Dozing Asleep)
doze_or_sleep P true dozes sleeps = dozes
doze_or_sleep P false dozes sleeps = sleeps

attach_kept : (plan : Plan) (w : Work) (p c : ℕ) (o : Op) → IsWork plan w → p < callers plan → c < callers plan → HasRoom w p o → IsWork plan (attach c w p o)
attach_kept plan w p c (op.Sleep task) works below home room = put_kept plan w p c Asleep (hand w p) works below home refl (unasked (hand w p))
attach_kept plan w p c (op.Doze task) works below home room =
    doze_or_sleep (λ (how : Putting). IsWork plan (put_in w p c how (hand w p))) (c == p) (put_kept plan w p c Dozing (hand w p) works below home refl (unasked (hand w p)))
    (put_kept plan w p c Asleep (hand w p) works below home refl (unasked (hand w p)))
attach_kept plan w p c (op.End task) works below home room = put_kept plan w p c Asleep (hand w p) works below home refl (unasked (hand w p))
attach_kept plan w p c (op.Pull source) works below home room = put_kept plan w p p Runnable (hand w p) works below below refl room
attach_kept plan w p c _ works below home room = works

settled_kept : (plan : Plan) (w : Work) (p : ℕ) (f : Option ℕ) → IsWork plan w → p < callers plan → IsWork plan (settled w p f)
settled_kept plan w p None works below = works
settled_kept plan w p (Some t) works below =
    let here : places_in (queue_at w.machine p) t ≤ places w.machine t = places-at w.machine p t (omega (arith, works.queues)) in
    let before : places_of w t ≡ count (is_task plan.homes t) = works.once t in
    let few : count (is_task plan.homes t) ≤ 1 = count-le (is_task plan.homes t) in
    same_queue plan w p (one_wake (queue_at w.machine p) t).1 w.answers works below (wake-same (queue_at w.machine p) t (omega arith)) refl

pub works_kept : (plan : Plan) (w : Work) (p c : ℕ) (o : Op) (m : Micro) (f : Option ℕ) → IsWork plan w → p < callers plan → c < callers plan → pulls_from (callers plan) o ≡ true
    → FitsHand w p o m → IsWork plan (works c w p o m f)
works_kept plan w p c o Act f works below home from hand = act_kept plan w p o works below
works_kept plan w p c o Detach f works below home from hand = detach_kept plan w p o works below from hand
works_kept plan w p c o Attach f works below home from hand = attach_kept plan w p c o works below home hand
works_kept plan w p c o (Settle q) f works below home from hand = settled_kept plan w p f works below
works_kept plan w p c o _ f works below home from hand = works
