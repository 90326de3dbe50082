-- A pull that takes a task levels the loads, and leaves a task at the source.
use Rattle.std.proofs.Common.{◌≡◌, ℕ, ◌+◌, ◌<◌, ◌≤◌, List, length, refl, sym, ap, subst, ◌∙◌, arith}
use Rattle.std.specs.Prelude.{is_some, Option, Some, None, Result, Ok, Err}
use Rattle.std.specs.Int.{abs_diff}
use Rattle.std.specs.FinMap as finite
use Rattle.std.proofs.lemmas.Bool.{ltb-true}
use Rattle.eevdf_weight.specs.Weight.{weight_of}
use Rattle.eevdf_weight.proofs.Weighing.{weight_of-least}
use Rattle.eevdf_queue.specs.State.{State, Contents}
use Rattle.eevdf_queue.specs.{Leaving.leave}
use Rattle.eevdf_ops.specs.{declared.deeds.Answer.Answer, declared.deeds.Deed.TheVariants.Pull, Machine.Machine, Machine.queue_at}
use Rattle.eevdf_ops.specs.declared.deeds.Answer.TheVariants.{Pulled}
use Rattle.eevdf_ops.specs.declared.acts.Transfer.TheVariants as transfer
use Rattle.eevdf_ops.specs.{Places.count, Places.places_in, Transfers.NoneTwice, Transfers.pulled, Transfers.transferred, Whole.whole}
use Rattle.eevdf_ops.specs.WholePull.{offer, load_of, decision, with_task}
use Rattle.eevdf_ops.specs.Laws as laws
use Rattle.eevdf_ops.proofs.{WholeActs.two-left, MachinePlaces.none-twice, Carried.Carries, Carried.offer-carries, Carried.carried-stands}
use Rattle.eevdf_ops.proofs.{DeedNames.PullNames, DeedNames.pull_names}
use Rattle.eevdf_ops.proofs.Pulling.{IsTaken, decision-taken, unpulled}
use Rattle.eevdf_ops.proofs.Loads.{load-leave, load-with, load-empty}

absent_by : {X : Type 0} (o : Option X) (n : ℕ) → count (is_some o) + n ≡ 0 → o ≡ None
absent_by None n h = refl
absent_by (Some x) n h = absurd (omega arith)

absent : (q : State) (t : ℕ) → places_in q t ≡ 0 → finite.get q.runnable t ≡ None
absent q t h = absent_by (finite.get q.runnable t) (count (finite.contains_key q.asleep t)) h

-- what a pull does to the loads of the two queues
pub record IsLevelled (q r q' r' : State) (weight : ℕ) : Type 0 where
  pub puller : load_of q' ≡ weight + load_of q
  pub source : weight + load_of r' ≡ load_of r
  pub lighter : load_of q + weight < load_of r

pub taken_levels : (q r : State) (p : Contents) → NoneTwice q r → decision q (load_of r) (offer r) ≡ Ok p → IsLevelled q r (with_task q p) (leave r p.task) (weight_of p.nice)
taken_levels q r p once e =
    let taken : IsTaken q (load_of r) (offer r) p = decision-taken q (load_of r) (offer r) p e in
    let c : Carries r p.task p = offer-carries r p taken.offered_it in
    let none : places_in q p.task ≡ 0 = omega (arith, once p.task, carried-stands r p.task p c) in
    record {
      puller = load-with q p (absent q p.task none) taken.room;
      source = ap (λ n. weight_of n + load_of (leave r p.task)) c.same_nice ∙ load-leave r p.task c.entry c.here;
      lighter = ltb-true (load_of q + weight_of p.nice) (load_of r) taken.lighter;
    }

-- a pull that is answered with a task
pub record Levels (q r q' r' : State) : Type 0 where
  pub weight : ℕ
  pub some_weight : 15 ≤ weight
  pub is : IsLevelled q r q' r' weight

levels_by : (q r : State) (task : ℕ) (d : Result Contents Answer) → NoneTwice q r → decision q (load_of r) (offer r) ≡ d → (pulled d q r).0 ≡ Pulled task
    → Levels q r (pulled d q r).1.0 (pulled d q r).1.1
levels_by q r task (Err why) once e answered = absurd (unpulled q (load_of r) task (offer r) why e answered)
levels_by q r task (Ok p) once e answered = record { weight = weight_of p.nice; some_weight = weight_of-least p.nice; is = taken_levels q r p once e }

pub levels : (homes : List ℕ) (m : Machine) (cpu source task : ℕ) → laws.Pulls homes m cpu source task
    → Levels (queue_at m cpu) (queue_at m source) (queue_at (whole homes (Pull cpu source) m).1 cpu) (queue_at (whole homes (Pull cpu source) m).1 source)
levels homes m cpu source task pulls =
    let named : PullNames (length m) cpu source = pull_names (length m) homes cpu source pulls.allowed in
    let q : State = queue_at m cpu in
    let r : State = queue_at m source in
    let done : Answer × (State × State) = transferred transfer.Pull q r in
    let left = two-left m cpu source done named.apart named.puller named.from in
    subst (λ (q' : State). Levels q r q' (queue_at (whole homes (Pull cpu source) m).1 source)) (sym left.0)
    (subst (λ (r' : State). Levels q r done.1.0 r') (sym left.1)
    (levels_by q r task (decision q (load_of r) (offer r)) (none-twice homes m cpu source pulls.placed named.apart named.puller named.from) refl pulls.answered))

nearer : (w a b c d : ℕ) → 15 ≤ w → c ≡ w + a → w + d ≡ b → a + w < b → abs_diff c d < abs_diff a b
nearer w a b c d some ec ed lighter = omega arith

pub pull_levels : laws.PullLevels
pull_levels homes m cpu source task pulls =
    let l = levels homes m cpu source task pulls in nearer l.weight _ _ _ _ l.some_weight l.is.puller l.is.source l.is.lighter

some_left : (w a b d : ℕ) → w + d ≡ b → a + w < b → d ≡ 0 → ⊥
some_left w a b d ed lighter none = omega arith

pub pull_leaves_some : laws.PullLeavesSome
pull_leaves_some homes m cpu source task pulls none =
    let l = levels homes m cpu source task pulls in some_left l.weight _ _ _ l.is.source l.is.lighter (load-empty (queue_at (whole homes (Pull cpu source) m).1 source) none)
