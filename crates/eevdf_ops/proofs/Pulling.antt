-- What a pull decides, and what it then does.
use Rattle.std.proofs.Common.{◌≡◌, ℕ, Bool, true, false, cond, refl, ap, subst}
use Rattle.std.specs.Prelude.{is_some, IfSome, Option, Some, None, Result, Ok, Err}
use Rattle.std.specs.{Option.unwrap_or, Result.result_ok}
use Rattle.eevdf_queue.specs.{declared.entry.Entry.Entry, State.State, State.Contents, Moves.sleeper_of, Moves.with_runnable}
use Rattle.eevdf_queue.specs.{Placing.can_place, Placing.put, Placing.placed_entry}
use Rattle.eevdf_ops.specs.declared.deeds.Answer.{Answer}
use Rattle.eevdf_ops.specs.declared.deeds.Answer.TheVariants.{Balanced, Nothing, Pulled, Range}
use Rattle.eevdf_ops.specs.WholePull.{offer, is_lighter, load_of, decision, task_of, with_task}
use Rattle.eevdf_ops.specs.{declared.halves.Taking.TheVariants.Pull, Halves.CanTake, Halves.answer_of_taking, Halves.taken_out, Parts.answer_of_pull}
use Rattle.eevdf_ops.proofs.Carried.{offer-carried, offer-carries, offer-waits}

-- what a pull decides, where it takes a task
pub record IsTaken (q : State) (source_load : ℕ) (offered : Option Contents) (p : Contents) : Type 0 where
  pub offered_it : offered ≡ Some p
  pub lighter : is_lighter (load_of q) p source_load ≡ true
  pub room : can_place q (sleeper_of p) ≡ true

taken_by : (q : State) (source_load : ℕ) (p r : Contents) (b c : Bool) → is_lighter (load_of q) p source_load ≡ b → can_place q (sleeper_of p) ≡ c
    → cond b (cond c (Ok p) (Err Range)) (Err Balanced) ≡ Ok r → IsTaken q source_load (Some p) r
taken_by q source_load p r true true eb ec e =
    let is : p ≡ r = cc in
    subst (λ (t : Contents). IsTaken q source_load (Some p) t) is (record { offered_it = refl; lighter = eb; room = ec })
taken_by q source_load p r true false eb ec e = cc
taken_by q source_load p r false c eb ec e = cc

pub decision-taken : (q : State) (source_load : ℕ) (o : Option Contents) (r : Contents) → decision q source_load o ≡ Ok r → IsTaken q source_load o r
decision-taken q source_load None r e = cc
decision-taken q source_load (Some p) r e = taken_by q source_load p r (is_lighter (load_of q) p source_load) (can_place q (sleeper_of p)) refl refl e

-- what holds of the three refusals holds of why none is taken
refusal_by : (P : Answer → Type 0) (p : Contents) (b c : Bool) (why : Answer) → cond b (cond c (Ok p) (Err Range)) (Err Balanced) ≡ Err why → P Balanced → P Range → P why
refusal_by P p true true why e balanced range = cc
refusal_by P p true false why e balanced range = let is : Range ≡ why = cc in subst P is range
refusal_by P p false c why e balanced range = let is : Balanced ≡ why = cc in subst P is balanced

pub refusals : (P : Answer → Type 0) (q : State) (source_load : ℕ) (o : Option Contents) (why : Answer) → decision q source_load o ≡ Err why → P Nothing → P Balanced → P Range → P why
refusals P q source_load None why e nothing balanced range = let is : Nothing ≡ why = cc in subst P is nothing
refusals P q source_load (Some p) why e nothing balanced range = refusal_by P p (is_lighter (load_of q) p source_load) (can_place q (sleeper_of p)) why e balanced range

-- none is the answer that a task was pulled
pub unpulled : (q : State) (source_load task : ℕ) (o : Option Contents) (why : Answer) → decision q source_load o ≡ Err why → why ≡ Pulled task → ⊥
unpulled q source_load task o why e = refusals (λ (a : Answer). a ≡ Pulled task → ⊥) q source_load o why e (λ f. cc) (λ f. cc) (λ f. cc)

joined_by : (q : State) (p : Contents) (o : Option Entry) → is_some o ≡ true → with_runnable q p.task o ≡ Some (unwrap_or (with_runnable q p.task o) q)
joined_by q p None e = cc
joined_by q p (Some entry) e = refl

-- where there is room, the task is put
pub with_task-put : (q : State) (p : Contents) → can_place q (sleeper_of p) ≡ true → put q p.task (sleeper_of p) ≡ Some (with_task q p)
with_task-put q p room = joined_by q p (placed_entry q (sleeper_of p)) room

-- a decision, as what is taken out of the source
pub record IsDecided (q s : State) (d : Result Contents Answer) : Type 0 where
  pub waits : CanTake (Pull (task_of d)) s
  pub parcel : taken_out (Pull (task_of d)) s ≡ result_ok d
  pub answer : (taken : Option Contents) → answer_of_taking (Pull (task_of d)) taken ≡ answer_of_pull d
  pub room : IfSome (result_ok d) (λ (p : Contents). can_place q (sleeper_of p) ≡ true)

decided_by : (q s : State) (d : Result Contents Answer) → decision q (load_of s) (offer s) ≡ d → IsDecided q s d
decided_by q s (Err why) e = record { waits = tt; parcel = refl; answer = λ taken. refl; room = tt }
decided_by q s (Ok p) e =
    let taken : IsTaken q (load_of s) (offer s) p = decision-taken q (load_of s) (offer s) p e in
    record {
      waits = (ap (λ (o : Option Entry). is_some o) (offer-carries s p taken.offered_it).here, offer-waits s p taken.offered_it);
      parcel = offer-carried s p taken.offered_it;
      answer = λ o. refl;
      room = taken.room;
    }

pub decided : (q s : State) → IsDecided q s (decision q (load_of s) (offer s))
decided q s = decided_by q s (decision q (load_of s) (offer s)) refl
