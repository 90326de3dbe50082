-- Forms in which the functions of a fair queue use what keeps it fair.
use Rattle.std.proofs.Common.{◌≡◌, ℕ, Bool, true, false, cond, Option, Some, None, Result, Ok, Err, refl, sym, ap, ◌∙◌, subst}
use Rattle.std.specs.Prelude.{ℤ, MatchResult}
use Rattle.std.specs.{Ordering.nat_cmp, Ordering.eq_by_cmp, Cmp.nat_cmp_total, FinMap.get, FinMap.contains_key, FinMap.remove, FinMap.get-remove}
use Rattle.eevdf_queue.specs.{declared.entry.Entry.Entry, declared.sleeper.Sleeper.Sleeper, State.State, State.Contents, Kept.IsKept, Laws.PickIsFirst, Laws.PickOfNobody}
use Rattle.eevdf_queue.specs.{Attributes.begin, Attributes.begin_sleeper, Leaving.leave, Leaving.leave_running, Leaving.leave_asleep, Leaving.without_entry, Leaving.without_sleeper, Leaving.stopped, Leaving.carried_running, Leaving.nobody_runs, Candidate.is_running, Moves.put_asleep}
use Rattle.eevdf_queue.specs.{Doze.dozed, Doze.doze, Doze.put_dozing, Pick.picked_by, Pick.pick_of, Pick.adopted}
use Rattle.eevdf_queue.specs.{Ascending.sleeping_tasks, Closing.first_number, Closing.take_sleeper, Closing.take_first, Closing.take_any}
use Rattle.eevdf_fair_queue.specs.{declared.bounds.Bounds.Bounds, declared.bounds.Mark.Mark, Bounds.settled, Bounds.adopted as unpicked}
use Rattle.eevdf_fair_queue.specs.Fair.{IsFair, mark_of}
use Rattle.eevdf_fair_queue.proofs.{Settled.IsOfOne, Settled.settles}

pub fair_of : (q r : State) (b c : Bounds) → r ≡ q → c ≡ b → IsFair q b → IsFair r c
fair_of q r b c h k fair = subst (λ (x : State). IsFair x c) (sym h) (subst (λ (y : Bounds). IsFair q y) (sym k) fair)

-- a call that touches one task
pub settles_as : PickIsFirst → PickOfNobody → (task : ℕ) (q r : State) (b c : Bounds) (m : Option Mark) (o : Option Entry) → IsKept q → IsOfOne task q r
    → IsFair q b → m ≡ mark_of q task → o ≡ get r.runnable task → c ≡ settled b m o → IsFair r c
settles_as first nobody task q r b c m o kept of_one fair mark now is =
    let at : c ≡ settled b (mark_of q task) (get r.runnable task) =
    is ∙ ap (λ (x : Option Mark). settled b x o) mark ∙ ap (λ (x : Option Entry). settled b (mark_of q task) x) now in
    subst (λ (y : Bounds). IsFair r y) (sym at) (settles first nobody task q r b kept of_one fair)

pub of_one_as : (task : ℕ) (q r s : State) → r ≡ s → IsOfOne task q s → IsOfOne task q r
of_one_as task q r s h = subst (λ (x : State). IsOfOne task q x) (sym h)

same : (task : ℕ) (q : State) → IsOfOne task q q
same task q = record { others = λ t other. refl; runs = λ t runs. runs; due = λ due. due }

-- one that was tried, and may have been refused
pub tried_one : {A B : Type 0} (o : Result A B) (P : A → Type 0) (Q : B → Type 0) (task : ℕ) (q r : State) → MatchResult o P Q
    → ((x : A) → P x → IsOfOne task q r) → ((y : B) → Q y → r ≡ q) → IsOfOne task q r
tried_one (Ok x) P Q task q r h done refused = done x h
tried_one (Err y) P Q task q r h done refused = of_one_as task q r q (refused y h) (same task q)

-- ---- fewer tasks
pub fewer : (q r : State) (b : Bounds) → IsFair q b → ((t : ℕ) (x : Entry) → get r.runnable t ≡ Some x → get q.runnable t ≡ Some x)
    → ((t : ℕ) → r.running ≡ Some t → q.running ≡ Some t) → IsFair r b
fewer q r b fair there ran = record {
  due = λ t x at. fair.due t x (there t x at);
  longest = fair.longest;
  behind = λ t x at. fair.behind t x (there t x at);
  near = λ t x at. fair.near t x (there t x at);
  turn = λ turn is. record {
    some = (fair.turn turn is).some;
    past = λ t u x y runs at here. (fair.turn turn is).past t u x y (ran t runs) (there t x at) (there u y here);
  };
}

pub begin_keeps : (q : State) (b : Bounds) (task : ℕ) (nice : ℤ) (slice : ℕ) → IsFair q b → IsFair (begin q task nice slice) b
begin_keeps q b task nice slice fair =
    by (get q.asleep task)
  where
    by : (o : Option Sleeper) → IsFair (begin_sleeper q task nice slice o) b
    by None = fair
    by (Some s) = fewer q _ b fair (λ t x at. at) (λ t runs. runs)

pub asleep_keeps : (q : State) (b : Bounds) (p : Contents) → IsFair q b → IsFair (put_asleep q p) b
asleep_keeps q b p fair = fewer q (put_asleep q p) b fair (λ t x at. at) (λ t runs. runs)

pub taken_asleep_keeps : (q : State) (b : Bounds) (task : ℕ) → IsFair q b → IsFair (leave_asleep q task) b
taken_asleep_keeps q b task fair =
    by (get q.asleep task)
  where
    by : (o : Option Sleeper) → IsFair (without_sleeper q task o) b
    by None = fair
    by (Some s) = fewer q _ b fair (λ t x at. at) (λ t runs. runs)

still_there : (q : State) (task t : ℕ) (x : Entry) → get (remove q.runnable task) t ≡ Some x → get q.runnable t ≡ Some x
still_there q task t x at =
    by (eq_by_cmp nat_cmp t task) (sym (get-remove nat_cmp_total q.runnable task t) ∙ at)
  where
    by : (c : Bool) → cond c None (get q.runnable t) ≡ Some x → get q.runnable t ≡ Some x
    by true h = cc
    by false h = h

still_running : (running : Option ℕ) (task t : ℕ) → stopped running task ≡ Some t → running ≡ Some t
still_running running task t =
    by (is_running running task)
  where
    by : (c : Bool) → cond c None running ≡ Some t → running ≡ Some t
    by true h = cc
    by false h = h

pub leave_keeps : (q : State) (b : Bounds) (task : ℕ) → IsFair q b → IsFair (leave q task) b
leave_keeps q b task fair =
    by (get q.runnable task)
  where
    by : (o : Option Entry) → IsFair (without_entry q task o) b
    by None = fair
    by (Some e) = fewer q _ b fair (λ t x at. still_there q task t x at) (λ t runs. still_running q.running task t runs)

pub leave_running_keeps : (q : State) (b : Bounds) (task : ℕ) → IsFair q b → IsFair (leave_running q task) b
leave_running_keeps q b task fair =
    by (is_running q.running task)
  where
    by : (c : Bool) → IsFair (cond c (leave q task) q) b
    by true = leave_keeps q b task fair
    by false = fair

pub doze_keeps : (q : State) (b : Bounds) (task : ℕ) → IsFair q b → IsFair (doze q task) b
doze_keeps q b task fair =
    by (carried_running q task)
  where
    by : (o : Option Contents) → IsFair (dozed q task o) b
    by None = fair
    by (Some p) = fewer (leave_running q task) (put_dozing (leave_running q task) p) b (leave_running_keeps q b task fair) (λ t x at. at) (λ t runs. runs)

-- who runs may be any runnable task
pub adopt_keeps : (q : State) (b : Bounds) (task : ℕ) (here : Bool) → here ≡ contains_key q.runnable task → IsFair q b
    → IsFair (adopted q task) (unpicked b here)
adopt_keeps q b task here is fair =
    subst (λ (c : Bool). IsFair (cond c (picked_by q (Some task)) q) (unpicked b here)) is (by here)
  where
    by : (c : Bool) → IsFair (cond c (picked_by q (Some task)) q) (unpicked b c)
    by true = record { due = fair.due; longest = fair.longest; behind = fair.behind; near = fair.near; turn = λ turn none. absurd (cc) }
    by false = fair

-- a task is taken out, whichever it is
pub any_taken_keeps : (q : State) (b : Bounds) → IsFair q b → IsFair (take_any q).1 b
any_taken_keeps q b fair =
    by (pick_of q.runnable)
  where
    sleeper : (o : Option ℕ) → IsFair (take_sleeper q o).1 b
    sleeper None = fair
    sleeper (Some task) = taken_asleep_keeps q b task fair

    by : (o : Option ℕ) → IsFair (take_first q o).1 b
    by None = sleeper (first_number (sleeping_tasks q))
    by (Some task) = leave_keeps q b task fair

pub dozing_keeps : (q : State) (b : Bounds) (p : Contents) → IsFair q b → IsFair (put_dozing q p) b
dozing_keeps q b p fair = fewer q (put_dozing q p) b fair (λ t x at. at) (λ t runs. runs)

nobody : {A : Type 0} (t : ℕ) → None ≡ Some t → A
nobody t is = absurd (cc)

pub stop_keeps : (q : State) (b : Bounds) → IsFair q b → IsFair (nobody_runs q) b
stop_keeps q b fair = fewer q (nobody_runs q) b fair (λ t x at. at) (λ t is. nobody t is)
