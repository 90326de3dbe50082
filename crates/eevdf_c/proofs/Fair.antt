-- What the calls of a queue with bounds beside it leave of these.
use Rattle.std.proofs.Common.{◌≡◌, ℕ, Bool, true, false, cond, Option, Some, None, Result, Ok, Err, refl, sym, ap, subst, ◌∙◌, arith}
use Rattle.std.specs.Prelude.{ℤ, pos, ◌<ℤ◌, int_le, int_lt, IfSome, ◌&&◌}
use Rattle.std.specs.FinMap.{get, contains_key}
use Rattle.std.proofs.lemmas.Int.{ints}
use Rattle.eevdf_weight.specs.Limits.{checked_level, checked_slice, is_in_range}
use Rattle.eevdf_queue.specs.{declared.entry.Entry.Entry, declared.refusal.Refusal.Refusal, State.State, State.Contents, Numbers.checked_number}
use Rattle.eevdf_queue.specs.{Kept.IsKept, Kept.AreInRange, Tick.entry_of_runner}
use Rattle.eevdf_queue.proofs.Bounds.{range_v}
use Rattle.eevdf_queue.specs.{Laws.PickIsFirst, Laws.PickOfNobody, Pick.after_pick, Pick.pick_of, Tick.tick, Tick.running_entry, Trying.is_here, Trying.tried}
use Rattle.eevdf_queue.specs.{Moves.admit as joins, Moves.sleeper_of, Placing.put as placed}
use Rattle.eevdf_queue.specs.declared.answers.TickAnswer.{TickAnswer}
use Rattle.eevdf_queue.specs.declared.answers.TickAnswer.TheVariants.{Charged, Idle, Range}
use Rattle.eevdf_fair_queue.specs.{declared.bounds.Bounds.Bounds, Bounds.settled as settled_at_mark, Bounds.charged_from}
use Rattle.eevdf_fair_queue.specs.Fair.{IsFair, charged_by, mark_of}
use Rattle.eevdf_fair_queue.proofs.{Settled.IsOfOne, Settled.settles, Running.pick_keeps, Running.charged_before, Keeping.adopt_keeps}
use Rattle.eevdf_fair_queue.proofs.Calls.{try_admitted, try_joined, woken, changed_level, changed_both}
use Rattle.eevdf_c.specs.{Codes.no_memory, Codes.present, Errors.KeepsOnError, Turns.task_code, Tick.tick_code, Wake.wake_by, Renice.renice_by, Attributes.set_by}
use Rattle.eevdf_c.specs.{Admit.contents, Admit.contents_by, Admit.admit_by, Admit.after_answer, Admit.admit}
use Rattle.eevdf_c.specs.Admit.{joined}
use Rattle.eevdf_c.specs.Turns as turns
use Rattle.eevdf_c.specs.Wake as wakes
use Rattle.eevdf_c.specs.Renice as renices
use Rattle.eevdf_c.specs.Attributes as attributes
use Rattle.eevdf_c.specs.Blocks as blocks
use Rattle.eevdf_c.specs.Hands as hands
use Rattle.eevdf_c.specs.Fair as fairs

is_error : (z : ℤ) → int_lt z (pos 0) ≡ true → z <ℤ pos 0
is_error z h = grind (arith, ints)

-- ---- a call that touches one task
pub settled_fair : PickIsFirst → PickOfNobody → (task : ℕ) (q r : State) (b : Bounds) (answer : ℤ) → IsKept q → IsOfOne task q r
    → KeepsOnError answer q r → IsFair q b → IsFair r (fairs.settled_of b q task answer r)
settled_fair first nobody task q r b answer kept of_one same fair =
    by (int_lt answer (pos 0)) refl
  where
    by : (c : Bool) → int_lt answer (pos 0) ≡ c → IsFair r (cond c b (settled_at_mark b (mark_of q task) (get r.runnable task)))
    by true is = subst (λ (x : State). IsFair x b) (sym (same (is_error answer is))) fair
    by false is = settles first nobody task q r b kept of_one fair

-- the same of a call about the task that has a number
pub settles_number : PickIsFirst → PickOfNobody → (q : State) (b : Bounds) (number task : ℕ) (outcome : ℤ × State) → checked_number number ≡ Some task
    → IsKept q → IsOfOne task q outcome.1 → KeepsOnError outcome.0 q outcome.1 → IsFair q b → IsFair outcome.1 (fairs.settled b q number outcome)
settles_number first nobody q b number task outcome is kept of_one same fair =
    subst (λ (o : Option ℕ). IsFair outcome.1 (fairs.settled_by b q o outcome.0 outcome.1)) (sym is)
    (settled_fair first nobody task q outcome.1 b outcome.0 kept of_one same fair)

pub kept_as : (answer z : ℤ) (q r s : State) → answer ≡ z → r ≡ s → KeepsOnError answer q r → KeepsOnError z q s
kept_as answer z q r s code after same =
    subst (λ (x : ℤ). KeepsOnError x q s) code (subst (λ (x : State). KeepsOnError answer q x) after same)

unchanged : (task : ℕ) (q : State) → IsOfOne task q q
unchanged task q = record { others = λ t other. refl; runs = λ t runs. runs; due = λ due. due }

pub wake_of_one : (q : State) (number task : ℕ) → checked_number number ≡ Some task → IsOfOne task q (wakes.wake q number).1
wake_of_one q number task is = subst (λ (o : Option ℕ). IsOfOne task q (wake_by q o).1) (sym is) (woken q task)

pub renice_of_one : (q : State) (number task : ℕ) (level : ℤ) → checked_number number ≡ Some task → IsOfOne task q (renices.renice q number level).1
renice_of_one q number task level is =
    subst (λ (o : Option ℕ). IsOfOne task q (renice_by q o (checked_level level)).1) (sym is) (by (checked_level level))
  where
    by : (o : Option ℤ) → IsOfOne task q (renice_by q (Some task) o).1
    by None = unchanged task q
    by (Some nice) = changed_level q task nice

pub set_of_one : (q : State) (number task : ℕ) (level : ℤ) (ns : ℕ) → checked_number number ≡ Some task
    → IsOfOne task q (attributes.set q number level ns).1
set_of_one q number task level ns is =
    subst (λ (o : Option ℕ). IsOfOne task q (set_by q o (checked_level level) (checked_slice ns)).1) (sym is)
    (by (checked_level level) (checked_slice ns))
  where
    by : (o : Option ℤ) (s : Option ℕ) → IsOfOne task q (set_by q (Some task) o s).1
    by None s = unchanged task q
    by (Some nice) None = unchanged task q
    by (Some nice) (Some slice) = changed_both q task nice slice

-- ---- a task that comes
admitted_to : (q : State) (p : Contents) (o : Result State Refusal) → tried q p.task (joins q p) ≡ o → IsOfOne p.task q (joined q o).1
admitted_to q p (Ok after) h = try_admitted q after p h
admitted_to q p (Err reason) h = unchanged p.task q

pub admit_of_one : (q : State) (number task : ℕ) (level : ℤ) (ns : ℕ) (start answer : ℤ) → checked_number number ≡ Some task
    → IsOfOne task q (after_answer q (admit q number level ns start) answer)
admit_of_one q number task level ns start answer is =
    after_it (int_le answer no_memory && int_le no_memory answer)
  where
    by : (nice : Option ℤ) (slice : Option ℕ) (fits : Bool) → IsOfOne task q (admit_by q (contents_by (Some task) nice slice fits start)).1
    by None slice fits = unchanged task q
    by (Some nice) None fits = unchanged task q
    by (Some nice) (Some slice) false = unchanged task q
    by (Some nice) (Some slice) true =
        let p : Contents = contents task nice slice start in admitted_to q p (tried q task (joins q p)) refl

    whole : IsOfOne task q (admit q number level ns start).1
    whole =
        subst (λ (o : Option ℕ). IsOfOne task q (admit_by q (contents_by o (checked_level level) (checked_slice ns) (is_in_range start) start)).1)
        (sym is) (by (checked_level level) (checked_slice ns) (is_in_range start))

    after_it : (c : Bool) → IsOfOne task q (cond c q (admit q number level ns start).1)
    after_it true = unchanged task q
    after_it false = whole

given_to : (q : State) (p : Contents) (o : Result State Refusal) → tried q p.task (joins q p) ≡ o → IsOfOne p.task q (blocks.joined q o).queue
given_to q p (Ok after) h = try_admitted q after p h
given_to q p (Err reason) h = unchanged p.task q

pub admit_in_of_one : (q : State) (has : Bool) (number task : ℕ) (level : ℤ) (ns : ℕ) (start : ℤ) → checked_number number ≡ Some task
    → IsOfOne task q (blocks.admit q has number level ns start).queue
admit_in_of_one q has number task level ns start is =
    subst (λ (o : Option ℕ). IsOfOne task q (blocks.admit_by q has (contents_by o (checked_level level) (checked_slice ns) (is_in_range start) start)).queue)
    (sym is) (by (checked_level level) (checked_slice ns) (is_in_range start))
  where
    with : (p : Contents) (block here : Bool)
        → IsOfOne p.task q (cond here (record { answer = present; queue = q; block = block }) (blocks.admit_with q p block)).queue
    with p block true = unchanged p.task q
    with p true false = given_to q p (tried q p.task (joins q p)) refl
    with p false false = unchanged p.task q

    by : (nice : Option ℤ) (slice : Option ℕ) (fits : Bool)
        → IsOfOne task q (blocks.admit_by q has (contents_by (Some task) nice slice fits start)).queue
    by None slice fits = unchanged task q
    by (Some nice) None fits = unchanged task q
    by (Some nice) (Some slice) false = unchanged task q
    by (Some nice) (Some slice) true = let p : Contents = contents task nice slice start in with p has (is_here q task)

put_in : (q : State) (p : Contents) (o : Result State Refusal) → tried q p.task (placed q p.task (sleeper_of p)) ≡ o
    → IsOfOne p.task q (hands.put_to q p o).queue
put_in q p (Ok after) h = try_joined q after p.task (sleeper_of p) h
put_in q p (Err reason) h = unchanged p.task q

pub put_of_one : (q : State) (p : Contents) → IsOfOne p.task q (hands.put q (Some p)).queue
put_of_one q p = put_in q p (tried q p.task (placed q p.task (sleeper_of p))) refl

pub put_fair : PickIsFirst → PickOfNobody → (q : State) (b : Bounds) (h : Option Contents) (p : Contents) → h ≡ Some p → IsKept q
    → KeepsOnError (hands.put q h).answer q (hands.put q h).queue → IsFair q b → IsFair (hands.put q h).queue (fairs.put b q h)
put_fair first nobody q b h p is kept same fair =
    subst (λ (x : Option Contents). IsFair (hands.put q x).queue (fairs.put b q x)) (sym is)
    (settled_fair first nobody p.task q (hands.put q (Some p)).queue b (hands.put q (Some p)).answer kept (put_of_one q p)
    (subst (λ (x : Option Contents). KeepsOnError (hands.put q x).answer q (hands.put q x).queue) is same) fair)

-- ---- who runs
none_answered : (o : Option ℕ) → o ≡ None → task_code o <ℤ pos 0
none_answered o h = subst (λ (x : Option ℕ). task_code x <ℤ pos 0) (sym h) (grind (arith, ints))

pub picked_fair : PickIsFirst → PickOfNobody → (q : State) (b : Bounds) → KeepsOnError (turns.pick q).0 q (turns.pick q).1 → IsFair q b
    → IsFair (turns.pick q).1 (fairs.pick b q)
picked_fair first nobody q b same fair =
    by (pick_of q.runnable) refl
  where
    by : (o : Option ℕ) → pick_of q.runnable ≡ o → IsFair (after_pick q) (fairs.picked_by b o)
    by None is = subst (λ (x : State). IsFair x b) (sym (same (none_answered (pick_of q.runnable) is))) fair
    by (Some task) is = pick_keeps first nobody q b fair

pub run_fair : (q : State) (b : Bounds) (number : ℕ) → IsFair q b → IsFair (turns.run q number).1 (fairs.run b q number)
run_fair q b number fair =
    by (checked_number number)
  where
    by : (o : Option ℕ) → IsFair (turns.run_by q o).1 (fairs.run_by b q o)
    by None = fair
    by (Some task) = adopt_keeps q b task (contains_key q.runnable task) refl fair

-- ---- a tick
-- whoever runs is in range
pub runner_in_range : (q : State) → AreInRange q.runnable → (o : Option Entry) → o ≡ running_entry q → IfSome o (λ e. is_in_range e.v ≡ true)
runner_in_range q in_range o is = subst (λ (x : Option Entry). IfSome x (λ e. is_in_range e.v ≡ true)) (sym is) (by q.running)
  where
    by_entry : (t : ℕ) (x : Option Entry) → get q.runnable t ≡ x → IfSome x (λ e. is_in_range e.v ≡ true)
    by_entry t None here = tt
    by_entry t (Some e) here = range_v e (in_range t e here).1

    by : (r : Option ℕ) → IfSome (entry_of_runner q r) (λ e. is_in_range e.v ≡ true)
    by None = tt
    by (Some t) = by_entry t (get q.runnable t) refl

-- whether somebody was charged is told by the answer
pub tick_bounds : (q : State) (b : Bounds) (ns : ℕ) (answer : ℤ) (runner : Option Entry) → answer ≡ tick_code (tick q ns).0 → runner ≡ running_entry q
    → fairs.charged_with b answer ns runner ≡ charged_by b ns (tick q ns).0 (tick q ns).1
tick_bounds q b ns answer runner code at =
    ap (λ (z : ℤ). fairs.charged_with b z ns runner) code ∙ ap (fairs.charged_with b (tick_code (tick q ns).0) ns) at ∙ by (tick q ns).0 refl
  where
    charged : (resched : Bool) → fairs.charged_with b (cond resched (pos 1) (pos 0)) ns (running_entry q) ≡ charged_from b ns (running_entry q)
    charged true = refl
    charged false = refl

    by : (a : TickAnswer) → (tick q ns).0 ≡ a
        → fairs.charged_with b (tick_code a) ns (running_entry q) ≡ charged_by b ns (tick q ns).0 (tick q ns).1
    by (Charged task resched) is = charged resched ∙ sym (charged_before q b ns task resched is)
    by Idle is = sym (ap (λ (a : TickAnswer). charged_by b ns a (tick q ns).1) is)
    by Range is = sym (ap (λ (a : TickAnswer). charged_by b ns a (tick q ns).1) is)
