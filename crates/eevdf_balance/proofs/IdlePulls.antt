-- What a pull by an idle CPU comes to, and what a source without two tasks answers.
use Rattle.std.proofs.Common.{◌≡◌, ℕ, ◌+◌, ◌<◌, ◌≤◌, Bool, true, false, cond, List, [], ◌∷◌, length, refl, ap, subst, ◌∙◌, inl, inr, arith}
use Rattle.std.specs.Prelude.{is_some, nat_lt, Option, Some, None, Ok, Err}
use Rattle.std.specs.FinMap.{get, entries, len, len-entries, empty_of_len}
use Rattle.std.proofs.lemmas.Bool.Decides.{nat_tests}
use Rattle.eevdf_weight.specs.Weight.{weight_of}
use Rattle.eevdf_weight.proofs.Weighing.{weight_of-least}
use Rattle.eevdf_queue.specs.{declared.entry.Entry.Entry, State.State, State.Contents, Moves.sleeper_of, Placing.can_place}
use Rattle.eevdf_queue.specs.{Sums.sum_weights, Leaving.leave, Leaving.without_entry}
use Rattle.eevdf_ops.specs.{declared.deeds.Answer.Answer, declared.deeds.Deed.TheVariants.Pull}
use Rattle.eevdf_ops.specs.declared.deeds.Answer.TheVariants.{Balanced, Range, Pulled}
use Rattle.eevdf_ops.specs.{Machine.Machine, Machine.queue_at, Transfers.pulled, Whole.whole}
use Rattle.eevdf_ops.specs.WholePull.{offer, load_of, decision, is_lighter}
use Rattle.eevdf_ops.proofs.{SurelyBalanced.surely_balanced, Carried.Carries, Carried.offer-carries, Loads.load-leave, Loads.load-empty}
use Rattle.eevdf_queue.proofs.{Closing.one_fewer}
use Rattle.eevdf_balance.specs.Crowds.{tasks_at, IsIdle, IsCrowded}
use Rattle.eevdf_balance.specs.Refusals.{IsRefusal, Takes, IdlePullTakes, LonePullIsRefused}
use Rattle.eevdf_balance.proofs.{Counts.at_most_one, Counts.removed-within}

-- whoever has a task has a load
loaded_by : (es : List (ℕ × Entry)) → 1 ≤ length es → 1 ≤ sum_weights es
loaded_by [] h = absurd (omega (arith, h))
loaded_by (e ∷ es) h = omega (arith, weight_of-least e.1.nice)

loaded : (q : State) → 1 ≤ len q.runnable → 1 ≤ load_of q
loaded q h = loaded_by (entries q.runnable) (subst (λ (n : ℕ). 1 ≤ n) (len-entries q.runnable) h)

-- an idle CPU has none
unloaded : (q : State) → len q.runnable ≡ 0 → load_of q ≡ 0
unloaded q h = load-empty q (empty_of_len q.runnable h)

-- the load of a source, beside the task that it offers
beside : (s : State) (p : Contents) → offer s ≡ Some p → (w : ℕ) × ((weight_of p.nice + w ≡ load_of s) × (w ≡ load_of (leave s p.task)))
beside s p offered =
    let c : Carries s p.task p = offer-carries s p offered in
    (load_of (leave s p.task), (ap (λ n. weight_of n + load_of (leave s p.task)) c.same_nice ∙ load-leave s p.task c.entry c.here, refl))

-- a crowded source offers a task, which is lighter than all that it has
record Offers (s : State) : Type 0 where
  task : Contents
  is : offer s ≡ Some task
  lighter : weight_of task.nice < load_of s

others : (s : State) (t : ℕ) (o : Option Entry) → 2 ≤ len s.runnable → 1 ≤ len (without_entry s t o).runnable
others s t None many = omega (arith, many)
others s t (Some e) many = let left = (removed-within 0 s.runnable t).1 in omega (arith, many, left)

offers_by : (s : State) (o : Option Contents) → offer s ≡ o → 2 ≤ len s.runnable → decision s (load_of s) o ≡ Err Balanced → Offers s
offers_by s None is many balanced = cc
offers_by s (Some p) is many balanced =
    let more = beside s p is in
    let some : 1 ≤ load_of (leave s p.task) = loaded (leave s p.task) (others s p.task (get s.runnable p.task) many) in
    record { task = p; is = is; lighter = omega (arith, more.1.0, more.1.1, some) }

offers : (s : State) → 2 ≤ len s.runnable → Offers s
offers s many = offers_by s (offer s) refl many (surely_balanced s s (omega (arith, many)) (omega arith))

lighter_is : (l w n : ℕ) → l ≡ 0 → w < n → nat_lt (l + w) n ≡ true
lighter_is l w n h k = grind (arith, nat_tests)

answer_by : (q s : State) (p : Contents) (b : Bool) → (pulled (cond b (Ok p) (Err Range)) q s).0 ≡ cond b (Pulled p.task) Range
answer_by q s p true = refl
answer_by q s p false = refl

pub idle_pull_takes : IdlePullTakes
idle_pull_takes homes m cpu source idle crowded =
    let q : State = queue_at m cpu in
    let s : State = queue_at m source in
    let o : Offers s = offers s crowded in
    let less : is_lighter (load_of q) o.task (load_of s) ≡ true = lighter_is (load_of q) (weight_of o.task.nice) (load_of s) (unloaded q idle) o.lighter in
    record {
      task = o.task;
      offered = o.is;
      answered =
          ap (λ (x : Option Contents). (pulled (decision q (load_of s) x) q s).0) o.is
          ∙ ap (λ (b : Bool). (pulled (cond b (cond (can_place q (sleeper_of o.task)) (Ok o.task) (Err Range)) (Err Balanced)) q s).0) less
          ∙ answer_by q s o.task (can_place q (sleeper_of o.task));
    }

-- a source without two tasks
not_lighter : (l w n : ℕ) → n ≡ w → nat_lt (l + w) n ≡ false
not_lighter l w n h = grind (arith, nat_tests)

left_by : (s : State) (t : ℕ) (e : Entry) (o : Option Entry) → get s.runnable t ≡ Some e → o ≡ Some e → len s.runnable ≤ 1 → len (without_entry s t o).runnable ≡ 0
left_by s t e None here is few = cc
left_by s t e (Some f) here is few = let fewer = one_fewer s.runnable t (ap is_some here) in omega (arith, fewer, few)

left_alone : (s : State) (t : ℕ) (e : Entry) → get s.runnable t ≡ Some e → len s.runnable ≤ 1 → len (leave s t).runnable ≡ 0
left_alone s t e here few = left_by s t e (get s.runnable t) here here few

refused_by : (q s : State) (o : Option Contents) → offer s ≡ o → len s.runnable ≤ 1 → IsRefusal (pulled (decision q (load_of s) o) q s).0
refused_by q s None is few = inl refl
refused_by q s (Some p) is few =
    let c : Carries s p.task p = offer-carries s p is in
    let more = beside s p is in
    let none : load_of (leave s p.task) ≡ 0 = unloaded (leave s p.task) (left_alone s p.task c.entry c.here few) in
    let all : load_of s ≡ weight_of p.nice = omega (arith, more.1.0, more.1.1, none) in
    inr (ap (λ (b : Bool). (pulled (cond b (cond (can_place q (sleeper_of p)) (Ok p) (Err Range)) (Err Balanced)) q s).0) (not_lighter (load_of q) (weight_of p.nice) (load_of s) all))

pub lone_pull_is_refused : LonePullIsRefused
lone_pull_is_refused homes m cpu source few = refused_by (queue_at m cpu) (queue_at m source) (offer (queue_at m source)) refl few

-- so a refusal tells an idle CPU that its source has one task at most
taken : (b : Bool) (t : ℕ) (a : Answer) → a ≡ cond b (Pulled t) Range → IsRefusal a → ⊥
taken true t a e (inl h) = cc
taken true t a e (inr h) = cc
taken false t a e (inl h) = cc
taken false t a e (inr h) = cc

few_by : (homes : List ℕ) (m : Machine) (cpu source : ℕ) → IsIdle m cpu → IsRefusal (whole homes (Pull cpu source) m).0 → IsCrowded m source → ⊥
few_by homes m cpu source idle refused crowded =
    let t : Takes homes m cpu source = idle_pull_takes homes m cpu source idle crowded in
    taken (can_place (queue_at m cpu) (sleeper_of t.task)) t.task.task _ t.answered refused

pub refused-few : (homes : List ℕ) (m : Machine) (cpu source : ℕ) → IsIdle m cpu → IsRefusal (whole homes (Pull cpu source) m).0 → tasks_at m source ≤ 1
refused-few homes m cpu source idle refused = at_most_one (tasks_at m source) (few_by homes m cpu source idle refused)
