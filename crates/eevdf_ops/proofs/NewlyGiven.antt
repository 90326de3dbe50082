-- What a queue has of a task to which a begin, a set or a renice has just given its nice level and slice.
use Rattle.std.proofs.Common.{◌≡◌, ℕ, ◌+◌, ◌≤◌, Bool, true, false, cond, refl, sym, ap, subst, ◌∙◌, arith}
use Rattle.std.specs.Prelude.{ℤ, is_some, Option, Some, None}
use Rattle.std.specs.{Ordering.nat_cmp, Cmp.nat_cmp_total, Cmp.unsigned_tied}
use Rattle.std.specs.FinMap.{FinMap, get, contains_key, insert, remove, get-insert}
use Rattle.std.proofs.lemmas.Bool.{false≢true}
use Rattle.eevdf_queue.specs.{declared.entry.Entry.Entry, declared.sleeper.Sleeper.Sleeper, State.State}
use Rattle.eevdf_queue.specs.Moves.{fresh_entry, is_entry_in_range, with_runnable}
use Rattle.eevdf_queue.specs.Placing.{placement, placed_entry, put}
use Rattle.eevdf_queue.specs.{Leaving.leave, Renice.reniced, Renice.renice, Renice.renice_entry, Renice.renice_to, SliceChange.set_entry_slice}
use Rattle.eevdf_queue.specs.Attributes.{set_reniced, set_sleeper, sleeper_with, begin_sleeper, fresh_sleeper}
use Rattle.eevdf_queue.specs.declared.answers.ReniceAnswer.{ReniceAnswer}
use Rattle.eevdf_queue.specs.declared.answers.ReniceAnswer.TheVariants as renice_answer
use Rattle.eevdf_ops.specs.{declared.deeds.Answer.Answer, Places.count, Places.places_in}
use Rattle.eevdf_ops.specs.OneQueue.{answer_of_begin, answer_of_renice, answer_of_set, one_begin, one_renice, one_set}
use Rattle.eevdf_ops.specs.declared.deeds.Answer.TheVariants.{Awake, Range, Reniced, NotHere, Begun, Set}
use Rattle.eevdf_ops.proofs.{MapCounts.itself, QueueValues.Each, QueueValues.in_range_only}

-- a nice level and a slice are those given
abbrev pub Is : ℤ × ℕ → ℤ → ℕ → Type 0
Is given nice slice = (nice ≡ given.0) × (slice ≡ given.1)

-- a task stands in a queue, and has there what was given
pub record Has (q : State) (t : ℕ) (given : ℤ × ℕ) : Type 0 where
  pub stands : 1 ≤ places_in q t
  pub each : Each (λ (u : ℕ) (nice : ℤ) (slice : ℕ). u ≡ t → Is given nice slice) q

inserted : {X : Type 0} (m : FinMap nat_cmp X) (t : ℕ) (x : X) → get (insert m t x) t ≡ Some x
inserted m t x = get-insert nat_cmp_total m t x t ∙ ap (λ (b : Bool). cond b (Some x) (get m t)) (unsigned_tied t t ∙ itself t)

both : (b c : Bool) → count b + count c ≤ 1 → b ≡ true → c ≡ true → ⊥
both true true few h g = omega arith
both true false few h g = false≢true g
both false c few h g = false≢true h

one_value : {X : Type 0} (o : Option X) (x y : X) → o ≡ Some x → o ≡ Some y → y ≡ x
one_value o x y h g = cc

asleep-has : (q : State) (t : ℕ) (s : Sleeper) → get q.asleep t ≡ Some s → places_in q t ≤ 1 → Has q t (s.nice, s.slice)
asleep-has q t s here few =
    let stands : count (contains_key q.asleep t) ≡ 1 = ap (λ (o : Option Sleeper). count (is_some o)) here in
    record {
      stands = omega (arith, stands);
      each = record {
        runnable = λ u e h at. absurd (both (contains_key q.runnable t) (contains_key q.asleep t) few (ap (λ (k : ℕ). contains_key q.runnable k) (sym at) ∙ ap is_some h) (ap is_some here));
        asleep = λ u r h at. let same : r ≡ s = one_value (get q.asleep t) s r here (ap (λ (k : ℕ). get q.asleep k) (sym at) ∙ h) in (ap (λ (z : Sleeper). z.nice) same, ap (λ (z : Sleeper). z.slice) same);
      };
    }

runnable-has : (q : State) (t : ℕ) (e : Entry) → get q.runnable t ≡ Some e → places_in q t ≤ 1 → Has q t (e.nice, e.slice)
runnable-has q t e here few =
    let stands : count (contains_key q.runnable t) ≡ 1 = ap (λ (o : Option Entry). count (is_some o)) here in
    record {
      stands = omega (arith, stands);
      each = record {
        runnable = λ u f h at. let same : f ≡ e = one_value (get q.runnable t) e f here (ap (λ (k : ℕ). get q.runnable k) (sym at) ∙ h) in (ap (λ (z : Entry). z.nice) same, ap (λ (z : Entry). z.slice) same);
        asleep = λ u s h at. absurd (both (contains_key q.runnable t) (contains_key q.asleep t) few (ap is_some here) (ap (λ (k : ℕ). contains_key q.asleep k) (sym at) ∙ ap is_some h));
      };
    }

-- a runnable task with this nice level and slice
pub record Finds (q : State) (t : ℕ) (nice : ℤ) (slice : ℕ) : Type 0 where
  pub entry : Entry
  pub here : get q.runnable t ≡ Some entry
  pub same_nice : entry.nice ≡ nice
  pub same_slice : entry.slice ≡ slice

pub found-has : (q : State) (t : ℕ) (nice : ℤ) (slice : ℕ) → Finds q t nice slice → places_in q t ≤ 1 → Has q t (nice, slice)
found-has q t nice slice f few =
    subst (λ (n : ℤ). Has q t (n, slice)) f.same_nice (subst (λ (s : ℕ). Has q t (f.entry.nice, s)) f.same_slice (runnable-has q t f.entry f.here few))

with-finds : (q r : State) (t : ℕ) (s : Sleeper) (o : Option Entry) → placed_entry q s ≡ o → with_runnable q t o ≡ Some r → Finds r t s.nice s.slice
with-finds q r t s None placed h = cc
with-finds q r t s (Some e) placed h =
    let is : record q { runnable = insert q.runnable t e } ≡ r = cc in
    let fresh : Entry = fresh_entry (placement q s) s.nice s.slice in
    let same : fresh ≡ e = in_range_only fresh e (is_entry_in_range fresh) placed in
    subst (λ (z : State). Finds z t s.nice s.slice) is (record {
      entry = e;
      here = inserted q.runnable t e;
      same_nice = ap (λ (f : Entry). f.nice) (sym same);
      same_slice = ap (λ (f : Entry). f.slice) (sym same);
    })

-- what holds of each refusal, and of what is done, holds of a begin
begin_sleeper_by : (C : Answer × State → Type 0) (q : State) (t : ℕ) (nice : ℤ) (slice : ℕ) (o : Option Sleeper) → C (Awake, q) → ((r : State) → (places_in r t ≤ 1 → Has r t (nice, slice)) → C (Begun, r))
    → C (answer_of_begin (is_some o), begin_sleeper q t nice slice o)
begin_sleeper_by C q t nice slice None refused done = refused
begin_sleeper_by C q t nice slice (Some s) refused done =
    let r : State = record q { asleep = insert q.asleep t (fresh_sleeper nice slice); places = remove q.places t } in
    done r (asleep-has r t (fresh_sleeper nice slice) (inserted q.asleep t (fresh_sleeper nice slice)))

pub begin_by : (C : Answer × State → Type 0) (q : State) (t : ℕ) (nice : ℤ) (slice : ℕ) → C (Awake, q) → ((r : State) → (places_in r t ≤ 1 → Has r t (nice, slice)) → C (Begun, r)) → C (one_begin q t nice slice)
begin_by C q t nice slice refused done = begin_sleeper_by C q t nice slice (get q.asleep t) refused done

-- of a renice
renice_to_by : (C : ReniceAnswer × State → Type 0) (q : State) (o : Option State) → C (renice_answer.Range, q) → ((r : State) → o ≡ Some r → C (renice_answer.Reniced, record r { running = q.running })) → C (renice_to q o)
renice_to_by C q None range done = range
renice_to_by C q (Some r) range done = done r refl

renice_entry_by : (C : ReniceAnswer × State → Type 0) (q : State) (t : ℕ) (nice : ℤ) (o : Option Entry) → C (renice_answer.NotHere, q) → C (renice_answer.Range, q)
    → ((e : Entry) (r : State) → o ≡ Some e → Finds r t nice e.slice → C (renice_answer.Reniced, r)) → C (renice_entry q t nice o)
renice_entry_by C q t nice None absent range done = absent
renice_entry_by C q t nice (Some e) absent range done =
    renice_to_by C q (put (leave q t) t (reniced q e nice)) range
    (λ r h. let f : Finds r t nice e.slice = with-finds (leave q t) r t (reniced q e nice) (placed_entry (leave q t) (reniced q e nice)) refl h in
    done e (record r { running = q.running }) refl (record { entry = f.entry; here = f.here; same_nice = f.same_nice; same_slice = f.same_slice }))

renice_queue_by : (C : ReniceAnswer × State → Type 0) (q : State) (t : ℕ) (nice : ℤ) → C (renice_answer.NotHere, q) → C (renice_answer.Range, q)
    → ((e : Entry) (r : State) → get q.runnable t ≡ Some e → Finds r t nice e.slice → C (renice_answer.Reniced, r)) → C (renice q t nice)
renice_queue_by C q t nice absent range done = renice_entry_by C q t nice (get q.runnable t) absent range done

pub renice_by : (C : Answer × State → Type 0) (q : State) (t : ℕ) (nice : ℤ) → C (NotHere, q) → C (Range, q)
    → ((e : Entry) (r : State) → get q.runnable t ≡ Some e → Finds r t nice e.slice → C (Reniced, r)) → C (one_renice q t nice)
renice_by C q t nice absent range done = renice_queue_by (λ (r : ReniceAnswer × State). C (answer_of_renice r.0, r.1)) q t nice absent range done

-- and of a set
set_sleeper_by : (C : Answer × State → Type 0) (q : State) (t : ℕ) (nice : ℤ) (slice : ℕ) (o : Option Sleeper) → C (NotHere, q) → ((r : State) → (places_in r t ≤ 1 → Has r t (nice, slice)) → C (Set, r))
    → C (answer_of_set (set_sleeper q t nice slice o).0, (set_sleeper q t nice slice o).1)
set_sleeper_by C q t nice slice None absent done = absent
set_sleeper_by C q t nice slice (Some s) absent done =
    let r : State = record q { asleep = insert q.asleep t (sleeper_with s nice slice) } in
    done r (asleep-has r t (sleeper_with s nice slice) (inserted q.asleep t (sleeper_with s nice slice)))

entry_slice-has : (q : State) (t : ℕ) (nice : ℤ) (older slice : ℕ) → Finds q t nice older → places_in (set_entry_slice q t slice (get q.runnable t)) t ≤ 1 → Has (set_entry_slice q t slice (get q.runnable t)) t (nice, slice)
entry_slice-has q t nice older slice f =
    let e : Entry = record f.entry { slice = slice } in
    subst (λ (o : Option Entry). places_in (set_entry_slice q t slice o) t ≤ 1 → Has (set_entry_slice q t slice o) t (nice, slice)) (sym f.here)
    (found-has (set_entry_slice q t slice (Some f.entry)) t nice slice (record { entry = e; here = inserted q.runnable t e; same_nice = f.same_nice; same_slice = refl }))

pub set_by : (C : Answer × State → Type 0) (q : State) (t : ℕ) (nice : ℤ) (slice : ℕ) → C (NotHere, q) → C (Range, q) → ((r : State) → (places_in r t ≤ 1 → Has r t (nice, slice)) → C (Set, r)) → C (one_set q t nice slice)
set_by C q t nice slice absent range done =
    renice_queue_by (λ (r : ReniceAnswer × State). C (answer_of_set (set_reniced q t nice slice r.0 r.1).0, (set_reniced q t nice slice r.0 r.1).1)) q t nice
    (set_sleeper_by C q t nice slice (get q.asleep t) absent done) range
    (λ e r here f. done (set_entry_slice r t slice (get r.runnable t)) (entry_slice-has r t nice e.slice slice f))
