-- What a task carries that leaves a queue.
use Rattle.std.proofs.Common.{◌≡◌, ℕ, ◌≤◌, Bool, true, false, cond, List, [], ◌∷◌, refl, sym, ap, subst, ◌∙◌, arith}
use Rattle.std.specs.Prelude.{◌==◌, Option, Some, None, Ok, Err}
use Rattle.std.specs.{Option.option_map, Option.option_and_then, FinMap.get, FinMap.entries}
use Rattle.std.proofs.{lemmas.Bool.Decides.nat_tests}
use Rattle.eevdf_queue.specs.{declared.entry.Entry.Entry, State.State, State.Contents, Lag.kept_lag, Order.is_before}
use Rattle.eevdf_queue.specs.Leaving.{leaving, carried, carried_running, leave, leave_running, without_entry}
use Rattle.eevdf_queue.specs.Candidate.{is_running, candidate_of, latest_waiting, later}
use Rattle.eevdf_queue.specs.Attributes.{without_lag}
use Rattle.eevdf_ops.specs.{WholePull.offer, WholeEnd.ending, Halves.taken_out, declared.halves.Taking.Taking}
use Rattle.eevdf_ops.specs.declared.halves.Taking.TheVariants.{Sleep, End, Pull}
use Rattle.eevdf_ops.specs.Places.{count, places_in}
use Rattle.eevdf_ops.proofs.{QueuePlaces.IsWithout, QueuePlaces.leave-without}

-- what a task carries that is runnable in a queue
pub record Carries (q : State) (task : ℕ) (p : Contents) : Type 0 where
  pub entry : Entry
  pub here : get q.runnable p.task ≡ Some entry
  pub of_task : p.task ≡ task
  pub same_nice : p.nice ≡ entry.nice

carried_by : (q : State) (t : ℕ) (o : Option Entry) (p : Contents) → get q.runnable t ≡ o → option_map (λ (e : Entry). leaving t (kept_lag q e) e) o ≡ Some p → Carries q t p
carried_by q t None p at e = cc
carried_by q t (Some entry) p at e =
    let is : leaving t (kept_lag q entry) entry ≡ p = cc in
    subst (λ (r : Contents). Carries q t r) is (record { entry = entry; here = at; of_task = refl; same_nice = refl })

pub carried-carries : (q : State) (t : ℕ) (p : Contents) → carried q t ≡ Some p → Carries q t p
carried-carries q t p e = carried_by q t (get q.runnable t) p refl e

running_by : (q : State) (t : ℕ) (b : Bool) (p : Contents) → cond b (carried q t) None ≡ Some p → Carries q t p
running_by q t true p e = carried-carries q t p e
running_by q t false p e = cc

pub running-carries : (q : State) (t : ℕ) (p : Contents) → carried_running q t ≡ Some p → Carries q t p
running-carries q t p e = running_by q t (is_running q.running t) p e

ending_by : (q : State) (t : ℕ) (o : Option Contents) (p : Contents) → ((r : Contents) → o ≡ Some r → Carries q t r) → option_map without_lag o ≡ Some p → Carries q t p
ending_by q t None p each e = cc
ending_by q t (Some r) p each e =
    let same : without_lag r ≡ p = cc in
    let c : Carries q t r = each r refl in
    subst (λ (s : Contents). Carries q t s) same (record { entry = c.entry; here = c.here; of_task = c.of_task; same_nice = c.same_nice })

pub ending-carries : (q : State) (t : ℕ) (p : Contents) → ending q t ≡ Some p → Carries q t p
ending-carries q t p e = ending_by q t (carried q t) p (λ r h. carried-carries q t r h) e

itself : (q : State) (t : ℕ) (p : Contents) → Carries q t p → Carries q p.task p
itself q t p c = record { entry = c.entry; here = c.here; of_task = refl; same_nice = c.same_nice }

-- whichever task is taken out
pub taken-carries : (t : Taking) (q : State) (p : Contents) → taken_out t q ≡ Some p → Carries q p.task p
taken-carries (Sleep task) q p e = itself q task p (running-carries q task p e)
taken-carries (End task) q p e = itself q task p (ending-carries q task p e)
taken-carries (Pull (Ok task)) q p e = itself q task p (carried-carries q task p e)
taken-carries (Pull (Err why)) q p e = cc

offered_by : (q : State) (o : Option ℕ) (p : Contents) → option_and_then (carried q) o ≡ Some p → Carries q p.task p
offered_by q None p e = cc
offered_by q (Some t) p e = itself q t p (carried-carries q t p e)

pub offer-carries : (q : State) (p : Contents) → offer q ≡ Some p → Carries q p.task p
offer-carries q p e = offered_by q (candidate_of q.runnable q.running) p e

pub leaves-without : (q : State) (t : ℕ) (p : Contents) → Carries q t p → IsWithout q p.task (leave q p.task)
leaves-without q t p c = subst (λ (o : Option Entry). IsWithout q p.task (without_entry q p.task o)) (sym c.here) (leave-without q p.task c.entry c.here)

same_number : (t : ℕ) → count (t == t) ≡ 1
same_number t = let same : (t == t) ≡ true = grind (arith, nat_tests) in ap count same

-- it stands in the queue
pub carried-stands : (q : State) (t : ℕ) (p : Contents) → Carries q t p → 1 ≤ places_in q p.task
carried-stands q t p c = omega (arith, (leaves-without q t p c).places p.task, same_number p.task)

-- and where it stands in one place at most, then it stands nowhere when it has left
pub left-nowhere : (q : State) (t : ℕ) (p : Contents) → Carries q t p → places_in q p.task ≤ 1 → places_in (leave q p.task) p.task ≡ 0
left-nowhere q t p c few = omega (arith, (leaves-without q t p c).places p.task, same_number p.task)

-- where it runs, it leaves
stopped_by : (q : State) (t : ℕ) (b : Bool) (p : Contents) → cond b (carried q t) None ≡ Some p → cond b (leave q t) q ≡ leave q t
stopped_by q t true p e = refl
stopped_by q t false p e = cc

pub running-leaves : (q : State) (t : ℕ) (p : Contents) → carried_running q t ≡ Some p → leave_running q t ≡ leave q p.task
running-leaves q t p e = stopped_by q t (is_running q.running t) p e ∙ ap (λ (k : ℕ). leave q k) (sym (running-carries q t p e).of_task)

-- what is offered is what the candidate carries
candidate_by : (q : State) (o : Option ℕ) (p : Contents) → option_and_then (carried q) o ≡ Some p → o ≡ Some p.task
candidate_by q None p e = cc
candidate_by q (Some t) p e = ap (λ (k : ℕ). Some k) (sym (carried-carries q t p e).of_task)

pub offer-candidate : (q : State) (p : Contents) → offer q ≡ Some p → candidate_of q.runnable q.running ≡ Some p.task
offer-candidate q p e = candidate_by q (candidate_of q.runnable q.running) p e

pub offer-carried : (q : State) (p : Contents) → offer q ≡ Some p → carried q p.task ≡ Some p
offer-carried q p e = ap (λ (o : Option ℕ). option_and_then (carried q) o) (sym (offer-candidate q p e)) ∙ e

-- the candidate waits
waits_later : (running : Option ℕ) (a b r : ℕ × Entry) (c : Bool) → is_running running a.0 ≡ false → is_running running b.0 ≡ false → cond c b a ≡ r → is_running running r.0 ≡ false
waits_later running a b r true h g e = ap (λ (x : ℕ × Entry). is_running running x.0) (sym e) ∙ g
waits_later running a b r false h g e = ap (λ (x : ℕ × Entry). is_running running x.0) (sym e) ∙ h

waits_first : (running : Option ℕ) (a r : ℕ × Entry) (o : Option (ℕ × Entry)) → is_running running a.0 ≡ false → ((b : ℕ × Entry) → o ≡ Some b → is_running running b.0 ≡ false) → later a o ≡ r
    → is_running running r.0 ≡ false
waits_first running a r None h rest e = ap (λ (x : ℕ × Entry). is_running running x.0) (sym e) ∙ h
waits_first running a r (Some b) h rest e = waits_later running a b r (is_before a b) h (rest b refl) e

waits_by : (running : Option ℕ) (a r : ℕ × Entry) (o : Option (ℕ × Entry)) (c : Bool) → is_running running a.0 ≡ c → ((b : ℕ × Entry) → o ≡ Some b → is_running running b.0 ≡ false)
    → cond c o (Some (later a o)) ≡ Some r → is_running running r.0 ≡ false
waits_by running a r o true h rest e = rest r e
waits_by running a r o false h rest e = let first : later a o ≡ r = cc in waits_first running a r o h rest first

latest-waits : (running : Option ℕ) (es : List (ℕ × Entry)) (r : ℕ × Entry) → latest_waiting running es ≡ Some r → is_running running r.0 ≡ false
latest-waits running [] r e = cc
latest-waits running (a ∷ es) r e = waits_by running a r (latest_waiting running es) (is_running running a.0) refl (λ b f. latest-waits running es b f) e

numbered_waits : (running : Option ℕ) (o : Option (ℕ × Entry)) (t : ℕ) → ((b : ℕ × Entry) → o ≡ Some b → is_running running b.0 ≡ false) → option_map (λ (a : ℕ × Entry). a.0) o ≡ Some t → is_running running t ≡ false
numbered_waits running None t all e = cc
numbered_waits running (Some a) t all e = let is : a.0 ≡ t = cc in ap (is_running running) (sym is) ∙ all a refl

pub offer-waits : (q : State) (p : Contents) → offer q ≡ Some p → is_running q.running p.task ≡ false
offer-waits q p e =
    numbered_waits q.running (latest_waiting q.running (entries q.runnable)) p.task
    (λ b f. latest-waits q.running (entries q.runnable) b f) (offer-candidate q p e)
