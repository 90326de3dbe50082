-- What a queue keeps through its calls.
use Rattle.std.proofs.Common.{◌≡◌, ℕ, Bool, true, false, cond, eqb, Option, Some, None, refl, sym, ap, subst, ◌∙◌, arith}
use Rattle.std.specs.{Prelude.ℤ, Prelude.is_some, Option.option_map, Ordering.nat_cmp, Cmp.nat_cmp_total}
use Rattle.std.specs.FinMap.{FinMap, empty, insert, remove, get, contains_key, get-empty, get-insert, get-remove}
use Rattle.std.proofs.lemmas.Bool.Decides.{nat_tests}
use Rattle.eevdf_queue.proofs.ListMaps.{same_number}
use Rattle.eevdf_weight.specs.Limits.{is_in_range}
use Rattle.eevdf_queue.specs.{declared.entry.Entry.Entry, Sums.Tasks}
use Rattle.eevdf_queue.specs.State.{State, Sleeper, Contents}
use Rattle.eevdf_queue.specs.Leaving.{stopped, leaving_at, IsNowhere}
use Rattle.eevdf_queue.specs.Kept.{RunnerIsHere, AreSound}

abbrev pub Asleep : Type 0
Asleep = FinMap nat_cmp Sleeper

abbrev pub Places : Type 0
Places = FinMap nat_cmp ℤ

-- a queue by its parts, and by what is seen of it, with another entry of one task
abbrev of_parts : Tasks → Option ℕ → Asleep → ℤ → Places → ℤ → State
of_parts m r n b p z = record { runnable = m; running = r; asleep = n; base = b; places = p; shift = z }

pub entry_written : (m m' : Tasks) (r : Option ℕ) (n : Asleep) (b : ℤ) (p : Places) (z : ℤ) (t : ℕ) (e f : Entry) (q : State) → m' ≡ insert m t f → f ≡ e
    → of_parts m r n b p z ≡ q → of_parts m' r n b p z ≡ record q { runnable = insert q.runnable t e }
entry_written m m' r n b p z t e f q is same seen =
    ap (λ (x : Tasks). of_parts x r n b p z) (is ∙ ap (insert m t) same) ∙ ap (λ (s : State). record s { runnable = insert s.runnable t e }) seen

pub sound_open : (m : Tasks) (n : Asleep) (b : ℤ) → m ≡ empty → n ≡ empty → is_in_range b ≡ true → AreSound m None n b
sound_open m n b e f h = record {
  runs = tt;
  apart = λ t here. ap (λ a. get a t) f ∙ get-empty nat_cmp t;
  based = h;
}

runs_on : (m m' : Tasks) (t : ℕ) (e : Entry) (r : Option ℕ) → m' ≡ insert m t e → RunnerIsHere m r → RunnerIsHere m' r
runs_on m m' t e None is h = tt
runs_on m m' t e (Some u) is h = let at = ap (λ a. get a u) is ∙ get-insert nat_cmp_total m t e u in grind (arith, nat_tests, at)

-- a number that is among the tasks afterwards is the new one or was there
kept_or_new : (m m' : Tasks) (n : Asleep) (t u : ℕ) (e : Entry) → get m' u ≡ get (insert m t e) u → get n t ≡ None → (contains_key m u ≡ true → get n u ≡ None)
    → contains_key m' u ≡ true → get n u ≡ None
kept_or_new m m' n t u e is none before h = grind (arith, nat_tests, same_number u t, get-insert nat_cmp_total m t e u)

pub sound_admit : (m m' : Tasks) (r : Option ℕ) (n : Asleep) (b : ℤ) (t : ℕ) (e : Entry) → m' ≡ insert m t e → get n t ≡ None
    → AreSound m r n b → AreSound m' r n b
sound_admit m m' r n b t e is none h = record {
  runs = runs_on m m' t e r is h.runs;
  apart = λ u. kept_or_new m m' n t u e (ap (λ a. get a u) is) none (h.apart u);
  based = h.based;
}

pub sound_change : (m m' : Tasks) (r : Option ℕ) (n : Asleep) (b : ℤ) (t : ℕ) (e : Entry) → m' ≡ insert m t e → contains_key m t ≡ true
    → AreSound m r n b → AreSound m' r n b
sound_change m m' r n b t e is here h = sound_admit m m' r n b t e is (h.apart t here) h

other_sleeper : (m : Tasks) (n n' : Asleep) (t u : ℕ) (s : Sleeper) → get n' u ≡ get (insert n t s) u → get m t ≡ None → contains_key m u ≡ true → get n u ≡ None
    → get n' u ≡ None
other_sleeper m n n' t u s is none here old = grind (arith, nat_tests, same_number u t, get-insert nat_cmp_total n t s u)

pub sound_sleep : (m : Tasks) (r : Option ℕ) (n n' : Asleep) (b : ℤ) (t : ℕ) (s : Sleeper) → n' ≡ insert n t s → get m t ≡ None
    → AreSound m r n b → AreSound m r n' b
sound_sleep m r n n' b t s is none h = record {
  runs = h.runs;
  apart = λ u here. other_sleeper m n n' t u s (ap (λ a. get a u) is) none here (h.apart u here);
  based = h.based;
}

-- a number that is still among the tasks was there
was_there : (m : Tasks) (t u : ℕ) → contains_key (remove m t) u ≡ true → contains_key m u ≡ true
was_there m t u h = grind (arith, nat_tests, get-remove nat_cmp_total m t u)

still_there : (m : Tasks) (t u : ℕ) → eqb t u ≡ false → contains_key m u ≡ true → contains_key (remove m t) u ≡ true
still_there m t u k h = grind (arith, nat_tests, same_number u t, get-remove nat_cmp_total m t u)

runs_without : (m : Tasks) (t u : ℕ) (b : Bool) → eqb t u ≡ b → contains_key m u ≡ true → RunnerIsHere (remove m t) (cond b None (Some u))
runs_without m t u true k h = tt
runs_without m t u false k h = still_there m t u k h

runs_after : (m : Tasks) (t : ℕ) (r : Option ℕ) → RunnerIsHere m r → RunnerIsHere (remove m t) (stopped r t)
runs_after m t None h = tt
runs_after m t (Some u) h = runs_without m t u (eqb t u) refl h

left : (m : Tasks) (r : Option ℕ) (n : Asleep) (b b' : ℤ) (t : ℕ) → is_in_range b' ≡ true
    → AreSound m r n b → AreSound (remove m t) (stopped r t) n b'
left m r n b b' t h k = record {
  runs = runs_after m t r k.runs;
  apart = λ u here. k.apart u (was_there m t u here);
  based = h;
}

pub sound_leave : (m m' : Tasks) (r r' : Option ℕ) (n : Asleep) (b b' : ℤ) (t : ℕ) → m' ≡ remove m t → r' ≡ stopped r t → is_in_range b' ≡ true
    → AreSound m r n b → AreSound m' r' n b'
sound_leave m m' r r' n b b' t is out h k =
    subst (λ (x : Tasks). AreSound x r' n b') (sym is)
    (subst (λ (x : Option ℕ). AreSound (remove m t) x n b') (sym out)
    (left m r n b b' t h k))

-- a woken task is among the tasks, and no longer among the sleepers
apart_woken : (m : Tasks) (n : Asleep) (t u : ℕ) (e : Entry) → (contains_key m u ≡ true → get n u ≡ None) → contains_key (insert m t e) u ≡ true → get (remove n t) u ≡ None
apart_woken m n t u e h here = grind (arith, nat_tests, get-insert nat_cmp_total m t e u, get-remove nat_cmp_total n t u)

pub sound_wake : (m m' : Tasks) (r : Option ℕ) (n n' : Asleep) (b : ℤ) (t : ℕ) (e : Entry) → m' ≡ insert m t e → n' ≡ remove n t
    → AreSound m r n b → AreSound m' r n' b
sound_wake m m' r n n' b t e is out h = record {
  runs = runs_on m m' t e r is h.runs;
  apart = λ u here. ap (λ a. get a u) out ∙ apart_woken m n t u e (h.apart u) (sym (ap (λ a. contains_key a u) is) ∙ here);
  based = h.based;
}

-- who has left carries the number that it had, starts at its virtual runtime, and leaves that as the time that stands
pub left_number : (time : ℤ) (t : ℕ) (o : Option Entry) (p : Contents) → option_map (leaving_at time t) o ≡ Some p → p.task ≡ t
left_number time t None p h = cc
left_number time t (Some e) p h =
    let same : leaving_at time t e ≡ p = grind arith in sym (ap (λ (c : Contents). c.task) same)

pub left_start : (P : ℤ → Type 0) (time : ℤ) (t : ℕ) (o : Option Entry) (p : Contents) → option_map (leaving_at time t) o ≡ Some p
    → ((e : Entry) → o ≡ Some e → P e.v) → P p.start
left_start P time t None p h k = cc
left_start P time t (Some e) p h k =
    let same : leaving_at time t e ≡ p = grind arith in subst P (ap (λ (c : Contents). c.start) same) (k e refl)

pub gone : {X : Type 0} (m : FinMap nat_cmp X) (t : ℕ) → get (remove m t) t ≡ None
gone m t = grind (arith, nat_tests, same_number t t, get-remove nat_cmp_total m t t)

-- and stands nowhere in the queue that it has left
pub nowhere_after : (m m' : Tasks) (r r' : Option ℕ) (n : Asleep) (places : Places) (b b' z time : ℤ) (t : ℕ) (p : Contents) → m' ≡ remove m t → is_some (get m t) ≡ true
    → option_map (leaving_at time t) (get m t) ≡ Some p → AreSound m r n b
    → IsNowhere (of_parts m' r' n b' places z) p.task
nowhere_after m m' r r' n places b b' z time t p is here left h =
    subst (λ (u : ℕ). IsNowhere (of_parts m' r' n b' places z) u) (sym (left_number time t (get m t) p left))
    (record { not_runnable = ap (λ a. get a t) is ∙ gone m t; not_asleep = h.apart t here })

-- a sleeping task that is taken out
still_apart : (n : Asleep) (t u : ℕ) → get n u ≡ None → get (remove n t) u ≡ None
still_apart n t u h = grind (arith, nat_tests, get-remove nat_cmp_total n t u)

pub sound_sleeper_leaves : (m : Tasks) (r : Option ℕ) (n n' : Asleep) (b : ℤ) (t : ℕ) → n' ≡ remove n t
    → AreSound m r n b → AreSound m r n' b
sound_sleeper_leaves m r n n' b t out h = record {
  runs = h.runs;
  apart = λ u here. ap (λ a. get a u) out ∙ still_apart n t u (h.apart u here);
  based = h.based;
}

-- a task that sleeps isn't runnable
pub not_runnable_of : (m : Tasks) (n : Asleep) (t : ℕ) → (contains_key m t ≡ true → get n t ≡ None) → contains_key n t ≡ true → get m t ≡ None
not_runnable_of m n t h here = grind (arith, nat_tests)

-- a sleeping task of which something else is kept
pub sound_kept : (m : Tasks) (r : Option ℕ) (n n' : Asleep) (b : ℤ) (t : ℕ) (s : Sleeper) → n' ≡ insert n t s → contains_key n t ≡ true
    → AreSound m r n b → AreSound m r n' b
sound_kept m r n n' b t s is here h = sound_sleep m r n n' b t s is (not_runnable_of m n t (h.apart t) here) h

pub nowhere_woken : (m : Tasks) (r : Option ℕ) (n n' : Asleep) (places : Places) (b z : ℤ) (t u : ℕ) → n' ≡ remove n t → contains_key n t ≡ true → u ≡ t
    → AreSound m r n b
    → IsNowhere (of_parts m r n' b places z) u
nowhere_woken m r n n' places b z t u out here same h =
    subst (λ (x : ℕ). IsNowhere (of_parts m r n' b places z) x) (sym same)
    (record { not_runnable = not_runnable_of m n t (h.apart t) here; not_asleep = ap (λ a. get a t) out ∙ gone n t })
