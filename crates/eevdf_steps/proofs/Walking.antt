-- Each caller walks through its program with its locks as its steps need them.
use Rattle.std.proofs.Common.{◌≡◌, ◌≢◌, ℕ, zero, suc, ◌+◌, ◌<◌, ◌≤◌, Bool, true, false, cond, not, ◌||◌, List, [], ◌∷◌, ◌++◌, length, map, take, drop, get_or, sym, ap, subst, ◌∙◌, arith, refl}
use Rattle.std.proofs.lemmas.Bool.{false≢true, cases_lt, and_parts, eq-eqb, ltb-true}
use Rattle.std.proofs.lemmas.List.{get_or-replicate, get_or-set_same}
use Rattle.std.specs.List.{list_all}
use Rattle.std.specs.Prelude.{slice_get, ◌==◌, MatchOption, Option}
use Rattle.eevdf_ops.specs.declared.deeds.Op.{Op}
use Rattle.eevdf_ops.specs.declared.deeds.Op.TheVariants as op
use Rattle.eevdf_steps.specs.{declared.micro.Micro.Micro, declared.plan.Step.Step, Orders.counters_at_start}
use Rattle.eevdf_steps.specs.declared.micro.Micro.TheVariants.{Release}
use Rattle.eevdf_steps.specs.Plan.{IsSound, Plan, all_fit_cpus, callers, fits_cpu, home, is_sound_op, program}
use Rattle.eevdf_steps.specs.MicroSteps.{acting, draining, micros_of, moving, steps_by, steps_of, under_lock, under_locks}
use Rattle.eevdf_steps.specs.Counters.{Counters, count_of, counted, held_after, held_by_steps, step_next}
use Rattle.eevdf_steps.proofs.{Plans.no_step, Plans.program_ops_sound, SoundSteps.home_below, Positions.step_in}
use Rattle.eevdf_steps.proofs.Walks.{Covers, FitsWalk, FitsMicro, Walk, is_above, is_acting, is_falling, is_fresh, is_in, is_locking, is_moving, stack_after, touched}

-- from these locks on each step of a list fits the locks that are held then, and in the end none is held
abbrev Walks : Plan → ℕ → List ℕ → List Step → Type 0
Walks plan p held [] = held ≡ []
Walks plan p held (s ∷ ss) = FitsWalk plan p held s (slice_get ss 0) × Walks plan p (stack_after held s.micro) ss

one_lock : (p c : ℕ) → is_in c (p ∷ []) ≡ (c == p)
one_lock p c = grind arith

-- where the rest of a program begins
record Rest (plan : Plan) (p : ℕ) (rest : List Step) : Type 0 where
  fresh : is_fresh (slice_get rest 0) ≡ true
  walks : Walks plan p [] rest

act_walks : (plan : Plan) (p : ℕ) (o : Op) (rest : List Step) → p < callers plan → is_acting o ≡ true → is_locking o ≡ true → Covers plan p o (p ∷ [])
    → Rest plan p rest → Walks plan p [] (map (step_in o) (under_lock p acting) ++ rest)
act_walks plan p o rest h acts locks covers r = grind arith

either : (a b : Bool) → b ≡ true → (a || b) ≡ true
either a b h = grind arith

-- the caller's own CPU and another, in whichever order their locks come
both_walk : (plan : Plan) (p q : ℕ) (o : Op) (rest : List Step) → p < callers plan → q < callers plan → p ≢ q → is_moving o ≡ true → is_locking o ≡ true
    → ((c : ℕ) → touched plan p o c ≡ ((c == p) || (c == q))) → Rest plan p rest → Walks plan p [] (map (step_in o) (under_locks p q moving) ++ rest)
both_walk plan p q o rest h k apart moves locks touches r = grind arith

abbrev drained : Plan → ℕ → ℕ → ℕ → List Step → List Step
drained plan p n q rest = map (step_in op.Drain) (draining n q ++ Release p ∷ []) ++ rest

drained_fresh : (plan : Plan) (p n q : ℕ) (rest : List Step) → is_fresh (slice_get (drained plan p n q rest) 0) ≡ true
drained_fresh plan p n q rest = grind arith

drains_walk : (plan : Plan) (p n q : ℕ) (rest : List Step) → q + n ≤ callers plan → Rest plan p rest → Walks plan p (p ∷ []) (drained plan p n q rest)
drains_walk plan p zero q rest h r = (record { last = refl; fresh = r.fresh }, r.walks)
drains_walk plan p (suc n) q rest h r = (
  record { drains = refl; covers = one_lock p; sender = omega arith; follows = refl },
  (
    record { drains = refl; covers = one_lock p; sender = omega arith; fresh = drained_fresh plan p n (q + 1) rest },
    drains_walk plan p n (q + 1) rest (omega arith) r,
  ),
)

move_walks : (plan : Plan) (p : ℕ) (o : Op) (rest : List Step) → p < callers plan → is_moving o ≡ true → is_locking o ≡ true → Covers plan p o (p ∷ [])
    → Rest plan p rest → Walks plan p [] (map (step_in o) (under_lock p moving) ++ rest)
move_walks plan p o rest h moves locks covers r = grind arith

at_home : (p home c : ℕ) → (p == home) ≡ true → ((c == p) || (c == home)) ≡ (c == p)
at_home p home c e = grind arith

sleep_walks : (plan : Plan) (p t : ℕ) (o : Op) (rest : List Step) (x : Bool) → p < callers plan → home plan t < callers plan → is_moving o ≡ true → is_locking o ≡ true
    → ((c : ℕ) → touched plan p o c ≡ ((c == p) || (c == home plan t))) → (p == home plan t) ≡ x → Rest plan p rest
    → Walks plan p [] (map (step_in o) (cond x (under_lock p moving) (under_locks p (home plan t) moving)) ++ rest)
sleep_walks plan p t o rest true h k moves locks touches e r =
    move_walks plan p o rest h moves locks (λ c. one_lock p c ∙ sym (at_home p (home plan t) c e) ∙ sym (touches c)) r
sleep_walks plan p t o rest false h k moves locks touches e r =
    both_walk plan p (home plan t) o rest h k (λ same. false≢true (sym e ∙ eq-eqb p (home plan t) same)) moves locks touches r

other_source : (q p : ℕ) → not (q == p) ≡ true → p ≢ q
other_source q p h same = grind arith

op_walks : (plan : Plan) (p : ℕ) (o : Op) (rest : List Step) → IsSound plan → p < callers plan → is_sound_op plan o ≡ true → fits_cpu plan.homes p o ≡ true → Rest plan p rest
    → Walks plan p [] (map (step_in o) (micros_of plan p o) ++ rest)
op_walks plan p (op.Sleep t) rest s h k e r =
    sleep_walks plan p t (op.Sleep t) rest (p == home plan t) h (home_below plan t s (ltb-true t (length plan.homes) k)) refl refl (λ c. refl) refl r
op_walks plan p (op.Doze t) rest s h k e r =
    sleep_walks plan p t (op.Doze t) rest (p == home plan t) h (home_below plan t s (ltb-true t (length plan.homes) k)) refl refl (λ c. refl) refl r
op_walks plan p (op.End t) rest s h k e r =
    sleep_walks plan p t (op.End t) rest (p == home plan t) h (home_below plan t s (ltb-true t (length plan.homes) k)) refl refl (λ c. refl) refl r
op_walks plan p (op.Pull q) rest s h k e r = both_walk plan p q (op.Pull q) rest h (ltb-true q (callers plan) k) (other_source q p e) refl refl (λ c. refl) r
op_walks plan p op.Drain rest s h k e r = (
  record { above = refl; below = h; locking = refl; fresh = drained_fresh plan p (callers plan) 0 rest },
  drains_walk plan p (callers plan) 0 rest (omega arith) r,
)
op_walks plan p (op.Post t) rest s h k e r = (record { holds_none = refl; fresh = r.fresh }, r.walks)
op_walks plan p o rest s h k e r = act_walks plan p o rest h refl refl (one_lock p) r

op_fresh : (plan : Plan) (p : ℕ) (o : Op) (rest : List Step) → is_fresh (slice_get (map (step_in o) (micros_of plan p o) ++ rest) 0) ≡ true
op_fresh plan p o rest = grind arith

steps_fresh : (plan : Plan) (p : ℕ) (os : List Op) → is_fresh (slice_get (steps_of plan p os) 0) ≡ true
steps_fresh plan p [] = refl
steps_fresh plan p (o ∷ os) = op_fresh plan p o (steps_of plan p os)

ops_walk : (plan : Plan) (p : ℕ) (os : List Op) → IsSound plan → p < callers plan → list_all (is_sound_op plan) os ≡ true → list_all (fits_cpu plan.homes p) os ≡ true
    → Walks plan p [] (steps_of plan p os)
ops_walk plan p [] s h all elsewhere = refl
ops_walk plan p (o ∷ os) s h all elsewhere =
    let sounds = and_parts (is_sound_op plan o) (list_all (is_sound_op plan) os) all in
    let fits = and_parts (fits_cpu plan.homes p o) (list_all (fits_cpu plan.homes p) os) elsewhere in
    op_walks plan p o (steps_of plan p os) s h sounds.0 fits.0
    (record { fresh = steps_fresh plan p os; walks = ops_walk plan p os s h sounds.1 fits.1 })

pub program_fits_cpu : (homes : List ℕ) (cpu p : ℕ) (programs : List (List Op)) → all_fit_cpus homes cpu programs ≡ true → list_all (fits_cpu homes (cpu + p)) (get_or programs p []) ≡ true
program_fits_cpu homes cpu p [] all = refl
program_fits_cpu homes cpu zero (os ∷ programs) all = grind arith
program_fits_cpu homes cpu (suc p) (os ∷ programs) all = grind (arith, program_fits_cpu homes (cpu + 1) p programs)

program_walks : (plan : Plan) (p : ℕ) → IsSound plan → p < callers plan → Walks plan p [] (steps_by plan p)
program_walks plan p s h =
    ops_walk plan p (program plan p) s h (program_ops_sound plan p s)
    (subst (λ (k : ℕ). list_all (fits_cpu plan.homes k) (program plan p) ≡ true) (let e : 0 + p ≡ p = omega arith in e) (program_fits_cpu plan.homes 0 p plan.programs s.fits))

-- a number that is above all of a list isn't in it
pub above_apart : (c : ℕ) (held : List ℕ) → is_above c held ≡ true → is_in c held ≡ false
above_apart c [] h = refl
above_apart c (d ∷ held) h = grind (arith, above_apart c held)

gives_up : (c d : ℕ) (held : List ℕ) → take 1 held ≡ d ∷ [] → is_falling held ≡ true → held_after c (is_in c held) (Release d) ≡ is_in c (drop 1 held)
gives_up c d [] last falls = cc
gives_up c d (e ∷ held) last falls = grind (arith, above_apart e held)

-- the locks that are held after a step are those of the list
held_then : (plan : Plan) (p : ℕ) (held : List ℕ) (o : Op) (m : Micro) (following : Option Step) → FitsMicro plan p held o m following → is_falling held ≡ true
    → (c : ℕ) → held_after c (is_in c held) m ≡ is_in c (stack_after held m)
held_then plan p held o m following fits falls c = grind (arith, gives_up)

falling_then : (plan : Plan) (p : ℕ) (held : List ℕ) (o : Op) (m : Micro) (following : Option Step) → FitsMicro plan p held o m following → is_falling held ≡ true
    → is_falling (stack_after held m) ≡ true
falling_then plan p held o m following fits falls = grind arith

-- where a caller stands that has done so many steps of a list from these locks on
record Standing (plan : Plan) (p : ℕ) (first : List ℕ) (ss : List Step) (k : ℕ) : Type 0 where
  held : List ℕ
  holds_them : (c : ℕ) → held_by_steps c (is_in c first) (take k ss) ≡ is_in c held
  falling : is_falling held ≡ true
  fits : MatchOption (slice_get ss k) (held ≡ []) (λ s. FitsWalk plan p held s (slice_get ss (suc k)))

standing : (plan : Plan) (p : ℕ) (first : List ℕ) (ss : List Step) (k : ℕ) → Walks plan p first ss → is_falling first ≡ true → Standing plan p first ss k
standing plan p first [] zero walks falls = record { held = first; holds_them = λ c. refl; falling = falls; fits = walks }
standing plan p first [] (suc k) walks falls = record { held = first; holds_them = λ c. refl; falling = falls; fits = walks }
standing plan p first (s ∷ ss) zero walks falls = record { held = first; holds_them = λ c. refl; falling = falls; fits = walks.0 }
standing plan p first (s ∷ ss) (suc k) walks falls =
    let later : Standing plan p (stack_after first s.micro) ss k
    = standing plan p (stack_after first s.micro) ss k walks.1 (falling_then plan p first s.op s.micro (slice_get ss 0) walks.0 falls) in
    record {
      held = later.held;
      holds_them = λ c. ap (λ (b : Bool). held_by_steps c b (take k ss)) (held_then plan p first s.op s.micro (slice_get ss 0) walks.0 falls c) ∙ later.holds_them c;
      falling = later.falling;
      fits = later.fits;
    }

-- the steps of a caller fit the locks that it holds
pub walking : (plan : Plan) (counters : Counters) (caller : ℕ) → IsSound plan → length counters ≡ callers plan → caller < callers plan → Walk plan counters caller
walking plan counters caller sound each below =
    let here : Standing plan caller [] (steps_by plan caller) (count_of counters caller)
    = standing plan caller [] (steps_by plan caller) (count_of counters caller) (program_walks plan caller sound below) refl in
    let one_more : suc (count_of counters caller) ≡ count_of (counted counters caller) caller
    = (let e : suc (count_of counters caller) ≡ count_of counters caller + 1 = omega arith in e)
    ∙ sym (get_or-set_same counters caller (count_of counters caller + 1) 0 (omega (arith, each, below))) in
    record {
      held = here.held;
      holds_them = here.holds_them;
      falling = here.falling;
      fits =
          subst (λ (k : ℕ). MatchOption (step_next plan counters caller) (here.held ≡ []) (λ s. FitsWalk plan caller here.held s (slice_get (steps_by plan caller) k)))
          one_more here.fits;
    }

pub fresh_at_start : (plan : Plan) (caller : ℕ) → IsSound plan → is_fresh (step_next plan (counters_at_start plan) caller) ≡ true
fresh_at_start plan caller sound = grind (arith, cases_lt, get_or-replicate, steps_fresh, no_step)
