-- At the start each task stands in one place, and a sleeping one at its home.
use Rattle.std.proofs.Common.{◌≡◌, ℕ, zero, suc, ◌+◌, ◌-◌, ◌<◌, ◌≤◌, Bool, true, false, ◌&&◌, ◌||◌, List, [], ◌∷◌, length, map, replicate, refl, sym, ap, ◌∙◌, arith}
use Rattle.std.specs.Prelude.{nat_lt, nat_le, ◌==◌, is_some, None}
use Rattle.std.specs.FinMap.{contains_key}
use Rattle.std.proofs.{lemmas.List.length-map, lemmas.Bool.false≢true, lemmas.Bool.Decides.nat_tests}
use Rattle.eevdf_queue.specs.{Leaving.IsNowhere, Moves.fresh_entry, Moves.sleeper_of}
use Rattle.eevdf_queue.specs.State.{State, Contents, empty_state}
use Rattle.eevdf_ops.specs.{declared.task_spec.TaskSpec.TaskSpec, Faults.tasks_fault, Faults.task_fault, Setup.home_of}
use Rattle.eevdf_ops.specs.Machine.{Machine, queue_at, joined, beginner, begin, begin_at_homes}
use Rattle.eevdf_ops.specs.Places.{count, places, IsPlaced, AreCpus}
use Rattle.eevdf_ops.proofs.{Machines.length-begun, MachinePlaces.places-none, MachinePlaces.places-set, MachinePlaces.each-set}
use Rattle.eevdf_ops.proofs.{SetupFaults.or_none_left, SetupFaults.or_none_right, QueuePlaces.IsWith}
use Rattle.eevdf_ops.proofs.MapCounts.{equal, count-insert, contains-insert}
use Rattle.eevdf_ops.proofs.Starting.{absent_before, absent_empty, begins_well}

abbrev homes : List TaskSpec → List ℕ
homes ts = map (λ (t : TaskSpec). t.home) ts

abbrev begun : ℕ → ℕ → List TaskSpec → Machine
begun n task ts = begin_at_homes task ts (replicate n empty_state)

-- a task that joins stands in a place more
join-with : (asleep : Bool) (p : Contents) (q : State) → IsNowhere q p.task → IsWith q p.task (joined asleep p q)
join-with true p q a = record { places = λ u. omega (arith, count-insert q.asleep p.task u (sleeper_of p) (ap is_some a.not_asleep)) }
join-with false p q a = record { places = λ u. omega (arith, count-insert q.runnable p.task u (fresh_entry p.start p.nice p.slice) (ap is_some a.not_runnable)) }

-- whether a number is one of so many from another on
abbrev is_from : ℕ → ℕ → ℕ → Bool
is_from task n u = nat_le task u && nat_lt u (task + n)

none_from : (task u : ℕ) → count (is_from task 0 u) ≡ 0
none_from task u = grind (arith, nat_tests)

one_from : (task n u : ℕ) → count (is_from (task + 1) n u) + count (u == task) ≡ count (is_from task (suc n) u)
one_from task n u = grind (arith, nat_tests)

places_empty : (n u : ℕ) → places (replicate n empty_state) u ≡ 0
places_empty zero u = refl
places_empty (suc n) u = omega (arith, places-none u, places_empty n u)

home_within : (n place : ℕ) (t : TaskSpec) (l : ℕ) → task_fault n place t ≡ None → l ≡ n → t.home < l
home_within n place t l well e = let below : nat_lt t.home n ≡ true = (begins_well n place t well).at_home in grind (arith, nat_tests)

places_begun : (n place task u : ℕ) (ts : List TaskSpec) → tasks_fault n place ts ≡ None → places (begun n task ts) u ≡ count (is_from task (length ts) u)
places_begun n place task u [] well = places_empty n u ∙ sym (none_from task u)
places_begun n place task u (t ∷ ts) well =
    let rest : Machine = begun n (task + 1) ts in
    let q : State = begin task t (queue_at rest t.home) in
    let within : t.home < length rest = home_within n place t (length rest) (or_none_left _ _ well)
    (length-begun n (task + 1) ts) in
    let more : IsWith (queue_at rest t.home) task q = join-with t.asleep (beginner task t) (queue_at rest t.home) (absent_before n (task + 1) ts t.home task (omega arith)) in
    omega (
      arith,
      places-set rest t.home u q within,
      more.places u,
      places_begun n (place + 1) (task + 1) u ts (or_none_right (task_fault n place t) _ well),
      one_from task (length ts) u,
    )

-- a task asleep at a CPU is one of those that began, and its home is there
abbrev BegunAtHome : ℕ → List TaskSpec → ℕ → State → Type 0
BegunAtHome task ts cpu q = (u : ℕ) → contains_key q.asleep u ≡ true → (task ≤ u) × (home_of (homes ts) (u - task) ≡ cpu)

further : (task u cpu : ℕ) (t : TaskSpec) (ts : List TaskSpec) → (task + 1 ≤ u) × (home_of (homes ts) (u - (task + 1)) ≡ cpu) → (task ≤ u) × (home_of (homes (t ∷ ts)) (u - task) ≡ cpu)
further task u cpu t ts h =
    let later : task + 1 ≤ u = h.0 in
    let next : u - task ≡ suc (u - (task + 1)) = omega arith in
    (omega arith, ap (home_of (homes (t ∷ ts))) next ∙ h.1)

first : (task u : ℕ) (t : TaskSpec) (ts : List TaskSpec) → u ≡ task → (task ≤ u) × (home_of (homes (t ∷ ts)) (u - task) ≡ t.home)
first task u t ts e =
    let none : u - task ≡ 0 = omega arith in
    (omega arith, ap (home_of (homes (t ∷ ts))) none)

begun_by : (task u : ℕ) (t : TaskSpec) (ts : List TaskSpec) (b c : Bool) → (b ≡ true → u ≡ task) → (c ≡ true → (task + 1 ≤ u) × (home_of (homes ts) (u - (task + 1)) ≡ t.home)) → (b || c) ≡ true
    → (task ≤ u) × (home_of (homes (t ∷ ts)) (u - task) ≡ t.home)
begun_by task u t ts true c f g e = first task u t ts (f refl)
begun_by task u t ts false c f g e = further task u t.home t ts (g e)

join-at_home : (task : ℕ) (t : TaskSpec) (ts : List TaskSpec) (asleep : Bool) (q : State) → BegunAtHome (task + 1) ts t.home q
    → BegunAtHome task (t ∷ ts) t.home (joined asleep (beginner task t) q)
join-at_home task t ts true q rest = λ u a.
    begun_by task u t ts (u == task) (contains_key q.asleep u) (equal u task) (rest u) (sym (contains-insert q.asleep task u (sleeper_of (beginner task t))) ∙ a)
join-at_home task t ts false q rest = λ u a. further task u t.home t ts (rest u a)

empty_at_home : (n task cpu : ℕ) → BegunAtHome task [] cpu (queue_at (replicate n empty_state) cpu)
empty_at_home n task cpu u a = absurd (false≢true (ap is_some (sym (absent_empty n cpu u).not_asleep) ∙ a))

begun-at_home : (n task : ℕ) (ts : List TaskSpec) (cpu : ℕ) → BegunAtHome task ts cpu (queue_at (begun n task ts) cpu)
begun-at_home n task [] cpu = empty_at_home n task cpu
begun-at_home n task (t ∷ ts) cpu =
    each-set (BegunAtHome task (t ∷ ts)) (begun n (task + 1) ts) t.home (begin task t (queue_at (begun n (task + 1) ts) t.home))
    (join-at_home task t ts t.asleep (queue_at (begun n (task + 1) ts) t.home) (begun-at_home n (task + 1) ts t.home))
    (λ k u a. further task u k t ts (begun-at_home n (task + 1) ts k u a)) cpu

from_first : (n u l : ℕ) → l ≡ n → is_from 0 n u ≡ nat_lt u l
from_first n u l e = grind (arith, nat_tests)

-- the machine at the start
pub start-placed : (n : ℕ) (ts : List TaskSpec) → tasks_fault n 0 ts ≡ None → IsPlaced (map (λ (t : TaskSpec). t.home) ts) (begin_at_homes 0 ts (replicate n empty_state))
start-placed n ts well = record {
  once = λ u. places_begun n 0 0 u ts well ∙ ap count (from_first (length ts) u (length (homes ts)) (length-map ts (λ (t : TaskSpec). t.home)));
  at_home = λ cpu u a. let here : (0 ≤ u) × (home_of (homes ts) (u - 0) ≡ cpu) = begun-at_home n 0 ts cpu u a in
      let same : u ≡ u - 0 = omega arith in ap (home_of (homes ts)) same ∙ here.1;
}

-- each home is a CPU
pub homes-cpus : (n place : ℕ) (ts : List TaskSpec) → tasks_fault n place ts ≡ None → AreCpus n (map (λ (t : TaskSpec). t.home) ts)
homes-cpus n place [] well k h = absurd (omega arith)
homes-cpus n place (t ∷ ts) well zero h = home_within n place t n (or_none_left _ _ well) refl
homes-cpus n place (t ∷ ts) well (suc k) h = homes-cpus n (place + 1) ts (or_none_right (task_fault n place t) _ well) k (omega arith)
