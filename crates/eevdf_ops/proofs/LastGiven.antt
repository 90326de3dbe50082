-- Each task of the machine is as it was given last.
use Rattle.std.proofs.Common.{◌≡◌, ℕ, ◌+◌, ◌<◌, ◌≤◌, zero-add, Bool, true, false, cond, List, [], ◌∷◌, length, set, replicate, refl, sym, ap, subst, ◌∙◌, arith}
use Rattle.std.specs.Prelude.{◌==◌, ℤ, pos, is_some, slice_get, Option, Some, None}
use Rattle.std.specs.{List.list_all, FinMap.contains_key}
use Rattle.std.proofs.{lemmas.Bool.false≢true, lemmas.Bool.and_parts, lemmas.List.get_or-set_same, Math.ListN.length-set}
use Rattle.eevdf_queue.specs.State.{State, empty_state}
use Rattle.eevdf_ops.specs.{declared.task_spec.TaskSpec.TaskSpec, declared.deeds.Answer.Answer, declared.deeds.Deed.Deed, declared.deeds.Line.Line}
use Rattle.eevdf_ops.specs.declared.deeds.Deed.TheVariants.{Renice, Begin, Set}
use Rattle.eevdf_ops.specs.{Faults.tasks_fault, Places.AreCpus, Places.IsPlaced, Places.count, Places.places_in}
use Rattle.eevdf_ops.specs.Setup.{Setup, cpus_of, homes_of, is_allowed, is_task}
use Rattle.eevdf_ops.specs.Machine.{Machine, queue_at, begin_at_homes, start}
use Rattle.eevdf_ops.specs.Whole.{whole, lines_of, machine_after}
use Rattle.eevdf_ops.specs.Given.{renices, sets, given_by, last_given, IsAsGiven, IsAsLastGiven, TasksAreAsLastGiven}
use Rattle.eevdf_ops.proofs.{MapCounts.equal, DeedNames.decider_below, DeedNames.unequal, Machines.length-begun, QueueValues.Each}
use Rattle.eevdf_ops.proofs.{MachinePlaces.at-most, MachinePlaces.places-two, StartingPlaces.start-placed, StartingPlaces.homes-cpus}
use Rattle.eevdf_ops.proofs.WholePlaces.{few_places, whole-placed, length-whole}
use Rattle.eevdf_ops.proofs.GivenTasks.{Everywhere, set-each, whole-each, nobody-each, begun-each, tasks_stay_as_given}
use Rattle.eevdf_ops.proofs.NewlyGiven.{Is, Has, found-has, begin_by, renice_by, set_by}

-- each task has what was given to it
abbrev Stand : (ℕ → ℤ × ℕ) → Machine → Type 0
Stand given m = Everywhere (λ (u : ℕ) (nice : ℤ) (slice : ℕ). Is (given u) nice slice) m

-- and each but one
abbrev OthersStand : ℕ → (ℕ → ℤ × ℕ) → Machine → Type 0
OthersStand t given m = Everywhere (λ (u : ℕ) (nice : ℤ) (slice : ℕ). (u == t) ≡ false → Is (given u) nice slice) m

others : (t : ℕ) (given : ℕ → ℤ × ℕ) (m : Machine) → Stand given m → OthersStand t given m
others t given m all k = record { runnable = λ u e h apart. (all k).runnable u e h; asleep = λ u s h apart. (all k).asleep u s h }

-- nothing can be said against a task that doesn't stand in the queue
not_there : (b c : Bool) → count b + count c ≡ 0 → b ≡ true → ⊥
not_there true c none h = omega arith
not_there false c none h = false≢true h

not_asleep : (b c : Bool) → count b + count c ≡ 0 → c ≡ true → ⊥
not_asleep b true none h = omega arith
not_asleep b false none h = false≢true h

absent-each : (P : ℕ → ℤ → ℕ → Type 0) (q : State) (t : ℕ) → places_in q t ≡ 0 → Each (λ (u : ℕ) (nice : ℤ) (slice : ℕ). u ≡ t → P u nice slice) q
absent-each P q t none = record {
  runnable = λ u e h at. absurd (not_there (contains_key q.runnable t) (contains_key q.asleep t) none (ap (λ (k : ℕ). contains_key q.runnable k) (sym at) ∙ ap is_some h));
  asleep = λ u s h at. absurd (not_asleep (contains_key q.runnable t) (contains_key q.asleep t) none (ap (λ (k : ℕ). contains_key q.asleep k) (sym at) ∙ ap is_some h));
}

chosen : (b : Bool) (v w : ℤ × ℕ) (nice : ℤ) (slice : ℕ) → (b ≡ true → Is v nice slice) → (b ≡ false → Is w nice slice) → Is (cond b v w) nice slice
chosen true v w nice slice own other = own refl
chosen false v w nice slice own other = other refl

-- where the one task stands has what was newly given, and it stands nowhere else
module _ (homes : List ℕ) (m : Machine) (c t : ℕ) (new given : ℕ → ℤ × ℕ) (placed : IsPlaced homes m) (has : Has (queue_at m c) t (new t)) where
  by_queue : (k : ℕ) (b : Bool) → (k == c) ≡ b → Each (λ (u : ℕ) (nice : ℤ) (slice : ℕ). u ≡ t → Is (new t) nice slice) (queue_at m k)
  by_queue k true at = subst (λ (i : ℕ). Each (λ (u : ℕ) (nice : ℤ) (slice : ℕ). u ≡ t → Is (new t) nice slice) (queue_at m i)) (sym (equal k c at)) has.each
  by_queue k false apart =
      absent-each (λ (u : ℕ) (nice : ℤ) (slice : ℕ). Is (new t) nice slice) (queue_at m k) t
      (omega (arith, places-two m k c t (unequal k c apart), has.stands, placed.once t, at-most (is_task homes t)))

  own : (u : ℕ) (nice : ℤ) (slice : ℕ) → (u ≡ t → Is (new t) nice slice) → (u == t) ≡ true → Is (new u) nice slice
  own u nice slice is at = subst (λ (i : ℕ). Is (new i) nice slice) (sym (equal u t at)) (is (equal u t at))

  newly-stand : OthersStand t given m → Stand (λ (u : ℕ). cond (u == t) (new u) (given u)) m
  newly-stand rest k =
      let here : Each (λ (u : ℕ) (nice : ℤ) (slice : ℕ). u ≡ t → Is (new t) nice slice) (queue_at m k) = by_queue k (k == c) refl in
      record {
        runnable = λ u e h. chosen (u == t) (new u) (given u) e.nice e.slice (own u e.nice e.slice (here.runnable u e h)) ((rest k).runnable u e h);
        asleep = λ u s h. chosen (u == t) (new u) (given u) s.nice s.slice (own u s.nice s.slice (here.asleep u s h)) ((rest k).asleep u s h);
      }

-- so it is where the queue is written that has it
written-stand : (homes : List ℕ) (m : Machine) (c t : ℕ) (new given : ℕ → ℤ × ℕ) (q : State) → c < length m → (places_in q t ≤ 1 → Has q t (new t)) → IsPlaced homes (set m c q)
    → OthersStand t given (set m c q) → Stand (λ (u : ℕ). cond (u == t) (new u) (given u)) (set m c q)
written-stand homes m c t new given q h has placed rest =
    let there : queue_at (set m c q) c ≡ q = get_or-set_same m c q empty_state h in
    let few : places_in (queue_at (set m c q) c) t ≤ 1 = few_places homes (set m c q) c t (omega (arith, h, length-set m c q)) placed in
    newly-stand homes (set m c q) c t new given placed
    (subst (λ (r : State). Has r t (new t)) (sym there) (has (subst (λ (r : State). places_in r t ≤ 1) there few))) rest

-- what is to be shown of a deed that may give a task something, by its answer and the queue that it leaves
abbrev Shown : List ℕ → Machine → ℕ → ℕ → Deed → (ℕ → ℤ × ℕ) → Answer × State → Type 0
Shown homes m cpu t deed given r = IsPlaced homes (set m cpu r.1) → OthersStand t given (set m cpu r.1) → Stand (λ (u : ℕ). given_by deed r.0 u (given u)) (set m cpu r.1)

kept-stand : (m : Machine) (cpu : ℕ) (given : ℕ → ℤ × ℕ) → Stand given m → Stand given (set m cpu (queue_at m cpu))
kept-stand m cpu given all = set-each (λ (u : ℕ) (nice : ℤ) (slice : ℕ). Is (given u) nice slice) m cpu (queue_at m cpu) (all cpu) all

others-whole : (homes : List ℕ) (deed : Deed) (m : Machine) (t : ℕ) (given : ℕ → ℤ × ℕ) → ((u : ℕ) → renices deed u ≡ true → (u == t) ≡ true) → ((u : ℕ) → sets deed u ≡ true → (u == t) ≡ true)
    → Stand given m → OthersStand t given (whole homes deed m).1
others-whole homes deed m t given reniced set all =
    whole-each (λ (u : ℕ) (nice : ℤ) (slice : ℕ). (u == t) ≡ false → Is (given u) nice slice) homes deed m
    (λ u older nice slice r p apart. absurd (false≢true (sym apart ∙ reniced u r))) (λ u older nice slice newer r p apart. absurd (false≢true (sym apart ∙ set u r)))
    (others t given m all)

given-whole : (homes : List ℕ) (deed : Deed) (m : Machine) (given : ℕ → ℤ × ℕ) → is_allowed (length m) homes deed ≡ true → AreCpus (length m) homes → IsPlaced homes m → Stand given m
    → Stand (λ (u : ℕ). given_by deed (whole homes deed m).0 u (given u)) (whole homes deed m).1
given-whole homes (Begin cpu t nice slice) m given ok cpus placed all =
    let deed : Deed = Begin cpu t nice slice in
    begin_by (Shown homes m cpu t deed given) (queue_at m cpu) t nice slice (λ p o. kept-stand m cpu given all)
    (λ r has p o. written-stand homes m cpu t (λ (u : ℕ). (nice, slice)) given r (decider_below _ homes deed ok) has p o)
    (whole-placed homes deed m ok cpus placed) (others-whole homes deed m t given (λ u r. r) (λ u r. r) all)
given-whole homes (Set cpu t nice slice) m given ok cpus placed all =
    let deed : Deed = Set cpu t nice slice in
    set_by (Shown homes m cpu t deed given) (queue_at m cpu) t nice slice (λ p o. kept-stand m cpu given all) (λ p o. kept-stand m cpu given all)
    (λ r has p o. written-stand homes m cpu t (λ (u : ℕ). (nice, slice)) given r (decider_below _ homes deed ok) has p o)
    (whole-placed homes deed m ok cpus placed) (others-whole homes deed m t given (λ u r. r) (λ u r. r) all)
given-whole homes (Renice cpu t nice) m given ok cpus placed all =
    let deed : Deed = Renice cpu t nice in
    renice_by (Shown homes m cpu t deed given) (queue_at m cpu) t nice (λ p o. kept-stand m cpu given all) (λ p o. kept-stand m cpu given all)
    (λ e r here found p o. written-stand homes m cpu t (λ (u : ℕ). (nice, (given u).1)) given r (decider_below _ homes deed ok)
    (λ few. subst (λ (slice : ℕ). Has r t (nice, slice)) ((all cpu).runnable t e here).1 (found-has r t nice e.slice found few)) p o)
    (whole-placed homes deed m ok cpus placed) (others-whole homes deed m t given (λ u r. r) (λ u r. absurd (false≢true r)) all)
given-whole homes deed m given ok cpus placed all =
    whole-each (λ (u : ℕ) (nice : ℤ) (slice : ℕ). Is (given u) nice slice) homes deed m (λ u older nice slice r p. absurd (false≢true r))
    (λ u older nice slice newer r p. absurd (false≢true r)) all

given-after : (homes : List ℕ) (deeds : List Deed) (m : Machine) (given : ℕ → ℤ × ℕ) → list_all (is_allowed (length m) homes) deeds ≡ true → AreCpus (length m) homes → IsPlaced homes m → Stand given m
    → Stand (λ (u : ℕ). last_given (lines_of homes m deeds) u (given u)) (machine_after homes m deeds)
given-after homes [] m given ok cpus placed all = all
given-after homes (d ∷ ds) m given ok cpus placed all =
    let n : Machine = (whole homes d m).1 in
    let same : length n ≡ length m = length-whole homes d m in
    let allowed : (is_allowed (length m) homes d ≡ true) × (list_all (is_allowed (length m) homes) ds ≡ true) = and_parts (is_allowed (length m) homes d) (list_all (is_allowed (length m) homes) ds) ok in
    given-after homes ds n (λ (u : ℕ). given_by d (whole homes d m).0 u (given u)) (ap (λ (l : ℕ). list_all (is_allowed l homes) ds) same ∙ allowed.1)
    (subst (λ (l : ℕ). AreCpus l homes) (sym same) cpus) (whole-placed homes d m allowed.0 cpus placed) (given-whole homes d m given allowed.0 cpus placed all)

-- what the setup gives a task
abbrev first_given : Option TaskSpec → ℤ × ℕ
first_given None = (pos 0, 0)
first_given (Some t) = (t.nice, t.slice)

begun-stand : (n : ℕ) (ts : List TaskSpec) → Stand (λ (u : ℕ). first_given (slice_get ts u)) (begin_at_homes 0 ts (replicate n empty_state))
begun-stand n ts =
    begun-each (λ (u : ℕ) (nice : ℤ) (slice : ℕ). Is (first_given (slice_get ts u)) nice slice) 0 ts (replicate n empty_state)
    (λ i t e. subst (λ (o : Option TaskSpec). Is (first_given o) t.nice t.slice) (sym (ap (slice_get ts) (zero-add i) ∙ e)) (refl, refl))
    (nobody-each (λ (u : ℕ) (nice : ℤ) (slice : ℕ). Is (first_given (slice_get ts u)) nice slice) n)

as_last : (ts : List TaskSpec) (deeds : List Deed) (lines : List Line) (u : ℕ) (nice : ℤ) (slice : ℕ) → IsAsGiven ts deeds u nice slice → Is (last_given lines u (first_given (slice_get ts u))) nice slice
    → IsAsLastGiven ts lines u nice slice
as_last ts deeds lines u nice slice known is = record {
  spec = known.spec;
  begun = known.given;
  same_nice = is.0 ∙ ap (λ (o : Option TaskSpec). (last_given lines u (first_given o)).0) known.given;
  same_slice = is.1 ∙ ap (λ (o : Option TaskSpec). (last_given lines u (first_given o)).1) known.given;
}

pub tasks_are_as_last_given : (s : Setup) → tasks_fault (cpus_of s) 0 s.tasks ≡ None → TasksAreAsLastGiven s
tasks_are_as_last_given s well deeds cpu ok =
    let homes : List ℕ = homes_of s in
    let same : length (start s) ≡ cpus_of s = length-begun (cpus_of s) 0 s.tasks in
    let is : Stand (λ (u : ℕ). last_given (lines_of homes (start s) deeds) u (first_given (slice_get s.tasks u))) (machine_after homes (start s) deeds) =
    given-after homes deeds (start s) (λ (u : ℕ). first_given (slice_get s.tasks u)) (ap (λ (l : ℕ). list_all (is_allowed l homes) deeds) same ∙ ok)
    (subst (λ (l : ℕ). AreCpus l homes) (sym same) (homes-cpus (cpus_of s) 0 s.tasks well)) (start-placed (cpus_of s) s.tasks well) (begun-stand (cpus_of s) s.tasks) in
    record {
      runnable = λ u e h. as_last s.tasks deeds (lines_of homes (start s) deeds) u e.nice e.slice ((tasks_stay_as_given s deeds cpu).runnable u e h) ((is cpu).runnable u e h);
      asleep = λ u r h. as_last s.tasks deeds (lines_of homes (start s) deeds) u r.nice r.slice ((tasks_stay_as_given s deeds cpu).asleep u r h) ((is cpu).asleep u r h);
    }
