-- A task that an idle CPU has pulled is pulled again only after it was picked.
use Rattle.std.proofs.Common.{◌≡◌, ◌≢◌, ℕ, ◌+◌, ◌<◌, ◌≤◌, Bool, true, false, cond, List, [], ◌∷◌, length, refl, sym, ap, subst, ◌∙◌, arith}
use Rattle.std.specs.Prelude.{◌==◌, is_some, Result, Ok, Err}
use Rattle.std.specs.{List.AllByRecursion, FinMap.contains_key}
use Rattle.std.proofs.lemmas.Bool.{false≢true}
use Rattle.eevdf_queue.specs.{State.State, State.Contents, Pick.pick_of, Laws.PickIsFirst, Laws.PickOfNobody}
use Rattle.eevdf_ops.specs.{declared.deeds.Deed.Deed, declared.deeds.Answer.Answer}
use Rattle.eevdf_ops.specs.declared.deeds.Deed.TheVariants.{Pick, Sleep, Doze, Pull, End}
use Rattle.eevdf_ops.specs.declared.deeds.Answer.TheVariants.{Picked, Pulled, Slept, Ended}
use Rattle.eevdf_ops.specs.{Machine.Machine, Machine.queue_at, OneQueue.answer_of_pick, Parts.decider, Programs.deeds_by, Transfers.pulled, Whole.whole, Whole.lines_of}
use Rattle.eevdf_ops.specs.{Setup.is_allowed, Setup.is_task, Places.count, Places.AreCpus, Places.IsPlaced, WholePull.decision, WholePull.load_of, WholePull.offer}
use Rattle.eevdf_ops.proofs.{MapCounts.equal, MapCounts.itself, DeedNames.PullNames, DeedNames.pull_names, DeedNames.unequal, MachinePlaces.places-two, MachinePlaces.at-most, WholePlaces.whole-placed, WholePlaces.length-whole}
use Rattle.eevdf_ops.proofs.{Carried.Carries, Carried.offer-carries, Pulling.decision-taken, Pulling.unpulled}
use Rattle.eevdf_balance.specs.{Crowds.tasks_at, Crowds.leaves}
use Rattle.eevdf_balance.specs.OncePerTurn.{PicksNext, IsToRun, PullToRun, pulls_it, picks_it, times, PulledOncePerTurn}
use Rattle.eevdf_balance.proofs.{Runs.IsAlone, Runs.alone_stays, Runs.alone_at_first, Runs.picked_by, Runs.crowded_by, Tries.comes_none}

-- who leaves a CPU does so by a line of that CPU
leaves_none : (c : ℕ) (d : Deed) (a : Answer) → (decider d == c) ≡ false → leaves c d a ≡ false
leaves_none c (Sleep cpu task) a h = slept a
  where
    slept : (a : Answer) → leaves c (Sleep cpu task) a ≡ false
    slept (Slept lag) = h
    slept a = refl
leaves_none c (Doze cpu task) a h = dozed a
  where
    dozed : (a : Answer) → leaves c (Doze cpu task) a ≡ false
    dozed (Slept lag) = h
    dozed a = refl
leaves_none c (End cpu task) a h = ended a
  where
    ended : (a : Answer) → leaves c (End cpu task) a ≡ false
    ended Ended = h
    ended a = refl
leaves_none c d a h = refl

-- whoever is pulled was runnable at the source
stood_by : (q s : State) (task : ℕ) (d : Result Contents Answer) → decision q (load_of s) (offer s) ≡ d → (pulled d q s).0 ≡ Pulled task → contains_key s.runnable task ≡ true
stood_by q s task (Err why) is answered = absurd (unpulled q (load_of s) task (offer s) why is answered)
stood_by q s task (Ok p) is answered =
    let same : p.task ≡ task = cc in
    let c : Carries s p.task p = offer-carries s p (decision-taken q (load_of s) (offer s) p is).offered_it in
    subst (λ (t : ℕ). contains_key s.runnable t ≡ true) same (ap is_some c.here)

-- which pull took the task
record TakesIt (homes : List ℕ) (m : Machine) (d : Deed) (t : ℕ) : Type 0 where
  cpu : ℕ
  source : ℕ
  is : d ≡ Pull cpu source
  answered : (whole homes (Pull cpu source) m).0 ≡ Pulled t

pulled_it : (t cpu source : ℕ) (a : Answer) → pulls_it t (Pull cpu source) a ≡ true → a ≡ Pulled t
pulled_it t cpu source (Pulled u) h = ap (λ (n : ℕ). Pulled n) (equal u t h)
pulled_it t cpu source a h = cc

takes_it : (homes : List ℕ) (m : Machine) (d : Deed) (t : ℕ) → pulls_it t d (whole homes d m).0 ≡ true → TakesIt homes m d t
takes_it homes m (Pull cpu source) t h = record { cpu = cpu; source = source; is = refl; answered = pulled_it t cpu source (whole homes (Pull cpu source) m).0 h }
takes_it homes m d t h = cc

-- nobody takes a task that is alone on its CPU
one_place : (b c : Bool) → b ≡ true → 1 ≤ count b + count c
one_place true c h = omega arith
one_place false c h = absurd (false≢true h)

elsewhere : (homes : List ℕ) (m : Machine) (c s t : ℕ) → IsPlaced homes m → c ≢ s → contains_key (queue_at m c).runnable t ≡ true → contains_key (queue_at m s).runnable t ≡ true → ⊥
elsewhere homes m c s t placed apart here there =
    let two = places-two m c s t apart in
    let a = one_place (contains_key (queue_at m c).runnable t) (contains_key (queue_at m c).asleep t) here in
    let b = one_place (contains_key (queue_at m s).runnable t) (contains_key (queue_at m s).asleep t) there in
    let no : ⊥ = omega (arith, two, a, b, placed.once t, at-most (is_task homes t)) in
    no

by_source : (homes : List ℕ) (m : Machine) (c cpu source t : ℕ) (b : Bool) → (source == c) ≡ b → IsPlaced homes m → IsAlone (queue_at m c).runnable t
    → (whole homes (Pull cpu source) m).0 ≡ Pulled t → ⊥
by_source homes m c cpu source t true e placed alone answered =
    crowded_by homes m cpu source t answered (subst (λ (k : ℕ). tasks_at m k ≤ 1) (sym (equal source c e)) alone.one)
by_source homes m c cpu source t false e placed alone answered =
    let q : State = queue_at m cpu in
    let s : State = queue_at m source in
    elsewhere homes m c source t placed (λ same. unequal source c e (sym same)) alone.here (stood_by q s t (decision q (load_of s) (offer s)) refl answered)

not_taken_by : (homes : List ℕ) (m : Machine) (d : Deed) (c t : ℕ) (b : Bool) → pulls_it t d (whole homes d m).0 ≡ b → IsPlaced homes m → IsAlone (queue_at m c).runnable t → count b ≡ 0
not_taken_by homes m d c t false e placed alone = refl
not_taken_by homes m d c t true e placed alone =
    let it : TakesIt homes m d t = takes_it homes m d t e in absurd (by_source homes m c it.cpu it.source t (it.source == c) refl placed alone it.answered)

not_taken : (homes : List ℕ) (m : Machine) (d : Deed) (c t : ℕ) → IsPlaced homes m → IsAlone (queue_at m c).runnable t → count (pulls_it t d (whole homes d m).0) ≡ 0
not_taken homes m d c t placed alone = not_taken_by homes m d c t (pulls_it t d (whole homes d m).0) refl placed alone

-- the next deed of a CPU
own_next : (c : ℕ) (d : Deed) (ds : List Deed) → (decider d == c) ≡ true → PicksNext c (d ∷ ds) → d ≡ Pick c
own_next c d ds own next = next d (deeds_by c ds) (ap (λ (b : Bool). cond b (d ∷ deeds_by c ds) (deeds_by c ds)) own)

later_next : (c : ℕ) (d : Deed) (ds : List Deed) → (decider d == c) ≡ false → PicksNext c (d ∷ ds) → PicksNext c ds
later_next c d ds other next x xs is = next x xs (ap (λ (b : Bool). cond b (d ∷ deeds_by c ds) (deeds_by c ds)) other ∙ is)

-- ---- histories
abbrev AllAllowed : ℕ → List ℕ → List Deed → Type 0
AllAllowed cpus homes deeds = AllByRecursion (λ (d : Deed). is_allowed cpus homes d ≡ true) deeds

module _ (first : PickIsFirst) (nobody : PickOfNobody) (homes : List ℕ) (t : ℕ) where
  abbrev pulls : Machine → List Deed → ℕ
  pulls m deeds = times (pulls_it t) (lines_of homes m deeds)

  abbrev picks : Machine → List Deed → ℕ
  picks m deeds = times (picks_it t) (lines_of homes m deeds)

  -- where it is alone on a CPU that picks next, it is picked before it is pulled
  abbrev Waits : Machine → List Deed → Type 0
  Waits m deeds = (c : ℕ) → c < length m → IsAlone (queue_at m c).runnable t → PicksNext c deeds → pulls m deeds ≤ picks m deeds

  found : (m : Machine) (c : ℕ) → IsAlone (queue_at m c).runnable t → (count (pulls_it t (Pick c) (whole homes (Pick c) m).0) ≡ 0) × (count (picks_it t (Pick c) (whole homes (Pick c) m).0) ≡ 1)
  found m c alone =
      let is : (whole homes (Pick c) m).0 ≡ Picked t = ap answer_of_pick (picked_by (queue_at m c).runnable t (pick_of (queue_at m c).runnable) first nobody refl alone) in
      (refl, ap (λ (a : Answer). count (picks_it t (Pick c) a)) is ∙ ap count (itself t))

  waits_by : (m : Machine) (d : Deed) (ds : List Deed) (c : ℕ) (b : Bool) → (decider d == c) ≡ b → IsPlaced homes m → pulls (whole homes d m).1 ds ≤ picks (whole homes d m).1 ds + 1 → Waits (whole homes d m).1 ds
      → c < length m → IsAlone (queue_at m c).runnable t → PicksNext c (d ∷ ds) → pulls m (d ∷ ds) ≤ picks m (d ∷ ds)
  waits_by m d ds c true own placed all waits there alone next =
      let is : d ≡ Pick c = own_next c d ds own next in
      let it = subst (λ (x : Deed). (count (pulls_it t x (whole homes x m).0) ≡ 0) × (count (picks_it t x (whole homes x m).0) ≡ 1)) (sym is) (found m c alone) in
      omega (arith, all, it.0, it.1)
  waits_by m d ds c false other placed all waits there alone next =
      let still = alone_stays homes d m c t alone (comes_none c d (whole homes d m).0 other) (leaves_none c d (whole homes d m).0 other) in
      let rest = waits c (subst (λ (k : ℕ). c < k) (sym (length-whole homes d m)) there) still (later_next c d ds other next) in
      omega (arith, rest, not_taken homes m d c t placed alone)

  bound_by : (m : Machine) (d : Deed) (ds : List Deed) (b : Bool) → pulls_it t d (whole homes d m).0 ≡ b → is_allowed (length m) homes d ≡ true → IsToRun homes m d ds
      → pulls (whole homes d m).1 ds ≤ picks (whole homes d m).1 ds + 1 → Waits (whole homes d m).1 ds
      → count b + pulls (whole homes d m).1 ds ≤ count (picks_it t d (whole homes d m).0) + picks (whole homes d m).1 ds + 1
  bound_by m d ds false e allowed to_run all waits = omega (arith, all)
  bound_by m d ds true e allowed to_run all waits =
      let it : TakesIt homes m d t = takes_it homes m d t e in
      let named : PullNames (length m) it.cpu it.source = pull_names (length m) homes it.cpu it.source (ap (is_allowed (length m) homes) (sym it.is) ∙ allowed) in
      let run = to_run it.cpu it.source t it.is (ap (λ (x : Deed). (whole homes x m).0) it.is ∙ it.answered) in
      let alone : IsAlone (queue_at (whole homes d m).1 it.cpu).runnable t =
      subst (λ (x : Deed). IsAlone (queue_at (whole homes x m).1 it.cpu).runnable t) (sym it.is) (alone_at_first homes m it.cpu it.source t named.puller run.0 it.answered) in
      let rest = waits it.cpu (subst (λ (k : ℕ). it.cpu < k) (sym (length-whole homes d m)) named.puller) alone run.1 in
      omega (arith, rest)

  bounds : (m : Machine) (deeds : List Deed) → AreCpus (length m) homes → IsPlaced homes m → AllAllowed (length m) homes deeds → PullToRun homes m deeds → (pulls m deeds ≤ picks m deeds + 1) × Waits m deeds
  bounds m [] cpus placed allowed to_run = (omega arith, λ c there alone next. omega arith)
  bounds m (d ∷ ds) cpus placed allowed to_run =
      let n : Machine = (whole homes d m).1 in
      let same : length n ≡ length m = length-whole homes d m in
      let rest = bounds n ds (subst (λ (k : ℕ). AreCpus k homes) (sym same) cpus) (whole-placed homes d m allowed.0 cpus placed)
      (subst (λ (k : ℕ). AllAllowed k homes ds) (sym same) allowed.1) to_run.1 in (
        bound_by m d ds (pulls_it t d (whole homes d m).0) refl allowed.0 to_run.0 rest.0 rest.1,
        λ c there alone next. waits_by m d ds c (decider d == c) refl placed rest.0 rest.1 there alone next,
      )

pub pulled_once_per_turn : PickIsFirst → PickOfNobody → PulledOncePerTurn
pulled_once_per_turn first nobody homes m deeds task cpus placed allowed to_run = (bounds first nobody homes task m deeds cpus placed allowed to_run).0
