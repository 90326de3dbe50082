-- Each task of the machine stays as the setup gives it.
use Rattle.std.proofs.Common.{◌≡◌, ℕ, zero, suc, ◌+◌, zero-add, Bool, true, false, ◌||◌, List, [], ◌∷◌, set, replicate, refl, sym, ap, subst, ◌∙◌, arith}
use Rattle.std.specs.Prelude.{ℤ, slice_get, Option, Some, None, Result, Ok, Err}
use Rattle.std.proofs.{lemmas.Bool.false≢true}
use Rattle.eevdf_queue.specs.State.{State, Contents, empty_state}
use Rattle.eevdf_queue.specs.{Tick.tick, Pick.after_pick, Yield.yield_now, Wake.wake, Renice.renice, Rebase.rebase}
use Rattle.eevdf_queue.specs.Attributes as attributes
use Rattle.eevdf_queue.specs.{Leaving.carried_running, Leaving.leave, Moves.put_asleep}
use Rattle.eevdf_ops.specs.{declared.task_spec.TaskSpec.TaskSpec, declared.deeds.Answer.Answer, declared.deeds.Deed.Deed}
use Rattle.eevdf_ops.specs.{LocalActs.dozed_here, LocalActs.slept_here, Transfers.slept_away, Transfers.pulled, Whole.whole, Whole.machine_after}
use Rattle.eevdf_ops.specs.declared.deeds.Deed.TheVariants.{Tick, Pick, Yield, Sleep, Doze, Wake, Pull, Renice, Begin, End, Set, Rebase}
use Rattle.eevdf_ops.specs.Setup.{home_of, homes_of, cpus_of}
use Rattle.eevdf_ops.specs.Machine.{Machine, queue_at, begin, beginner, begin_at_homes, start}
use Rattle.eevdf_ops.specs.{WholePull.offer, WholePull.load_of, WholePull.decision, WholeEnd.ending}
use Rattle.eevdf_ops.specs.Given.{renices, is_reniced, sets, is_set, IsAsGiven, TasksStayAsGiven}
use Rattle.eevdf_ops.proofs.{MapCounts.itself, MachinePlaces.each-set, Pulling.decision-taken, WholeActs.sleep_by_home, WholeActs.doze_by_home, WholeActs.end_by_home}
use Rattle.eevdf_ops.proofs.QueuePlaces.{owed}
use Rattle.eevdf_ops.proofs.QueueValues.{
  Each,
  asleep-each,
  empty-each,
  tick-each,
  pick-each,
  yield-each,
  wake-each,
  leave-each,
  renice-each,
  begin-each,
  set-each as set-given,
  rebase-each,
  running-given,
  ending-given,
  offer-given,
  with_task-each,
  joined-each,
}

or_left : (b c : Bool) → b ≡ true → (b || c) ≡ true
or_left true c h = refl
or_left false c h = absurd (false≢true h)

or_right : (b c : Bool) → c ≡ true → (b || c) ≡ true
or_right true c h = refl
or_right false c h = h

module _ (P : ℕ → ℤ → ℕ → Type 0) where
  abbrev pub Everywhere : Machine → Type 0
  Everywhere m = (k : ℕ) → Each P (queue_at m k)

  -- a task that a deed is to give another nice level may have any
  abbrev MayRenice : (ℕ → Bool) → Type 0
  MayRenice test = (t : ℕ) (older nice : ℤ) (slice : ℕ) → test t ≡ true → P t older slice → P t nice slice

  -- and one that a deed is to give another nice level and slice, any two
  abbrev MaySet : (ℕ → Bool) → Type 0
  MaySet test = (t : ℕ) (older nice : ℤ) (slice newer : ℕ) → test t ≡ true → P t older slice → P t nice newer

  pub set-each : (m : Machine) (c : ℕ) (q : State) → Each P q → Everywhere m → Everywhere (set m c q)
  set-each m c q each all = each-set (λ k r. Each P r) m c q each all

  -- two queues are written
  two-each : (m : Machine) (c d : ℕ) (two : State × State) → Each P two.0 × Each P two.1 → Everywhere m → Everywhere (set (set m c two.0) d two.1)
  two-each m c d two each all = set-each (set m c two.0) d two.1 each.1 (set-each m c two.0 each.0 all)

  here-each : (q : State) (o : Option Contents) → Each P q → ((p : Contents) → o ≡ Some p → P p.task p.nice p.slice) → Each P (slept_here o q).1
  here-each q None each given = each
  here-each q (Some p) each given = asleep-each P (leave q p.task) p (leave-each P q p.task each) (given p refl)

  dozed-each : (q : State) (o : Option Contents) → Each P q → ((p : Contents) → o ≡ Some p → P p.task p.nice p.slice) → Each P (dozed_here o q).1
  dozed-each q None each given = each
  dozed-each q (Some p) each given =
      let rests : Each P (put_asleep (leave q p.task) (owed p)) = asleep-each P (leave q p.task) (owed p) (leave-each P q p.task each) (given p refl) in
      record { runnable = rests.runnable; asleep = rests.asleep }

  away-each : (q r : State) (o : Option Contents) → Each P q → Each P r → ((p : Contents) → o ≡ Some p → P p.task p.nice p.slice) → Each P (slept_away o q r).1.0 × Each P (slept_away o q r).1.1
  away-each q r None one two given = (one, two)
  away-each q r (Some p) one two given = (leave-each P q p.task one, asleep-each P r p two (given p refl))

  pulled-each : (q r : State) (d : Result Contents Answer) → Each P q → Each P r → ((p : Contents) → d ≡ Ok p → P p.task p.nice p.slice) → Each P (pulled d q r).1.0 × Each P (pulled d q r).1.1
  pulled-each q r (Err refusal) one two given = (one, two)
  pulled-each q r (Ok p) one two given = (with_task-each P q p one (given p refl), leave-each P r p.task two)

  pub whole-each : (homes : List ℕ) (deed : Deed) (m : Machine) → MayRenice (renices deed) → MaySet (sets deed) → Everywhere m → Everywhere (whole homes deed m).1
  whole-each homes (Tick cpu ns) m may set all = set-each m cpu (tick (queue_at m cpu) ns).1 (tick-each P (queue_at m cpu) ns (all cpu)) all
  whole-each homes (Pick cpu) m may set all = set-each m cpu (after_pick (queue_at m cpu)) (pick-each P (queue_at m cpu) (all cpu)) all
  whole-each homes (Yield cpu) m may set all = set-each m cpu (yield_now (queue_at m cpu)).1 (yield-each P (queue_at m cpu) (all cpu)) all
  whole-each homes (Sleep cpu task) m may set all =
      let o : Option Contents = carried_running (queue_at m cpu) task in
      let given : (p : Contents) → o ≡ Some p → P p.task p.nice p.slice = λ p e. running-given P (queue_at m cpu) task p (all cpu) e in
      sleep_by_home (λ (r : Answer × Machine). Everywhere r.1) homes cpu task m (λ e. set-each m cpu _ (here-each (queue_at m cpu) o (all cpu) given) all)
      (λ e. two-each m cpu (home_of homes task) _ (away-each (queue_at m cpu) (queue_at m (home_of homes task)) o (all cpu) (all (home_of homes task)) given) all)
  whole-each homes (Doze cpu task) m may set all =
      let o : Option Contents = carried_running (queue_at m cpu) task in
      let given : (p : Contents) → o ≡ Some p → P p.task p.nice p.slice = λ p e. running-given P (queue_at m cpu) task p (all cpu) e in
      doze_by_home (λ (r : Answer × Machine). Everywhere r.1) homes cpu task m (λ e. set-each m cpu _ (dozed-each (queue_at m cpu) o (all cpu) given) all)
      (λ e. two-each m cpu (home_of homes task) _ (away-each (queue_at m cpu) (queue_at m (home_of homes task)) o (all cpu) (all (home_of homes task)) given) all)
  whole-each homes (Wake cpu task sender) m may set all = set-each m cpu (wake (queue_at m cpu) task).1 (wake-each P (queue_at m cpu) task (all cpu)) all
  whole-each homes (Renice cpu task nice) m may set all =
      set-each m cpu (renice (queue_at m cpu) task nice).1
      (renice-each P (queue_at m cpu) task nice (λ older slice p. may task older nice slice (itself task) p) (all cpu)) all
  whole-each homes (Begin cpu task nice slice) m may set all =
      set-each m cpu (attributes.begin (queue_at m cpu) task nice slice) (begin-each P task (λ older newer kept given p. set task older newer kept given (itself task) p) (queue_at m cpu) nice slice (all cpu)) all
  whole-each homes (End cpu task) m may set all =
      let o : Option Contents = ending (queue_at m cpu) task in
      let given : (p : Contents) → o ≡ Some p → P p.task p.nice p.slice = λ p e. ending-given P (queue_at m cpu) task p (all cpu) e in
      end_by_home (λ (r : Answer × Machine). Everywhere r.1) homes cpu task m
      (λ e. set-each m cpu _ (here-each (queue_at m cpu) o (all cpu) given) all)
      (λ e. two-each m cpu (home_of homes task) _ (away-each (queue_at m cpu) (queue_at m (home_of homes task)) o (all cpu) (all (home_of homes task)) given) all)
  whole-each homes (Set cpu task nice slice) m may set all =
      set-each m cpu (attributes.set (queue_at m cpu) task nice slice).1
      (set-given P task (λ older newer kept given p. set task older newer kept given (itself task) p) (queue_at m cpu) nice slice (all cpu)) all
  whole-each homes (Rebase cpu) m may set all = set-each m cpu (rebase (queue_at m cpu)).1 (rebase-each P (queue_at m cpu) (all cpu)) all
  whole-each homes (Pull cpu source) m may set all =
      two-each m cpu source _ (pulled-each (queue_at m cpu) (queue_at m source) (decision (queue_at m cpu) (load_of (queue_at m source)) (offer (queue_at m source))) (all cpu) (all source)
      (λ p e. offer-given P (queue_at m source) p (all source) (decision-taken (queue_at m cpu) (load_of (queue_at m source)) (offer (queue_at m source)) p e).offered_it)) all

  after-each : (homes : List ℕ) (deeds : List Deed) (m : Machine) → MayRenice (is_reniced deeds) → MaySet (is_set deeds) → Everywhere m → Everywhere (machine_after homes m deeds)
  after-each homes [] m may set all = all
  after-each homes (d ∷ ds) m may set all =
      after-each homes ds (whole homes d m).1 (λ t older nice slice r p. may t older nice slice (or_right (renices d t) (is_reniced ds t) r) p)
      (λ t older nice slice newer r p. set t older nice slice newer (or_right (sets d t) (is_set ds t) r) p)
      (whole-each homes d m (λ t older nice slice r p. may t older nice slice (or_left (renices d t) (is_reniced ds t) r) p)
      (λ t older nice slice newer r p. set t older nice slice newer (or_left (sets d t) (is_set ds t) r) p) all)

  pub nobody-each : (n : ℕ) → Everywhere (replicate n empty_state)
  nobody-each zero k = empty-each P
  nobody-each (suc n) zero = empty-each P
  nobody-each (suc n) (suc k) = nobody-each n k

  -- the tasks that begin, numbered from a number on
  abbrev BeginAs : ℕ → List TaskSpec → Type 0
  BeginAs task ts = (i : ℕ) (t : TaskSpec) → slice_get ts i ≡ Some t → P (task + i) t.nice t.slice

  later : (task : ℕ) (t : TaskSpec) (ts : List TaskSpec) → BeginAs task (t ∷ ts) → BeginAs (task + 1) ts
  later task t ts given i u e = let next : task + suc i ≡ task + 1 + i = omega arith in subst (λ (k : ℕ). P k u.nice u.slice) next (given (suc i) u e)

  first : (task : ℕ) (t : TaskSpec) (ts : List TaskSpec) → BeginAs task (t ∷ ts) → P task t.nice t.slice
  first task t ts given = let same : task + 0 ≡ task = omega arith in subst (λ (k : ℕ). P k t.nice t.slice) same (given 0 t refl)

  pub begun-each : (task : ℕ) (ts : List TaskSpec) (m : Machine) → BeginAs task ts → Everywhere m → Everywhere (begin_at_homes task ts m)
  begun-each task [] m given all = all
  begun-each task (t ∷ ts) m given all =
      let rest : Everywhere (begin_at_homes (task + 1) ts m) = begun-each (task + 1) ts m (later task t ts given) all in
      let q : State = queue_at (begin_at_homes (task + 1) ts m) t.home in
      set-each (begin_at_homes (task + 1) ts m) t.home (begin task t q) (joined-each P t.asleep (beginner task t) q (rest t.home) (first task t ts given)) rest

  reached-each : (homes : List ℕ) (n : ℕ) (ts : List TaskSpec) (deeds : List Deed) → BeginAs 0 ts → MayRenice (is_reniced deeds) → MaySet (is_set deeds)
      → Everywhere (machine_after homes (begin_at_homes 0 ts (replicate n empty_state)) deeds)
  reached-each homes n ts deeds given may set =
      after-each homes deeds (begin_at_homes 0 ts (replicate n empty_state)) may set (begun-each 0 ts (replicate n empty_state) given (nobody-each n))

may_renice : (ts : List TaskSpec) (deeds : List Deed) (t : ℕ) (older nice : ℤ) (slice : ℕ) → is_reniced deeds t ≡ true → IsAsGiven ts deeds t older slice → IsAsGiven ts deeds t nice slice
may_renice ts deeds t older nice slice r h = record {
  spec = h.spec;
  given = h.given;
  same_slice = h.same_slice;
  same_nice = λ e. absurd (false≢true (sym e ∙ r));
}

-- a deed that gives a task another nice level and slice gives it another nice level
set_reniced : (deeds : List Deed) (t : ℕ) → is_set deeds t ≡ true → is_reniced deeds t ≡ true
set_reniced [] t h = absurd (false≢true h)
set_reniced (d ∷ ds) t h = one_set (sets d t) (renices d t) (is_set ds t) (is_reniced ds t) (by_deed d t) (set_reniced ds t) h
  where
    one_set : (a b c d : Bool) → (a ≡ true → b ≡ true) → (c ≡ true → d ≡ true) → (a || c) ≡ true → (b || d) ≡ true
    one_set true b c d f g h = or_left b d (f refl)
    one_set false b c d f g h = or_right b d (g h)

    by_deed : (d : Deed) (t : ℕ) → sets d t ≡ true → renices d t ≡ true
    by_deed (Begin cpu task nice slice) t h = h
    by_deed (Set cpu task nice slice) t h = h
    by_deed deed t h = absurd (false≢true h)

may_set : (ts : List TaskSpec) (deeds : List Deed) (t : ℕ) (older nice : ℤ) (slice newer : ℕ) → is_set deeds t ≡ true → IsAsGiven ts deeds t older slice → IsAsGiven ts deeds t nice newer
may_set ts deeds t older nice slice newer r h = record {
  spec = h.spec;
  given = h.given;
  same_slice = λ e. absurd (false≢true (sym e ∙ r));
  same_nice = λ e. absurd (false≢true (sym e ∙ set_reniced deeds t r));
}

begins_as_given : (ts : List TaskSpec) (deeds : List Deed) (i : ℕ) (t : TaskSpec) → slice_get ts i ≡ Some t → IsAsGiven ts deeds (0 + i) t.nice t.slice
begins_as_given ts deeds i t e = record {
  spec = t;
  given = ap (slice_get ts) (zero-add i) ∙ e;
  same_slice = λ h. refl;
  same_nice = λ h. refl;
}

pub tasks_stay_as_given : TasksStayAsGiven
tasks_stay_as_given s deeds cpu =
    let each : Each (IsAsGiven s.tasks deeds) (queue_at (machine_after (homes_of s) (start s) deeds) cpu) =
    reached-each (IsAsGiven s.tasks deeds) (homes_of s) (cpus_of s) s.tasks deeds (begins_as_given s.tasks deeds) (may_renice s.tasks deeds) (may_set s.tasks deeds) cpu in
    record { runnable = each.runnable; asleep = each.asleep }
