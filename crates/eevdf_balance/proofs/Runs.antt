-- A task that an idle CPU has pulled stays there alone until the CPU picks it.
use Rattle.std.proofs.Common.{◌≡◌, ◌≢◌, ℕ, zero, suc, ◌+◌, ◌<◌, ◌≤◌, Bool, true, false, ◌||◌, List, [], ◌∷◌, length, refl, sym, ap, subst, ◌∙◌, inl, inr, arith}
use Rattle.std.specs.Prelude.{◌==◌, is_some, IsNone, Option, Some, None, Result, Ok, Err}
use Rattle.std.specs.{Option.unwrap_or, Ordering.nat_cmp}
use Rattle.std.specs.FinMap.{empty, contains_key, remove, len, get-empty, empty_of_len, len-empty}
use Rattle.std.proofs.lemmas.{Bool.false≢true}
use Rattle.eevdf_queue.specs.{declared.entry.Entry.Entry, State.State, State.Contents, Sums.Tasks, Moves.sleeper_of, Moves.with_runnable}
use Rattle.eevdf_queue.specs.{Placing.placed_entry, Pick.IsPick, Pick.pick_of, Laws.PickIsFirst, Laws.PickOfNobody}
use Rattle.eevdf_ops.specs.{declared.deeds.Deed.Deed, declared.deeds.Answer.Answer}
use Rattle.eevdf_ops.specs.declared.deeds.Deed.TheVariants.{Pull}
use Rattle.eevdf_ops.specs.declared.deeds.Answer.TheVariants.{Pulled}
use Rattle.eevdf_queue.proofs.Closing.{one_fewer}
use Rattle.eevdf_ops.specs.{Places.count, Machine.Machine, Machine.queue_at, OneQueue.answer_of_pick, Transfers.pulled, Whole.whole, Whole.lines_of, Whole.machine_after}
use Rattle.eevdf_ops.specs.WholePull.{offer, load_of, decision, with_task}
use Rattle.eevdf_ops.proofs.{MapCounts.contains-insert, MapCounts.count-remove, MapCounts.itself as same_number, MapCounts.equal, Pulling.IsTaken, Pulling.decision-taken, Pulling.unpulled, WholeActs.two-left, MachinePlaces.at-most}
use Rattle.eevdf_balance.specs.{Crowds.tasks_at, Crowds.IsIdle, Crowds.comes, Crowds.goes, Crowds.leaves, Refusals.IsRefusal, Runs.AreElsewhere, Runs.PulledRuns}
use Rattle.eevdf_balance.proofs.{Steps.stepped, Crowds.told-by-line, IdlePulls.lone_pull_is_refused}

-- a task is the only runnable one
pub record IsAlone (m : Tasks) (t : ℕ) : Type 0 where
  pub here : contains_key m t ≡ true
  pub one : len m ≤ 1

-- a runnable task stays, where none goes by the line
abbrev Stays : Deed → Answer → ℕ → Tasks → Tasks → Type 0
Stays d a k m n = (t : ℕ) → goes k d a ≡ false → contains_key m t ≡ true → contains_key n t ≡ true

or_right : (b c : Bool) → c ≡ true → (b || c) ≡ true
or_right true c h = refl
or_right false c h = h

stays : (homes : List ℕ) (deed : Deed) (m : Machine) (k : ℕ) → Stays deed (whole homes deed m).0 k (queue_at m k).runnable (queue_at (whole homes deed m).1 k).runnable
stays = stepped Stays (λ d a k m n h t no here. h.each t ∙ here) (λ d a k m t yes u no here. absurd (false≢true (sym no ∙ yes)))
    (λ d a k m t e yes u no here. contains-insert m t u e ∙ or_right (u == t) (contains_key m u) here)

-- what is refused moves nobody
refused_stays : (cpu source k : ℕ) (a : Answer) → IsRefusal a → goes k (Pull cpu source) a ≡ false
refused_stays cpu source k a (inl h) = ap (λ (x : Answer). goes k (Pull cpu source) x) h
refused_stays cpu source k a (inr h) = ap (λ (x : Answer). goes k (Pull cpu source) x) h

goes_by : (homes : List ℕ) (m : Machine) (k cpu source : ℕ) (b : Bool) → (source == k) ≡ b → tasks_at m k ≤ 1 → goes k (Pull cpu source) (whole homes (Pull cpu source) m).0 ≡ false
goes_by homes m k cpu source true e few =
    let is : source ≡ k = equal source k e in
    refused_stays cpu source k (whole homes (Pull cpu source) m).0 (lone_pull_is_refused homes m cpu source (subst (λ (c : ℕ). tasks_at m c ≤ 1) (sym is) few))
goes_by homes m k cpu source false e few = apart_by (whole homes (Pull cpu source) m).0
  where
    apart_by : (a : Answer) → goes k (Pull cpu source) a ≡ false
    apart_by (Pulled task) = e
    apart_by a = refl

-- while nobody sleeps or ends on a CPU with one task, none goes
none_goes : (homes : List ℕ) (deed : Deed) (m : Machine) (k : ℕ) → tasks_at m k ≤ 1 → leaves k deed (whole homes deed m).0 ≡ false → goes k deed (whole homes deed m).0 ≡ false
none_goes homes (Pull cpu source) m k few none = goes_by homes m k cpu source (source == k) refl few
none_goes homes deed m k few none = none

pub alone_stays : (homes : List ℕ) (deed : Deed) (m : Machine) (k t : ℕ) → IsAlone (queue_at m k).runnable t → comes k deed (whole homes deed m).0 ≡ false → leaves k deed (whole homes deed m).0 ≡ false
    → IsAlone (queue_at (whole homes deed m).1 k).runnable t
alone_stays homes deed m k t alone none_comes none_leaves = record {
  here = stays homes deed m k t (none_goes homes deed m k alone.one none_leaves) alone.here;
  one =
      let step : tasks_at (whole homes deed m).1 k ≤ tasks_at m k + count (comes k deed (whole homes deed m).0) = (told-by-line homes deed m k).0 in
      omega (arith, step, ap count none_comes, alone.one);
}

alone_after : (homes : List ℕ) (m : Machine) (later : List Deed) (k t : ℕ) → IsAlone (queue_at m k).runnable t → AreElsewhere k (lines_of homes m later) → IsAlone (queue_at (machine_after homes m later) k).runnable t
alone_after homes m [] k t alone elsewhere = alone
alone_after homes m (d ∷ ds) k t alone elsewhere = alone_after homes (whole homes d m).1 ds k t (alone_stays homes d m k t alone elsewhere.0 elsewhere.1) elsewhere.2

-- one task is no two
counted : (b : Bool) → b ≡ true → count b ≡ 1
counted b h = ap count h

only_one : (m : Tasks) (t u : ℕ) (b : Bool) → (u == t) ≡ b → IsAlone m t → contains_key m u ≡ true → u ≡ t
only_one m t u true e alone there = equal u t e
only_one m t u false e alone there =
    let left : count (contains_key (remove m t) u) + count (u == t) ≡ count (contains_key m u) = count-remove m t u alone.here in
    let none : len (remove m t) ≡ 0 = (let fewer = one_fewer m t alone.here in omega (arith, fewer, alone.one)) in
    let absent : contains_key (remove m t) u ≡ false = ap (λ (n : Tasks). contains_key n u) (empty_of_len (remove m t) none) ∙ ap is_some (get-empty nat_cmp u) in
    absurd (let no : ⊥ = omega (arith, left, ap count absent, ap count e, ap count there) in no)

pub picked_by : (m : Tasks) (t : ℕ) (o : Option ℕ) → PickIsFirst → PickOfNobody → pick_of m ≡ o → IsAlone m t → o ≡ Some t
picked_by m t None first nobody is alone =
    let none : m ≡ empty = (nobody m).0 (subst (λ (o : Option ℕ). IsNone o) (sym is) refl) in
    absurd (false≢true (sym (ap (λ (n : Tasks). contains_key n t) none ∙ ap is_some (get-empty nat_cmp t)) ∙ alone.here))
picked_by m t (Some u) first nobody is alone =
    let pick : IsPick m u = first m u is in
    ap Some (only_one m t u (u == t) refl alone (ap is_some pick.eligible.here))

-- a CPU that has a task is one of the machine
there : (m : Machine) (k : ℕ) → 1 ≤ tasks_at m k → k < length m
there [] k h = absurd (let no : ⊥ = omega (arith, h, len-empty nat_cmp) in no)
there (q ∷ m) zero h = omega arith
there (q ∷ m) (suc k) h = omega (arith, there m k h)

-- the task that is pulled
joined_by : (q : State) (t : ℕ) (o : Option Entry) → is_some o ≡ true → contains_key (unwrap_or (with_runnable q t o) q).runnable t ≡ true
joined_by q t None room = absurd (false≢true room)
joined_by q t (Some e) room = contains-insert q.runnable t t e ∙ ap (λ (b : Bool). b || contains_key q.runnable t) (same_number t)

pulled_by : (q s : State) (task : ℕ) (d : Result Contents Answer) → decision q (load_of s) (offer s) ≡ d → (pulled d q s).0 ≡ Pulled task → contains_key (pulled d q s).1.0.runnable task ≡ true
pulled_by q s task (Err why) is answered = absurd (unpulled q (load_of s) task (offer s) why is answered)
pulled_by q s task (Ok p) is answered =
    let same : p.task ≡ task = cc in
    let taken : IsTaken q (load_of s) (offer s) p = decision-taken q (load_of s) (offer s) p is in
    subst (λ (t : ℕ). contains_key (with_task q p).runnable t ≡ true) same (joined_by q p.task (placed_entry q (sleeper_of p)) taken.room)

refused_not : (a : Answer) (t : ℕ) → IsRefusal a → a ≡ Pulled t → ⊥
refused_not a t (inl h) e = cc
refused_not a t (inr h) e = cc

pub crowded_by : (homes : List ℕ) (m : Machine) (cpu source task : ℕ) → (whole homes (Pull cpu source) m).0 ≡ Pulled task → tasks_at m source ≤ 1 → ⊥
crowded_by homes m cpu source task answered few = refused_not (whole homes (Pull cpu source) m).0 task (lone_pull_is_refused homes m cpu source few) answered

more_than_one : (n : ℕ) → (n ≤ 1 → ⊥) → 2 ≤ n
more_than_one zero h = absurd (h (omega arith))
more_than_one (suc zero) h = absurd (h (omega arith))
more_than_one (suc (suc n)) h = omega arith

pub alone_at_first : (homes : List ℕ) (m : Machine) (cpu source task : ℕ) → cpu < length m → IsIdle m cpu → (whole homes (Pull cpu source) m).0 ≡ Pulled task
    → IsAlone (queue_at (whole homes (Pull cpu source) m).1 cpu).runnable task
alone_at_first homes m cpu source task own idle answered =
    let q : State = queue_at m cpu in
    let s : State = queue_at m source in
    let many : 2 ≤ tasks_at m source = more_than_one (tasks_at m source) (crowded_by homes m cpu source task answered) in
    let apart : cpu ≢ source = λ same. let no : ⊥ = omega (arith, ap (tasks_at m) same, idle, many) in no in
    let d : Result Contents Answer = decision q (load_of s) (offer s) in
    let left = two-left m cpu source (pulled d q s) apart own (there m source (omega (arith, many))) in
    let step : tasks_at (whole homes (Pull cpu source) m).1 cpu ≤ tasks_at m cpu + count (comes cpu (Pull cpu source) (whole homes (Pull cpu source) m).0) = (told-by-line homes (Pull cpu source) m cpu).0 in
    record {
      here = ap (λ (r : State). contains_key r.runnable task) left.0 ∙ pulled_by q s task d refl answered;
      one = omega (arith, step, idle, at-most (comes cpu (Pull cpu source) (whole homes (Pull cpu source) m).0));
    }

pub pulled_runs : PickIsFirst → PickOfNobody → PulledRuns
pulled_runs first nobody homes m cpu source task later own idle answered elsewhere =
    let n : Machine = (whole homes (Pull cpu source) m).1 in
    let after : Machine = machine_after homes n later in
    let alone : IsAlone (queue_at after cpu).runnable task = alone_after homes n later cpu task (alone_at_first homes m cpu source task own idle answered) elsewhere in
    ap answer_of_pick (picked_by (queue_at after cpu).runnable task (pick_of (queue_at after cpu).runnable) first nobody refl alone)
