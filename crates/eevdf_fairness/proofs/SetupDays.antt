-- A setup whose tasks start together near the time 0 opens with fresh queues near it, and stays in range.
use Rattle.std.proofs.Common.{◌≡◌, ℕ, zero, suc, ◌+◌, ◌^◌, ◌<◌, ◌≤◌, Bool, true, false, cond, not, List, [], ◌∷◌, map, length, replicate, Option, Some, None, refl, sym, ap, ◌∙◌, subst, arith}
use Rattle.std.specs.Prelude.{ℤ, pos, unsigned_abs}
use Rattle.std.specs.List.{AllByRecursion, list_all}
use Rattle.std.specs.{Ordering.nat_cmp, Cmp.nat_cmp_total}
use Rattle.std.specs.FinMap.{get, empty, contains_key, len, len-insert, len-empty, get-empty}
use Rattle.eevdf_weight.specs.Limits.{is_in_range}
use Rattle.eevdf_queue.specs.{declared.entry.Entry.Entry, State.State, State.Contents, State.empty_state, Moves.fresh_entry}
use Rattle.eevdf_ops.specs.{declared.deeds.Deed.Deed, declared.deeds.Line.Line, declared.deeds.Answer.Answer}
use Rattle.eevdf_ops.specs.declared.deeds.Answer.TheVariants.{Range}
use Rattle.eevdf_ops.specs.{declared.task_spec.TaskSpec.TaskSpec, Setup.is_allowed, Setup.cpus_of, Setup.homes_of, Programs.deeds_of}
use Rattle.eevdf_ops.specs.Machine.{Machine, queue_at, joined, beginner, begin, begin_at_homes, start}
use Rattle.eevdf_ops.proofs.{MachinePlaces.each-set, Machines.length-begun}
use Rattle.eevdf_fairness.specs.{Opening.OpeningIsFresh, MachineDays.MachinesStayInRange, MachineDays.NoneIsRange}
use Rattle.eevdf_fairness.specs.SetupDays.{OpeningIsNear, SetupsStayInRange, DailyHistoriesAreAlike}
use Rattle.eevdf_fairness.specs.LoweredMachines.{is_range, is_rebase, without_rebases, lines_without_rebases, ranges_in, RebasedHistoriesAreAlike}
use Rattle.eevdf_fairness.proofs.Inequalities.{no_more}
use Rattle.eevdf_fairness.proofs.Growing.{found_after}

-- ---- how many tasks there are
one_more : (b : Bool) (n : ℕ) → cond b n (n + 1) ≤ n + 1
one_more true n = omega arith
one_more false n = omega arith

len_joined : (asleep : Bool) (p : Contents) (q : State) → len (joined asleep p q).runnable ≤ len q.runnable + 1
len_joined true p q = omega arith
len_joined false p q =
    subst (λ (n : ℕ). n ≤ len q.runnable + 1) (sym (len-insert nat_cmp_total q.runnable p.task (fresh_entry p.start p.nice p.slice)))
    (one_more (contains_key q.runnable p.task) (len q.runnable))

empty_there : (n cpu : ℕ) → queue_at (replicate n empty_state) cpu ≡ empty_state
empty_there zero cpu = refl
empty_there (suc n) zero = refl
empty_there (suc n) (suc cpu) = empty_there n cpu

nobody : (n : ℕ) → n ≡ 0 → n ≤ 0
nobody n is = omega (arith, is)

fewer : (a b n : ℕ) → a ≤ b + 1 → b ≤ n → a ≤ suc n
fewer a b n h k = omega (arith, h, k)

longer : (a n : ℕ) → a ≤ n → a ≤ suc n
longer a n h = omega (arith, h)

few_begun : (n task : ℕ) (ts : List TaskSpec) (cpu : ℕ) → len (queue_at (begin_at_homes task ts (replicate n empty_state)) cpu).runnable ≤ length ts
few_begun n task [] cpu =
    nobody (len (queue_at (replicate n empty_state) cpu).runnable) (ap (λ (q : State). len q.runnable) (empty_there n cpu) ∙ len-empty nat_cmp Entry)
few_begun n task (t ∷ ts) cpu =
    let rest : Machine = begin_at_homes (task + 1) ts (replicate n empty_state) in
    each-set (λ k q. len q.runnable ≤ suc (length ts)) rest t.home (begin task t (queue_at rest t.home))
    (fewer (len (begin task t (queue_at rest t.home)).runnable) (len (queue_at rest t.home).runnable) (length ts)
    (len_joined t.asleep (beginner task t) (queue_at rest t.home)) (few_begun n (task + 1) ts t.home))
    (λ k. longer (len (queue_at rest k).runnable) (length ts) (few_begun n (task + 1) ts k)) cpu

-- ---- how long their slices are
abbrev HaveSlices : State → Type 0
HaveSlices q = (t : ℕ) (e : Entry) → get q.runnable t ≡ Some e → e.slice ≤ 100000000

none_found : (t : ℕ) (e : Entry) (o : Option Entry) → o ≡ None → o ≡ Some e → ⊥
none_found t e None none found = cc
none_found t e (Some f) none found = cc

nobody_has : HaveSlices empty_state
nobody_has t e here = absurd (none_found t e (get empty t) (get-empty nat_cmp t) here)

joined_has : (asleep : Bool) (p : Contents) (q : State) → p.slice ≤ 100000000 → HaveSlices q → HaveSlices (joined asleep p q)
joined_has true p q short h = h
joined_has false p q short h = found_after (λ e. e.slice ≤ 100000000) q.runnable p.task (fresh_entry p.start p.nice p.slice) short h

short_begun : (n task : ℕ) (ts : List TaskSpec) (cpu : ℕ) → AllByRecursion (λ (t : TaskSpec). t.slice ≤ 100000000) ts
    → HaveSlices (queue_at (begin_at_homes task ts (replicate n empty_state)) cpu)
short_begun n task [] cpu short = subst HaveSlices (sym (empty_there n cpu)) nobody_has
short_begun n task (t ∷ ts) cpu short =
    let rest : Machine = begin_at_homes (task + 1) ts (replicate n empty_state) in
    each-set (λ k q. HaveSlices q) rest t.home (begin task t (queue_at rest t.home))
    (joined_has t.asleep (beginner task t) (queue_at rest t.home) short.0 (short_begun n (task + 1) ts t.home short.1))
    (λ k. short_begun n (task + 1) ts k short.1) cpu

-- ---- the times that stand
abbrev StandsAtZero : State → Type 0
StandsAtZero q = (q.base ≡ pos 0) × (q.shift ≡ pos 0)

joined_stands : (asleep : Bool) (p : Contents) (q : State) → StandsAtZero q → StandsAtZero (joined asleep p q)
joined_stands true p q h = h
joined_stands false p q h = h

stands_begun : (n task : ℕ) (ts : List TaskSpec) (cpu : ℕ) → StandsAtZero (queue_at (begin_at_homes task ts (replicate n empty_state)) cpu)
stands_begun n task [] cpu = subst StandsAtZero (sym (empty_there n cpu)) (refl, refl)
stands_begun n task (t ∷ ts) cpu =
    let rest : Machine = begin_at_homes (task + 1) ts (replicate n empty_state) in
    each-set (λ k q. StandsAtZero q) rest t.home (begin task t (queue_at rest t.home))
    (joined_stands t.asleep (beginner task t) (queue_at rest t.home) (stands_begun n (task + 1) ts t.home))
    (λ k. stands_begun n (task + 1) ts k) cpu

-- ---- the opening, and a history from there
pub opening_is_near : OpeningIsFresh → OpeningIsNear
opening_is_near law s near cpu below =
    let here = near.near cpu below in
    let stands = stands_begun (cpus_of s) 0 s.tasks cpu in
    record {
      time = here.time;
      near = record {
        fresh = law s cpu here.time here.together;
        near = here.near;
        few = no_more (len (queue_at (start s) cpu).runnable) (length s.tasks) 1024 (few_begun (cpus_of s) 0 s.tasks cpu) near.few;
        slices = short_begun (cpus_of s) 0 s.tasks cpu near.slices;
        based = ap is_in_range stands.0;
        shift = subst (λ (z : ℤ). unsigned_abs z ≤ 2 ^ 119) (sym stands.1) (omega arith);
      };
    }

pub setups_stay_in_range : OpeningIsNear → MachinesStayInRange → SetupsStayInRange
setups_stay_in_range opening law s lines near daily =
    let cpus : length (start s) ≡ cpus_of s = length-begun (cpus_of s) 0 s.tasks in
    law (homes_of s) (start s) lines daily.history
    (subst (λ (n : ℕ). list_all (is_allowed n (homes_of s)) (deeds_of lines) ≡ true) (sym cpus) daily.allowed)
    (λ cpu below. opening s near cpu (subst (λ (n : ℕ). cpu < n) cpus below))
    (λ cpu below. daily.days cpu (subst (λ (n : ℕ). cpu < n) cpus below))

-- ---- two histories
-- where nothing is out of range, it is so of each deed but rebases
not_range : (a : Answer) → (a ≡ Range → ⊥) → is_range a ≡ false
not_range Range fine = absurd (fine refl)
not_range answer fine = refl

quiet_by : (l : Line) (lines : List Line) (b : Bool) → (l.answer ≡ Range → ⊥)
    → map (λ (x : Line). is_range x.answer) (lines_without_rebases lines) ≡ map (λ (d : Deed). false) (without_rebases (deeds_of lines))
    → map (λ (x : Line). is_range x.answer) (cond b (l ∷ lines_without_rebases lines) (lines_without_rebases lines))
    ≡ map (λ (d : Deed). false) (cond b (l.deed ∷ without_rebases (deeds_of lines)) (without_rebases (deeds_of lines)))
quiet_by l lines true fine rest =
    ap (λ (b : Bool). b ∷ map (λ (x : Line). is_range x.answer) (lines_without_rebases lines)) (not_range l.answer fine)
    ∙ ap (λ (bs : List Bool). false ∷ bs) rest
quiet_by l lines false fine rest = rest

quiet : (lines : List Line) → NoneIsRange lines → ranges_in lines ≡ map (λ (d : Deed). false) (without_rebases (deeds_of lines))
quiet [] fine = refl
quiet (l ∷ lines) fine = quiet_by l lines (not (is_rebase l.deed)) fine.0 (quiet lines fine.1)

pub daily_histories_are_alike : SetupsStayInRange → RebasedHistoriesAreAlike → DailyHistoriesAreAlike
daily_histories_are_alike stay law s lines others near daily other same =
    law (homes_of s) (start s) lines others daily.history other.history same
    (quiet lines (stay s lines near daily).lines ∙ ap (λ (ds : List Deed). map (λ (d : Deed). false) ds) same ∙ sym (quiet others (stay s others near other).lines))
