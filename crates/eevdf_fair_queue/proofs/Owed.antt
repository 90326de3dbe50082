-- What tasks are owed of the CPU, as each call leaves it.
use Rattle.std.proofs.Common.{◌≡◌, ℕ, ◌+◌, ◌*◌, ◌≤◌, ◌^◌, Bool, true, false, cond, Option, Some, None, refl, sym, ap, ◌∙◌, subst, arith}
use Rattle.std.specs.Prelude.{ℤ, pos, neg_ℤ, ◌+ℤ◌, ◌-ℤ◌, ◌*ℤ◌, ◌≤ℤ◌, ◌==◌, nat_lt}
use Rattle.std.specs.{Option.option_map, FinMap.get, FinMap.insert}
use Rattle.std.proofs.{lemmas.Int.ints}
use Rattle.eevdf_weight.specs.{Weight.weight_of}
use Rattle.eevdf_queue.specs.{declared.entry.Entry.Entry, State.State, Sums.Tasks, Sums.total_weight, Sums.virtual_time}
use Rattle.eevdf_queue.specs.declared.answers.TickAnswer.TheVariants.{Charged}
use Rattle.eevdf_queue.specs.declared.answers.YieldAnswer.{YieldAnswer}
use Rattle.eevdf_queue.specs.declared.answers.YieldAnswer.TheVariants as yields
use Rattle.eevdf_queue.specs.declared.answers.YieldAnswer.TheVariants.{Yielded}
use Rattle.eevdf_weight.specs.Limits.{is_in_range}
use Rattle.eevdf_queue.specs.{Tick.tick, Tick.charged as charged_entry, Yield.yielded, Yield.yield_entry, Yield.yield_running}
use Rattle.eevdf_queue.specs.{Rebase.rebased, Rebase.can_rebase, Rebase.lowered_entry, Rebase.lowered_tasks}
use Rattle.eevdf_queue.proofs.LoweredMaps.{get-lowered, weight-lowered}
use Rattle.eevdf_fairness.proofs.EntrySums.{same_weight, sum_insert, sum_over, weight, weights}
use Rattle.eevdf_fairness.proofs.Growing.{Grown, charged_grown, get_here}
use Rattle.eevdf_ops.proofs.MapCounts.{equal}
use Rattle.eevdf_dozes.proofs.Ticking.{tick_cases, other_entry}
use Rattle.eevdf_fair_queue.specs.{declared.share_clock.ShareMark.ShareMark, Fair.FairView}
use Rattle.eevdf_fair_queue.specs.ShareClock.{Clock, is_clock, checked_clock, later, settled, reloaded, unless_long, charged, lowered, parts_up}
use Rattle.eevdf_fair_queue.specs.Owed.{load_of, charged_from, reloaded_from, Share, with_share, past_mark, IsTold, IsOwed, KeepsShares, KeepsSharesOfOthers, GivesShares, SharesAreTold}
use Rattle.eevdf_fair_queue.proofs.MeanTimes.{weighs}
use Rattle.eevdf_fair_queue.proofs.Orders.{one}
use Rattle.eevdf_fair_queue.proofs.ExactShares.{charged_other, charged_itself, by_parts, at_load, rounded_up, gone_on, run_on, both_lower, settled_on}

-- ---- what a clock tells
told_as : (c d : Clock) (W X : ℕ) (v : ℤ) (w : ℕ) (m : ShareMark) (s : Share) (served : ℕ) → d ≡ c → X ≡ W
    → IsTold c.settled c.since W v w m s served → IsTold d.settled d.since X v w m s served
told_as c d W X v w m s served same load told =
    subst (λ (x : Clock). IsTold x.settled x.since X v w m s served) (sym same)
    (subst (λ (n : ℕ). IsTold c.settled c.since n v w m s served) (sym load) told)

-- of a task at the same place, of the same level
pub told_of : (c : Clock) (W : ℕ) (v u : ℤ) (nice level : ℤ) (m : ShareMark) (s : Share) (served : ℕ) → u ≡ v → level ≡ nice
    → IsTold c.settled c.since W v (weight_of nice) m s served → IsTold c.settled c.since W u (weight_of level) m s served
told_of c W v u nice level m s served same kind told =
    subst (λ (x : ℤ). IsTold c.settled c.since W x (weight_of level) m s served) (sym same)
    (subst (λ (x : ℤ). IsTold c.settled c.since W v (weight_of x) m s served) (sym kind) told)

-- once it has settled, whichever the load is then
checked : (z : ℤ) (W : ℕ) (v : ℤ) (w : ℕ) (m : ShareMark) (s : Share) (served : ℕ) → IsTold (Some z) 0 W v w m s served
    → IsTold (checked_clock z) 0 W v w m s served
checked z W v w m s served told =
    by (is_clock z)
  where
    by : (b : Bool) → IsTold (cond b (Some z) None) 0 W v w m s served
    by true = told
    by false = tt

settles : (o : Option ℤ) (since W X : ℕ) (v : ℤ) (w : ℕ) (m : ShareMark) (s : Share) (served : ℕ) → 1 ≤ W
    → IsTold o since W v w m s served → IsTold (later o (pos (parts_up since W))) 0 X v w m s served
settles None since W X v w m s served some told = tt
settles (Some z) since W X v w m s served some told =
    let y : ℤ = (z -ℤ (v *ℤ pos (2 ^ 32))) -ℤ m.standing in
    let q : ℕ = parts_up since W in
    let at : ((z +ℤ pos q) -ℤ (v *ℤ pos (2 ^ 32))) -ℤ m.standing ≡ y +ℤ pos q = settled_on z (v *ℤ pos (2 ^ 32)) m.standing (pos q) in
    checked (z +ℤ pos q) X v w m s served
    (subst (λ (k : ℤ). pos (s.over * (2 ^ 42 * X)) ≤ℤ (pos (s.under * (served * (2 ^ 42 * X))) +ℤ (((k *ℤ pos X) +ℤ pos (0 * 2 ^ 42)) *ℤ pos (s.under * w)))) (sym at)
    (at_load s.over s.under served (2 ^ 42) X w (y +ℤ pos q)
    (by_parts s.over s.under served (2 ^ 42) W w since q y told some (rounded_up (since * 2 ^ 42) W some))))

pub reloads : (c : Clock) (W X : ℕ) (v : ℤ) (w : ℕ) (m : ShareMark) (s : Share) (served : ℕ) → 1 ≤ W
    → IsTold c.settled c.since W v w m s served → IsTold (reloaded c W X).settled (reloaded c W X).since X v w m s served
reloads c W X v w m s served some told =
    by (W == X) refl
  where
    by : (b : Bool) → (W == X) ≡ b → IsTold (cond b c (settled c W)).settled (cond b c (settled c W)).since X v w m s served
    by true is = subst (λ (n : ℕ). IsTold c.settled c.since n v w m s served) (equal W X is) told
    by false is = settles c.settled c.since W X v w m s served some told

pub lowers : (o : Option ℤ) (since W : ℕ) (v by : ℤ) (w : ℕ) (m : ShareMark) (s : Share) (served : ℕ)
    → IsTold o since W v w m s served → IsTold (later o (neg_ℤ (by *ℤ pos (2 ^ 32)))) since W (v -ℤ by) w m s served
lowers None since W v by w m s served told = tt
lowers (Some z) since W v by w m s served told =
    at (is_clock (z +ℤ neg_ℤ (by *ℤ pos (2 ^ 32))))
  where
    at : (b : Bool) → IsTold (cond b (Some (z +ℤ neg_ℤ (by *ℤ pos (2 ^ 32)))) None) since W (v -ℤ by) w m s served
    at true =
        subst (λ (k : ℤ). pos (s.over * (2 ^ 42 * W)) ≤ℤ (pos (s.under * (served * (2 ^ 42 * W))) +ℤ (((k *ℤ pos W) +ℤ pos (since * 2 ^ 42)) *ℤ pos (s.under * w))))
        (sym (both_lower z v m.standing by (2 ^ 32))) told
    at false = tt

-- ---- a charge
pub ran_other : (o : Option ℤ) (since W : ℕ) (v : ℤ) (w : ℕ) (m : ShareMark) (s : Share) (served ns : ℕ) → IsTold o since W v w m s served
    → IsTold o (since + ns) W v w m (with_share s w W ns) served
ran_other None since W v w m s served ns told = tt
ran_other (Some z) since W v w m s served ns told =
    let y : ℤ = (z -ℤ (v *ℤ pos (2 ^ 32))) -ℤ m.standing in
    subst (λ (k : ℤ). pos ((s.over * W + w * ns * s.under) * (2 ^ 42 * W)) ≤ℤ (pos (s.under * W * (served * (2 ^ 42 * W))) +ℤ (k *ℤ pos (s.under * W * w))))
    (sym (gone_on y W since ns (2 ^ 42)))
    (charged_other s.over s.under served (2 ^ 42 * W) (2 ^ 42) W w ns ((y *ℤ pos W) +ℤ pos (since * 2 ^ 42)) told refl)

pub ran_itself : (o : Option ℤ) (since W : ℕ) (v : ℤ) (w c : ℕ) (m : ShareMark) (s : Share) (served ns : ℕ) → c * w ≤ 1024 * ns
    → IsTold o since W v w m (with_share s w W ns) served
    → IsTold o since W (v +ℤ pos c) w m (with_share s w W ns) (served + ns)
ran_itself None since W v w c m s served ns little told = tt
ran_itself (Some z) since W v w c m s served ns little told =
    subst (λ (k : ℤ). pos ((s.over * W + w * ns * s.under) * (2 ^ 42 * W)) ≤ℤ (pos (s.under * W * ((served + ns) * (2 ^ 42 * W))) +ℤ (k *ℤ pos (s.under * W * w))))
    (sym (run_on z v m.standing W c (2 ^ 32) (pos (since * 2 ^ 42))))
    (charged_itself (pos ((s.over * W + w * ns * s.under) * (2 ^ 42 * W))) s.under served (2 ^ 42 * W) (2 ^ 32) (2 ^ 42) W w ns c
    (past_mark z since W v m.standing) told refl refl little)

pub long : (c : Clock) (W : ℕ) (v : ℤ) (w : ℕ) (m : ShareMark) (s : Share) (served : ℕ) → 1 ≤ W
    → IsTold c.settled c.since W v w m s served → IsTold (unless_long c W).settled (unless_long c W).since W v w m s served
long c W v w m s served some told =
    by (nat_lt c.since (2 ^ 63))
  where
    by : (b : Bool) → IsTold (cond b c (settled c W)).settled (cond b c (settled c W)).since W v w m s served
    by true = told
    by false = settles c.settled c.since W W v w m s served some told

-- ---- calls that take no time
some_load : (f : FairView) (task : ℕ) (m : ShareMark) (s : Share) (served : ℕ) → IsOwed f task m s served → 1 ≤ load_of f
some_load f task m s served owed = weighs f.queue.state.runnable task owed.entry owed.here

others_keep : (f g : FairView) → g.clock ≡ reloaded_from f g → KeepsSharesOfOthers f g
others_keep f g clock task m s served was owed =
    let same : owed.entry ≡ was.before = one owed.entry was.before (get f.queue.state.runnable task) owed.here was.here in
    record {
      entry = was.after;
      here = was.there;
      told = told_as (reloaded_from f g) g.clock (load_of g) (load_of g) was.after.v (weight_of was.after.nice) m s served clock refl
          (reloads f.clock (load_of f) (load_of g) was.after.v (weight_of was.after.nice) m s served (some_load f task m s served owed)
          (told_of f.clock (load_of f) owed.entry.v was.after.v owed.entry.nice was.after.nice m s served
          (was.runtime ∙ ap (λ (x : Entry). x.v) (sym same)) (was.level ∙ ap (λ (x : Entry). x.nice) (sym same)) owed.told));
    }

stay_told : (f g : FairView) → g.queue.state.runnable ≡ f.queue.state.runnable → g.clock ≡ f.clock → KeepsShares f g
stay_told f g tasks clock task m s served owed = record {
  entry = owed.entry;
  here = ap (λ (x : Tasks). get x task) tasks ∙ owed.here;
  told = told_as f.clock g.clock (load_of f) (load_of g) owed.entry.v (weight_of owed.entry.nice) m s served clock (ap total_weight tasks) owed.told;
}

-- ---- another entry of the same level
module _ (tasks : Tasks) (p : ℕ) (e x : Entry) (here : get tasks p ≡ Some e) (level : x.nice ≡ e.nice) where
  load_stays : total_weight (insert tasks p x) ≡ total_weight tasks
  load_stays =
      same_weight (total_weight (insert tasks p x)) (total_weight tasks) (weight_of e.nice) (weight_of x.nice) (sum_over weight (insert tasks p x)) (sum_over weight tasks)
      (weights (insert tasks p x)) (weights tasks) (sum_insert weight tasks p e x here) (ap weight_of level)

-- ---- a yield
yielded_told : (f : FairView) (p : ℕ) (e : Entry) → get f.queue.state.runnable p ≡ Some e → (g : FairView)
    → g.queue.state ≡ record f.queue.state { runnable = insert f.queue.state.runnable p (yielded e) } → g.clock ≡ f.clock → KeepsShares f g
yielded_told f p e here g state clock task m s served owed =
    by (p == task) refl
  where
    tasks : Tasks
    tasks = f.queue.state.runnable

    runnable : g.queue.state.runnable ≡ insert tasks p (yielded e)
    runnable = ap (λ (q : State). q.runnable) state

    load : load_of g ≡ load_of f
    load = ap total_weight runnable ∙ load_stays tasks p e (yielded e) here refl

    by : (b : Bool) → (p == task) ≡ b → IsOwed g task m s served
    by true is =
        let at : get tasks task ≡ Some e = ap (get tasks) (sym (equal p task is)) ∙ here in
        let same : owed.entry ≡ e = one owed.entry e (get tasks task) owed.here at in
        record {
          entry = yielded e;
          here = ap (λ (y : Tasks). get y task) runnable ∙ ap (get (insert tasks p (yielded e))) (sym (equal p task is)) ∙ get_here tasks p (yielded e);
          told = told_as f.clock g.clock (load_of f) (load_of g) e.v (weight_of e.nice) m s served clock load
              (told_of f.clock (load_of f) owed.entry.v e.v owed.entry.nice e.nice m s served
              (ap (λ (y : Entry). y.v) (sym same)) (ap (λ (y : Entry). y.nice) (sym same)) owed.told);
        }
    by false is = record {
      entry = owed.entry;
      here = ap (λ (y : Tasks). get y task) runnable ∙ other_entry tasks p task (yielded e) is ∙ owed.here;
      told = told_as f.clock g.clock (load_of f) (load_of g) owed.entry.v (weight_of owed.entry.nice) m s served clock load owed.told;
    }

yield_by : (f g : FairView) (p : ℕ) (e : Entry) → get f.queue.state.runnable p ≡ Some e → (b : Bool)
    → g.queue.state ≡ (cond {A = YieldAnswer × State} b (Yielded, record f.queue.state { runnable = insert f.queue.state.runnable p (yielded e) }) (yields.Range, f.queue.state)).1
    → g.clock ≡ f.clock → KeepsShares f g
yield_by f g p e here true state clock = yielded_told f p e here g state clock
yield_by f g p e here false state clock = stay_told f g (ap (λ (q : State). q.runnable) state) clock

yield_at : (f g : FairView) (p : ℕ) (o : Option Entry) → get f.queue.state.runnable p ≡ o → g.queue.state ≡ (yield_entry f.queue.state p o).1 → g.clock ≡ f.clock
    → KeepsShares f g
yield_at f g p None here state clock = stay_told f g (ap (λ (q : State). q.runnable) state) clock
yield_at f g p (Some e) here state clock = yield_by f g p e here (is_in_range (yielded e).d) state clock

yield_told : (f g : FairView) (o : Option ℕ) → g.queue.state ≡ (yield_running f.queue.state o).1 → g.clock ≡ f.clock → KeepsShares f g
yield_told f g None state clock = stay_told f g (ap (λ (q : State). q.runnable) state) clock
yield_told f g (Some p) state clock = yield_at f g p (get f.queue.state.runnable p) refl state clock

-- ---- a rebase
pub nothing_lower : (z : ℤ) → z ≡ z -ℤ pos 0
nothing_lower z = omega (arith, ints)

lowered_here : (by : ℤ) (o : Option Entry) (e : Entry) → o ≡ Some e → option_map (lowered_entry by) o ≡ Some (lowered_entry by e)
lowered_here by o e h = ap (option_map (lowered_entry by)) h

rebase_by : (f g : FairView) (b : Bool)
    → g.queue.state ≡ (cond {A = ℤ × State} b (virtual_time f.queue.state, rebased f.queue.state) (pos 0, f.queue.state)).1
    → g.clock ≡ lowered f.clock (cond {A = ℤ × State} b (virtual_time f.queue.state, rebased f.queue.state) (pos 0, f.queue.state)).0
    → KeepsShares f g
rebase_by f g true state clock task m s served owed =
    let by : ℤ = virtual_time f.queue.state in
    let tasks : Tasks = f.queue.state.runnable in
    let runnable : g.queue.state.runnable ≡ lowered_tasks by tasks = ap (λ (q : State). q.runnable) state in
    record {
      entry = lowered_entry by owed.entry;
      here = ap (λ (y : Tasks). get y task) runnable ∙ get-lowered by tasks task ∙ lowered_here by (get tasks task) owed.entry owed.here;
      told = told_as (lowered f.clock by) g.clock (load_of f) (load_of g) (owed.entry.v -ℤ by) (weight_of owed.entry.nice) m s served clock
          (ap total_weight runnable ∙ weight-lowered by tasks)
          (lowers f.clock.settled f.clock.since (load_of f) owed.entry.v by (weight_of owed.entry.nice) m s served owed.told);
    }
rebase_by f g false state clock task m s served owed =
    let runnable : g.queue.state.runnable ≡ f.queue.state.runnable = ap (λ (q : State). q.runnable) state in
    record {
      entry = owed.entry;
      here = ap (λ (y : Tasks). get y task) runnable ∙ owed.here;
      told = told_as (lowered f.clock (pos 0)) g.clock (load_of f) (load_of g) owed.entry.v (weight_of owed.entry.nice) m s served clock (ap total_weight runnable)
          (told_of (lowered f.clock (pos 0)) (load_of f) (owed.entry.v -ℤ pos 0) owed.entry.v owed.entry.nice owed.entry.nice m s served (nothing_lower owed.entry.v) refl
          (lowers f.clock.settled f.clock.since (load_of f) owed.entry.v (pos 0) (weight_of owed.entry.nice) m s served owed.told));
    }

-- ---- a tick
module _ (f g : FairView) (ns p : ℕ) (e : Entry) (here : get f.queue.state.runnable p ≡ Some e)
    (state : g.queue.state ≡ record f.queue.state { runnable = insert f.queue.state.runnable p (charged_entry e ns) })
    (clock : g.clock ≡ charged f.clock ns (load_of f)) where
  abbrev tasks : Tasks
  tasks = f.queue.state.runnable

  grown : Grown e ns (charged_entry e ns)
  grown = charged_grown e ns

  runnable : g.queue.state.runnable ≡ insert tasks p (charged_entry e ns)
  runnable = ap (λ (q : State). q.runnable) state

  load : load_of g ≡ load_of f
  load = ap total_weight runnable ∙ load_stays tasks p e (charged_entry e ns) here grown.same_nice

  -- the clock has gone on
  clock_told : (v : ℤ) (w : ℕ) (m : ShareMark) (s : Share) (served : ℕ) → 1 ≤ load_of f
      → IsTold f.clock.settled (f.clock.since + ns) (load_of f) v w m s served → IsTold g.clock.settled g.clock.since (load_of g) v w m s served
  clock_told v w m s served some told =
      told_as (charged f.clock ns (load_of f)) g.clock (load_of f) (load_of g) v w m s served clock load
      (long (record f.clock { since = f.clock.since + ns }) (load_of f) v w m s served some told)

  gives : (task : ℕ) (m : ShareMark) (s : Share) (served : ℕ) (owed : IsOwed f task m s served) → (b : Bool) → (p == task) ≡ b
      → IsOwed g task m (with_share s (weight_of owed.entry.nice) (load_of f) ns) (cond b (served + ns) served)
  gives task m s served owed true is =
      let at : get tasks task ≡ Some e = ap (get tasks) (sym (equal p task is)) ∙ here in
      let same : e ≡ owed.entry = one e owed.entry (get tasks task) at owed.here in
      let w : ℕ = weight_of owed.entry.nice in
      let level : (charged_entry e ns).nice ≡ owed.entry.nice = grown.same_nice ∙ ap (λ (y : Entry). y.nice) same in
      let runtime : (charged_entry e ns).v ≡ owed.entry.v +ℤ pos grown.by = grown.grown ∙ ap (λ (y : Entry). y.v +ℤ pos grown.by) same in
      let little : grown.by * w ≤ 1024 * ns = subst (λ (y : Entry). grown.by * weight_of y.nice ≤ 1024 * ns) same grown.little in
      let some : 1 ≤ load_of f = some_load f task m s served owed in
      let share : Share = with_share s w (load_of f) ns in
      record {
        entry = charged_entry e ns;
        here = ap (λ (y : Tasks). get y task) runnable ∙ ap (get (insert tasks p (charged_entry e ns))) (sym (equal p task is)) ∙ get_here tasks p (charged_entry e ns);
        told = told_of g.clock (load_of g) (owed.entry.v +ℤ pos grown.by) (charged_entry e ns).v owed.entry.nice (charged_entry e ns).nice m share (served + ns) runtime level
            (clock_told (owed.entry.v +ℤ pos grown.by) w m share (served + ns) some
            (ran_itself f.clock.settled (f.clock.since + ns) (load_of f) owed.entry.v w grown.by m s served ns little
            (ran_other f.clock.settled f.clock.since (load_of f) owed.entry.v w m s served ns owed.told)));
      }
  gives task m s served owed false is =
      let w : ℕ = weight_of owed.entry.nice in
      record {
        entry = owed.entry;
        here = ap (λ (y : Tasks). get y task) runnable ∙ other_entry tasks p task (charged_entry e ns) is ∙ owed.here;
        told = clock_told owed.entry.v w m (with_share s w (load_of f) ns) served (some_load f task m s served owed)
            (ran_other f.clock.settled f.clock.since (load_of f) owed.entry.v w m s served ns owed.told);
      }

  charge_told : (resched : Bool) → GivesShares f g ns (Charged p resched)
  charge_told resched task m s served owed = gives task m s served owed (p == task) refl

tick_told : (f g : FairView) (ns : ℕ) → g.queue.state ≡ (tick f.queue.state ns).1 → g.clock ≡ charged_from f ns (tick f.queue.state ns).0
    → GivesShares f g ns (tick f.queue.state ns).0
tick_told f g ns =
    tick_cases (λ z. g.queue.state ≡ z.1 → g.clock ≡ charged_from f ns (z.0) → GivesShares f g ns (z.0)) f.queue.state ns
    (λ state clock. stay_told f g (ap (λ (q : State). q.runnable) state) clock)
    (λ state clock. stay_told f g (ap (λ (q : State). q.runnable) state) clock)
    (λ p e resched runs here state clock. charge_told f g ns p e here state clock resched)

-- the load is as it was
pub tick_load : (q : State) (ns : ℕ) → total_weight (tick q ns).1.runnable ≡ total_weight q.runnable
tick_load q ns =
    tick_cases (λ z. total_weight (z.1).runnable ≡ total_weight q.runnable) q ns refl refl
    (λ p e resched runs here. load_stays q.runnable p e (charged_entry e ns) here (charged_grown e ns).same_nice)

pub shares_are_told : SharesAreTold
shares_are_told f g = record {
  ticks = tick_told f g;
  rebases = rebase_by f g (can_rebase f.queue.state);
  yields = yield_told f g f.queue.state.running;
  stays = stay_told f g;
  others = others_keep f g;
}
