-- What tasks are owed of the CPU where a clock and a load lie beside a queue, as each call leaves it.
use Rattle.std.proofs.Common.{◌≡◌, ℕ, ◌+◌, ◌*◌, ◌≤◌, Bool, true, false, cond, Option, Some, None, refl, sym, ap, ◌∙◌, subst}
use Rattle.std.specs.Prelude.{ℤ, pos, ◌+ℤ◌, ◌-ℤ◌, ◌==◌, IfSome}
use Rattle.std.specs.{Option.option_map, FinMap.get, FinMap.insert}
use Rattle.eevdf_weight.specs.{Weight.weight_of, Limits.is_in_range}
use Rattle.eevdf_queue.specs.{declared.entry.Entry.Entry, State.State, Sums.total_weight, Sums.virtual_time}
use Rattle.eevdf_queue.specs.declared.answers.TickAnswer.{TickAnswer}
use Rattle.eevdf_queue.specs.declared.answers.TickAnswer.TheVariants.{Charged, Idle, Range}
use Rattle.eevdf_queue.specs.declared.answers.YieldAnswer.{YieldAnswer}
use Rattle.eevdf_queue.specs.declared.answers.YieldAnswer.TheVariants as yields
use Rattle.eevdf_queue.specs.declared.answers.YieldAnswer.TheVariants.{Yielded}
use Rattle.eevdf_queue.specs.{Tick.tick, Tick.charged as charged_entry, Yield.yielded, Yield.yield_entry, Yield.yield_running}
use Rattle.eevdf_queue.specs.{Rebase.rebased, Rebase.can_rebase, Rebase.lowered_entry}
use Rattle.eevdf_queue.proofs.LoweredMaps.{get-lowered}
use Rattle.eevdf_fairness.proofs.Growing.{Grown, charged_grown, get_here}
use Rattle.eevdf_ops.proofs.MapCounts.{equal}
use Rattle.eevdf_dozes.proofs.Ticking.{tick_cases, other_entry}
use Rattle.eevdf_fair_queue.specs.{declared.share_clock.ShareMark.ShareMark}
use Rattle.eevdf_fair_queue.specs.ShareClock.{Clock, reloaded, lowered, mark_of, lack_since}
use Rattle.eevdf_fair_queue.specs.Owed.{Share, no_share, with_share, IsTold}
use Rattle.eevdf_fair_queue.specs.Beside.{SharesView, charged_at, ticked, shares_lowered, IsOwedOf, LacksNoMoreOf, KeepsSharesOf, StaysAsItWas, GivesSharesOf, SharesBesideAreTold}
use Rattle.eevdf_fair_queue.proofs.MeanTimes.{weighs}
use Rattle.eevdf_fair_queue.proofs.Marks.{then, marked, lacking, Suffices}
use Rattle.eevdf_fair_queue.proofs.Owed.{told_of, reloads, lowers, long, ran_other, ran_itself, nothing_lower}
use Rattle.eevdf_fair_queue.proofs.Orders.{one}

-- ---- a mark, and what is read by it
pub mark_beside_owed : (s : SharesView) (q : State) (task : ℕ) (e : Entry) → 1 ≤ s.load → get q.runnable task ≡ Some e
    → IfSome (mark_of s.clock s.load e.v) (λ m. IsOwedOf s q task m no_share 0)
mark_beside_owed s q task e some here =
    then (mark_of s.clock s.load e.v) (λ m. IsTold s.clock.settled s.clock.since s.load e.v (weight_of e.nice) m no_share 0)
    (λ m. IsOwedOf s q task m no_share 0) (λ m told. record { entry = e; here = here; some = some; told = told })
    (marked s.clock.settled s.clock.since s.load e.v (weight_of e.nice) some)

pub bound_beside_owed : (s : SharesView) (q : State) (task : ℕ) (e : Entry) (m : ShareMark) → 1 ≤ s.load → get q.runnable task ≡ Some e
    → IfSome (lack_since s.clock s.load e.v (weight_of e.nice) m) (LacksNoMoreOf s q task m)
bound_beside_owed s q task e m some here =
    then (lack_since s.clock s.load e.v (weight_of e.nice) m) (Suffices s.clock.settled s.clock.since s.load e.v (weight_of e.nice) m)
    (LacksNoMoreOf s q task m) (λ ns suffices share served owed. suffices share served
    (subst (λ (y : Entry). IsTold s.clock.settled s.clock.since s.load y.v (weight_of y.nice) m share served)
    (one owed.entry e (get q.runnable task) owed.here here) owed.told))
    (lacking s.clock.settled s.clock.since s.load e.v (weight_of e.nice) m some)

-- ---- calls that take no time
others_keep : (s : SharesView) (q r : State) (task : ℕ) (m : ShareMark) (share : Share) (served : ℕ) → StaysAsItWas q r task
    → IsOwedOf s q task m share served → IsOwedOf s r task m share served
others_keep s q r task m share served was owed =
    let same : owed.entry ≡ was.before = one owed.entry was.before (get q.runnable task) owed.here was.here in
    record {
      entry = was.after;
      here = was.there;
      some = owed.some;
      told = told_of s.clock s.load owed.entry.v was.after.v owed.entry.nice was.after.nice m share served
          (was.runtime ∙ ap (λ (x : Entry). x.v) (sym same)) (was.level ∙ ap (λ (x : Entry). x.nice) (sym same)) owed.told;
    }

nothing_changes : (s : SharesView) (q : State) → KeepsSharesOf s q s q
nothing_changes s q task m share served owed = owed

-- ---- a yield
yielded_keeps : (s : SharesView) (q : State) (p : ℕ) (e : Entry) → get q.runnable p ≡ Some e
    → KeepsSharesOf s q s (record q { runnable = insert q.runnable p (yielded e) })
yielded_keeps s q p e here task m share served owed =
    by (p == task) refl
  where
    by : (b : Bool) → (p == task) ≡ b → IsOwedOf s (record q { runnable = insert q.runnable p (yielded e) }) task m share served
    by true is =
        let at : get q.runnable task ≡ Some e = ap (get q.runnable) (sym (equal p task is)) ∙ here in
        let same : owed.entry ≡ e = one owed.entry e (get q.runnable task) owed.here at in
        record {
          entry = yielded e;
          here = ap (get (insert q.runnable p (yielded e))) (sym (equal p task is)) ∙ get_here q.runnable p (yielded e);
          some = owed.some;
          told = told_of s.clock s.load owed.entry.v e.v owed.entry.nice e.nice m share served
              (ap (λ (y : Entry). y.v) (sym same)) (ap (λ (y : Entry). y.nice) (sym same)) owed.told;
        }
    by false is = record {
      entry = owed.entry;
      here = other_entry q.runnable p task (yielded e) is ∙ owed.here;
      some = owed.some;
      told = owed.told;
    }

yield_by : (s : SharesView) (q : State) (p : ℕ) (e : Entry) → get q.runnable p ≡ Some e → (b : Bool)
    → KeepsSharesOf s q s (cond {A = YieldAnswer × State} b (Yielded, record q { runnable = insert q.runnable p (yielded e) }) (yields.Range, q)).1
yield_by s q p e here true = yielded_keeps s q p e here
yield_by s q p e here false = nothing_changes s q

yield_at : (s : SharesView) (q : State) (p : ℕ) (o : Option Entry) → get q.runnable p ≡ o → KeepsSharesOf s q s (yield_entry q p o).1
yield_at s q p None here = nothing_changes s q
yield_at s q p (Some e) here = yield_by s q p e here (is_in_range (yielded e).d)

yield_keeps : (s : SharesView) (q : State) (o : Option ℕ) → KeepsSharesOf s q s (yield_running q o).1
yield_keeps s q None = nothing_changes s q
yield_keeps s q (Some p) = yield_at s q p (get q.runnable p) refl

-- ---- a rebase
rebase_by : (s : SharesView) (q : State) (b : Bool)
    → KeepsSharesOf s q (shares_lowered s (cond {A = ℤ × State} b (virtual_time q, rebased q) (pos 0, q)).0)
    (cond {A = ℤ × State} b (virtual_time q, rebased q) (pos 0, q)).1
rebase_by s q true task m share served owed =
    let by : ℤ = virtual_time q in
    record {
      entry = lowered_entry by owed.entry;
      here = get-lowered by q.runnable task ∙ ap (option_map (lowered_entry by)) owed.here;
      some = owed.some;
      told = lowers s.clock.settled s.clock.since s.load owed.entry.v by (weight_of owed.entry.nice) m share served owed.told;
    }
rebase_by s q false task m share served owed = record {
  entry = owed.entry;
  here = owed.here;
  some = owed.some;
  told = told_of (lowered s.clock (pos 0)) s.load (owed.entry.v -ℤ pos 0) owed.entry.v owed.entry.nice owed.entry.nice m share served (nothing_lower owed.entry.v) refl
      (lowers s.clock.settled s.clock.since s.load owed.entry.v (pos 0) (weight_of owed.entry.nice) m share served owed.told);
}

-- ---- a tick
module _ (s : SharesView) (q : State) (ns p : ℕ) (e : Entry) (here : get q.runnable p ≡ Some e) where
  abbrev load : ℕ
  load = total_weight q.runnable

  abbrev after : State
  after = record q { runnable = insert q.runnable p (charged_entry e ns) }

  abbrev clock : Clock
  clock = reloaded s.clock s.load load

  grown : Grown e ns (charged_entry e ns)
  grown = charged_grown e ns

  some_load : 1 ≤ load
  some_load = weighs q.runnable p e here

  -- the clock goes by the load of now, and has gone on
  shared : (v : ℤ) (w : ℕ) (m : ShareMark) (share : Share) (served : ℕ) → 1 ≤ s.load
      → IsTold s.clock.settled s.clock.since s.load v w m share served
      → IsTold clock.settled (clock.since + ns) load v w m (with_share share w load ns) served
  shared v w m share served some told =
      ran_other clock.settled clock.since load v w m share served ns (reloads s.clock s.load load v w m share served some told)

  gone_on : (v : ℤ) (w : ℕ) (m : ShareMark) (share : Share) (served : ℕ) → IsTold clock.settled (clock.since + ns) load v w m share served
      → IsTold (charged_at s ns load).clock.settled (charged_at s ns load).clock.since load v w m share served
  gone_on v w m share served told = long (record clock { since = clock.since + ns }) load v w m share served some_load told

  gives : (task : ℕ) (m : ShareMark) (share : Share) (served : ℕ) (owed : IsOwedOf s q task m share served) → (b : Bool) → (p == task) ≡ b
      → IsOwedOf (charged_at s ns load) after task m (with_share share (weight_of owed.entry.nice) load ns) (cond b (served + ns) served)
  gives task m share served owed true is =
      let at : get q.runnable task ≡ Some e = ap (get q.runnable) (sym (equal p task is)) ∙ here in
      let same : e ≡ owed.entry = one e owed.entry (get q.runnable task) at owed.here in
      let w : ℕ = weight_of owed.entry.nice in
      let level : (charged_entry e ns).nice ≡ owed.entry.nice = grown.same_nice ∙ ap (λ (y : Entry). y.nice) same in
      let runtime : (charged_entry e ns).v ≡ owed.entry.v +ℤ pos grown.by = grown.grown ∙ ap (λ (y : Entry). y.v +ℤ pos grown.by) same in
      let little : grown.by * w ≤ 1024 * ns = subst (λ (y : Entry). grown.by * weight_of y.nice ≤ 1024 * ns) same grown.little in
      record {
        entry = charged_entry e ns;
        here = ap (get (insert q.runnable p (charged_entry e ns))) (sym (equal p task is)) ∙ get_here q.runnable p (charged_entry e ns);
        some = some_load;
        told = told_of (charged_at s ns load).clock load (owed.entry.v +ℤ pos grown.by) (charged_entry e ns).v owed.entry.nice (charged_entry e ns).nice m
            (with_share share w load ns) (served + ns) runtime level
            (gone_on (owed.entry.v +ℤ pos grown.by) w m (with_share share w load ns) (served + ns)
            (ran_itself clock.settled (clock.since + ns) load owed.entry.v w grown.by m share served ns little
            (shared owed.entry.v w m share served owed.some owed.told)));
      }
  gives task m share served owed false is = record {
    entry = owed.entry;
    here = other_entry q.runnable p task (charged_entry e ns) is ∙ owed.here;
    some = some_load;
    told = gone_on owed.entry.v (weight_of owed.entry.nice) m (with_share share (weight_of owed.entry.nice) load ns) served
        (shared owed.entry.v (weight_of owed.entry.nice) m share served owed.some owed.told);
  }

  charge_told : (resched : Bool) → GivesSharesOf s q (charged_at s ns load) after ns (Charged p resched)
  charge_told resched task m share served owed = gives task m share served owed (p == task) refl

tick_told : (s : SharesView) (q : State) (ns : ℕ) → GivesSharesOf s q (ticked s q ns (tick q ns).0) (tick q ns).1 ns (tick q ns).0
tick_told s q ns =
    tick_cases (λ z. GivesSharesOf s q (ticked s q ns (z.0)) (z.1) ns (z.0)) q ns (nothing_changes s q) (nothing_changes s q)
    (λ p e resched runs here. charge_told s q ns p e here resched)

-- after a tick that charged there is a load
abbrev pub Weighs : TickAnswer → State → Type 0
Weighs (Charged ran resched) q = 1 ≤ total_weight q.runnable
Weighs Idle q = Unit {0}
Weighs Range q = Unit {0}

pub tick_weighs : (q : State) (ns : ℕ) → Weighs (tick q ns).0 (tick q ns).1
tick_weighs q ns =
    tick_cases (λ z. Weighs (z.0) (z.1)) q ns tt tt
    (λ p e resched runs here. weighs (insert q.runnable p (charged_entry e ns)) p (charged_entry e ns) (get_here q.runnable p (charged_entry e ns)))

pub shares_beside_are_told : SharesBesideAreTold
shares_beside_are_told s q = record {
  ticks = tick_told s q;
  rebases = rebase_by s q (can_rebase q);
  yields = yield_keeps s q q.running;
  others = others_keep s q;
}
