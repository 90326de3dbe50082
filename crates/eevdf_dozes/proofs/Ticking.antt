-- What a tick does to the tasks, and to where each of them stands.
use Rattle.std.proofs.Common.{◌≡◌, ℕ, ◌*◌, ◌≤◌, ◌⊎◌, Bool, true, false, cond, Option, Some, None, refl, sym, ap, ◌∙◌, subst, inl, inr, arith}
use Rattle.std.specs.Prelude.{ℤ, pos, ◌+ℤ◌, ◌≤ℤ◌, ◌==◌}
use Rattle.std.specs.{Option.option_map, Cmp.nat_cmp_total}
use Rattle.std.specs.FinMap.{get, insert, get-insert}
use Rattle.std.proofs.{lemmas.Int.ints}
use Rattle.eevdf_weight.specs.{Weight.weight_of, Charge.charge_of}
use Rattle.eevdf_queue.specs.{declared.entry.Entry.Entry, declared.answers.TickAnswer.TickAnswer, State.State, Sums.Tasks}
use Rattle.eevdf_queue.specs.declared.answers.TickAnswer.TheVariants.{Charged, Idle, Range}
use Rattle.eevdf_queue.specs.{Moves.fresh_entry, Moves.is_entry_in_range}
use Rattle.eevdf_queue.specs.Tick.{aged, is_used_up, charged, tick, tick_entry, tick_running}
use Rattle.eevdf_fairness.specs.Tallies.{if_charged_to}
use Rattle.eevdf_queue.proofs.DueTasks.{charged_due}
use Rattle.eevdf_fairness.proofs.Growing.{get_here, found_at_after, charged_grown, rounded_down}
use Rattle.eevdf_dozes.specs.Places.{place_by, place_of}
use Rattle.eevdf_dozes.specs.Stretches.{Watch, HaveLevels, NoneIsPastDue, ticked, charge_by, charged_for}
use Rattle.eevdf_ops.proofs.MapCounts.{equal}
use Rattle.eevdf_fairness.proofs.Passing.{other_number}

-- ---- a tick is refused, or there is nobody to charge, or it charges who runs
module _ (P : TickAnswer × State → Type 0) (q : State) (ns : ℕ) (idle : P (Idle, q)) (range : P (Range, q))
    (done : (p : ℕ) (e : Entry) (resched : Bool) → q.running ≡ Some p → get q.runnable p ≡ Some e
    → P (Charged p resched, record q { runnable = insert q.runnable p (charged e ns) })) where
  in_range_by : (p : ℕ) (e : Entry) (resched b : Bool) → q.running ≡ Some p → get q.runnable p ≡ Some e
      → P (cond {A = TickAnswer × State} b (Charged p resched, record q { runnable = insert q.runnable p (charged e ns) }) (Range, q))
  in_range_by p e resched true runs here = done p e resched runs here
  in_range_by p e resched false runs here = range

  entry_by : (p : ℕ) (o : Option Entry) → q.running ≡ Some p → get q.runnable p ≡ o → P (tick_entry q p o ns)
  entry_by p None runs here = idle
  entry_by p (Some e) runs here = in_range_by p e (is_used_up e ns) (is_entry_in_range (charged e ns)) runs here

  runner_by : (o : Option ℕ) → q.running ≡ o → P (tick_running q o ns)
  runner_by None runs = idle
  runner_by (Some p) runs = entry_by p (get q.runnable p) runs refl

  pub tick_cases : P (tick q ns)
  tick_cases = runner_by q.running refl

-- ---- one charge
pub other_entry : (tasks : Tasks) (p t : ℕ) (e : Entry) → (p == t) ≡ false → get (insert tasks p e) t ≡ get tasks t
other_entry tasks p t e is = get-insert nat_cmp_total tasks p e t ∙ ap (λ (b : Bool). cond b (Some e) (get tasks t)) (other_number p t is)

charged_runtime : (e : Entry) (ns : ℕ) → (charged e ns).v ≡ aged e ns
charged_runtime e ns =
    by (is_used_up e ns)
  where
    by : (b : Bool) → (cond b (fresh_entry (aged e ns) e.nice e.slice) (record e { v = aged e ns })).v ≡ aged e ns
    by true = refl
    by false = refl

-- ---- where a task stands
unmoved : (o : Option ℤ) → o ≡ option_map (λ (z : ℤ). z +ℤ pos 0) o
unmoved None = refl
unmoved (Some z) = ap (λ (y : ℤ). Some y) (omega (arith, ints))

swapped : (v c shift : ℤ) → (v +ℤ c) +ℤ shift ≡ (v +ℤ shift) +ℤ c
swapped v c shift = omega (arith, ints)

moved_itself : (shift : ℤ) (kept : Option ℤ) (e : Entry) (ns : ℕ) (o : Option Entry) → o ≡ Some e
    → place_by shift kept (Some (charged e ns)) ≡ option_map (λ (z : ℤ). z +ℤ pos (charge_by o ns)) (place_by shift kept o)
moved_itself shift kept e ns None here = cc
moved_itself shift kept e ns (Some x) here =
    let same : x ≡ e = cc in
    subst (λ (y : Entry). Some ((charged e ns).v +ℤ shift) ≡ Some ((y.v +ℤ shift) +ℤ pos (charge_of ns (weight_of y.nice)))) (sym same)
    (ap (λ (z : ℤ). Some (z +ℤ shift)) (charged_runtime e ns) ∙ ap (λ (z : ℤ). Some z) (swapped e.v (pos (charge_of ns (weight_of e.nice))) shift))

moved_by : (shift : ℤ) (kept : Option ℤ) (tasks : Tasks) (p t : ℕ) (e : Entry) (ns : ℕ) (b : Bool) → (p == t) ≡ b → get tasks p ≡ Some e
    → place_by shift kept (get (insert tasks p (charged e ns)) t)
    ≡ option_map (λ (z : ℤ). z +ℤ pos (cond b (charge_by (get tasks t) ns) 0)) (place_by shift kept (get tasks t))
moved_by shift kept tasks p t e ns true is here =
    let same : p ≡ t = equal p t is in
    let there : get tasks t ≡ Some e = ap (get tasks) (sym same) ∙ here in
    let new : get (insert tasks p (charged e ns)) t ≡ Some (charged e ns) = ap (get (insert tasks p (charged e ns))) (sym same) ∙ get_here tasks p (charged e ns) in
    ap (place_by shift kept) new ∙ moved_itself shift kept e ns (get tasks t) there
moved_by shift kept tasks p t e ns false is here =
    ap (place_by shift kept) (other_entry tasks p t (charged e ns) is) ∙ unmoved (place_by shift kept (get tasks t))

-- a tick moves each task by what it charges for
pub tick_moves : (q : State) (t ns : ℕ)
    → place_of (ticked q ns) t ≡ option_map (λ (z : ℤ). z +ℤ pos (charged_for t q ns)) (place_of q t)
tick_moves q t ns =
    tick_cases
    (λ z. place_of (z.1) t
    ≡ option_map (λ (y : ℤ). y +ℤ pos (if_charged_to t (z.0) (charge_by (get q.runnable t) ns))) (place_of q t))
    q ns (unmoved (place_of q t)) (unmoved (place_of q t))
    (λ p e resched runs here. moved_by q.shift (get q.places t) q.runnable p t e ns (p == t) refl here)

-- ---- who runs
pub tick_running_stays : (q : State) (ns : ℕ) → (tick q ns).1.running ≡ q.running
tick_running_stays q ns = tick_cases (λ z. (z.1).running ≡ q.running) q ns refl refl (λ p e resched runs here. refl)

-- who is charged runs
charged_by : (q : State) (t p x : ℕ) (b : Bool) → (p == t) ≡ b → q.running ≡ Some p → (cond b x 0 ≡ 0) ⊎ (q.running ≡ Some t)
charged_by q t p x true is runs = inr (runs ∙ ap (λ (n : ℕ). Some n) (equal p t is))
charged_by q t p x false is runs = inl refl

pub charged_runs : (q : State) (t ns : ℕ) → (charged_for t q ns ≡ 0) ⊎ (q.running ≡ Some t)
charged_runs q t ns =
    tick_cases (λ z. (if_charged_to t (z.0) (charge_by (get q.runnable t) ns) ≡ 0) ⊎ (q.running ≡ Some t)) q ns (inl refl) (inl refl)
    (λ p e resched runs here. charged_by q t p (charge_by (get q.runnable t) ns) (p == t) refl runs)

-- ---- a charge is little
pub no_charge : (w ns : ℕ) → 0 * w ≤ 1024 * ns
no_charge w ns = omega arith

or_none : (x w ns : ℕ) (b : Bool) → x * w ≤ 1024 * ns → cond b x 0 * w ≤ 1024 * ns
or_none x w ns true h = h
or_none x w ns false h = no_charge w ns

little_by : (w : Watch) (tasks : Tasks) (t ns : ℕ) (o : Option Entry) → get tasks t ≡ o → HaveLevels w tasks → w.counts t ≡ true
    → charge_by o ns * weight_of (w.nice_of t) ≤ 1024 * ns
little_by w tasks t ns None here levels counts = no_charge (weight_of (w.nice_of t)) ns
little_by w tasks t ns (Some e) here levels counts =
    subst (λ (z : ℤ). charge_of ns (weight_of e.nice) * weight_of z ≤ 1024 * ns) (levels t e counts here) (rounded_down ns (weight_of e.nice))

pub little_charged : (w : Watch) (q : State) (t ns : ℕ) → HaveLevels w q.runnable → w.counts t ≡ true
    → charged_for t q ns * weight_of (w.nice_of t) ≤ 1024 * ns
little_charged w q t ns levels counts =
    tick_cases (λ z. if_charged_to t (z.0) (charge_by (get q.runnable t) ns) * weight_of (w.nice_of t) ≤ 1024 * ns) q ns
    (no_charge (weight_of (w.nice_of t)) ns) (no_charge (weight_of (w.nice_of t)) ns)
    (λ p e resched runs here. or_none (charge_by (get q.runnable t) ns) (weight_of (w.nice_of t)) ns (p == t)
    (little_by w q.runnable t ns (get q.runnable t) refl levels counts))

-- ---- what each task keeps
-- the entry of a task afterwards
pub record IsStill (e : Entry) (now : Option Entry) : Type 0 where
  pub entry : Entry
  pub here : now ≡ Some entry
  pub same_nice : entry.nice ≡ e.nice
  pub later : e.d ≤ℤ entry.d

same_time : (d : ℤ) → d ≤ℤ d
same_time d = omega (arith, ints)

still : (e : Entry) (o : Option Entry) → o ≡ Some e → IsStill e o
still e o here = record { entry = e; here = here; same_nice = refl; later = same_time e.d }

still_by : (tasks : Tasks) (p t : ℕ) (x e : Entry) (ns : ℕ) (b : Bool) → (p == t) ≡ b → get tasks p ≡ Some x → get tasks t ≡ Some e
    → IsStill e (get (insert tasks p (charged x ns)) t)
still_by tasks p t x e ns true is at here =
    let same : p ≡ t = equal p t is in
    let there : get tasks t ≡ Some x = ap (get tasks) (sym same) ∙ at in
    let itself : x ≡ e = cc in
    let g = charged_grown x ns in
    subst (λ (y : Entry). IsStill y (get (insert tasks p (charged x ns)) t)) itself
    (record {
      entry = charged x ns;
      here = ap (get (insert tasks p (charged x ns))) (sym same) ∙ get_here tasks p (charged x ns);
      same_nice = g.same_nice;
      later = g.later;
    })
still_by tasks p t x e ns false is at here = still e _ (other_entry tasks p t (charged x ns) is ∙ here)

pub tick_keeps : (q : State) (t ns : ℕ) (e : Entry) → get q.runnable t ≡ Some e → IsStill e (get (tick q ns).1.runnable t)
tick_keeps q t ns e here =
    tick_cases (λ z. IsStill e (get (z.1).runnable t)) q ns (still e _ here) (still e _ here)
    (λ p x resched runs at. still_by q.runnable p t x e ns (p == t) refl at here)

pub tick_levels : (w : Watch) (q : State) (ns : ℕ) → HaveLevels w q.runnable → HaveLevels w (tick q ns).1.runnable
tick_levels w q ns levels =
    tick_cases (λ z. HaveLevels w (z.1).runnable) q ns levels levels
    (λ p e resched runs here t f counts found.
    found_at_after (λ u x. w.counts u ≡ true → x.nice ≡ w.nice_of u) q.runnable p (charged e ns)
    (λ does. (charged_grown e ns).same_nice ∙ levels p e does here) (λ u x there does. levels u x does there) t f found counts)

pub tick_due : (q : State) (ns : ℕ) → NoneIsPastDue q.runnable → NoneIsPastDue (tick q ns).1.runnable
tick_due q ns due =
    tick_cases (λ z. NoneIsPastDue (z.1).runnable) q ns due due
    (λ p e resched runs here. found_at_after (λ u x. x.v ≤ℤ x.d) q.runnable p (charged e ns) (charged_due e ns) due)
