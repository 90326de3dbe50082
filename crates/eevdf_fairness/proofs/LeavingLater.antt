-- A task that leaves between two ticks may as well leave after both.
use Rattle.std.proofs.Common.{◌≡◌, ℕ, Bool, true, false, cond, Option, Some, None, refl, sym, ap, ◌∙◌, subst}
use Rattle.std.specs.Prelude.{◌==◌, is_some}
use Rattle.std.specs.{Ordering.nat_cmp, Ordering.eq_by_cmp, Cmp.nat_cmp_total}
use Rattle.std.specs.FinMap.{get, insert, remove, get-insert, get-remove, same_map, nat_cmp-IsAntisymmetric}
use Rattle.eevdf_queue.specs.{declared.entry.Entry.Entry, declared.answers.TickAnswer.TickAnswer, State.State, Sums.Tasks}
use Rattle.eevdf_queue.specs.declared.answers.TickAnswer.TheVariants.{Charged, Range}
use Rattle.eevdf_queue.specs.{Leaving.leave, Leaving.without_entry, Leaving.stopped, Moves.is_entry_in_range}
use Rattle.eevdf_queue.specs.Tick.{is_used_up, charged, tick, tick_to, tick_entry, tick_running}
use Rattle.eevdf_queue.proofs.Foremost.{equal_number}
use Rattle.eevdf_ops.proofs.{DeedNames.unequal, MapCounts.equal, MapCounts.itself}
use Rattle.eevdf_fairness.specs.Leavings.{HaveSameRunnable, HaveSameTimes}
use Rattle.eevdf_fairness.proofs.Growing.{not_itself, hidden, get_here}
use Rattle.eevdf_fairness.proofs.SameRunnable.{alike, of_same, then}
use Rattle.eevdf_fairness.proofs.SameTimes as times

-- ---- entries in maps
removed_again : (m : Tasks) (t : ℕ) (f : Entry) → remove (insert m t f) t ≡ remove m t
removed_again m t f =
    same_map nat_cmp_total nat_cmp-IsAntisymmetric _ _ (λ x.
    get-remove nat_cmp_total (insert m t f) t x
    ∙ ap (cond (eq_by_cmp nat_cmp x t) None) (get-insert nat_cmp_total m t f x)
    ∙ hidden (eq_by_cmp nat_cmp x t) None (Some f) (get m x)
    ∙ sym (get-remove nat_cmp_total m t x))

swapped : (b c : Bool) (f o : Option Entry) → (b ≡ true → c ≡ true → ⊥) → cond b f (cond c None o) ≡ cond c None (cond b f o)
swapped true true f o both = absurd (both refl refl)
swapped true false f o both = refl
swapped false c f o both = refl

removed_apart : (m : Tasks) (t p : ℕ) (f : Entry) → (t ≡ p → ⊥) → insert (remove m t) p f ≡ remove (insert m p f) t
removed_apart m t p f apart =
    same_map nat_cmp_total nat_cmp-IsAntisymmetric _ _ (λ x.
    get-insert nat_cmp_total (remove m t) p f x
    ∙ ap (cond (eq_by_cmp nat_cmp x p) (Some f)) (get-remove nat_cmp_total m t x)
    ∙ swapped (eq_by_cmp nat_cmp x p) (eq_by_cmp nat_cmp x t) (Some f) (get m x) (λ h k. apart (sym (equal_number x t k) ∙ equal_number x p h))
    ∙ sym (ap (cond (eq_by_cmp nat_cmp x t) None) (get-insert nat_cmp_total m p f x))
    ∙ sym (get-remove nat_cmp_total (insert m p f) t x))

pub get_apart : (m : Tasks) (p t : ℕ) (f : Entry) → (t ≡ p → ⊥) → get (insert m p f) t ≡ get m t
get_apart m p t f apart =
    get-insert nat_cmp_total m p f t ∙ ap (λ (b : Bool). cond b (Some f) (get m t)) (not_itself t p (eq_by_cmp nat_cmp t p) apart refl)

get_left : (m : Tasks) (p t : ℕ) → (t ≡ p → ⊥) → get (remove m t) p ≡ get m p
get_left m p t apart =
    get-remove nat_cmp_total m t p ∙ ap (λ (b : Bool). cond b None (get m p)) (not_itself p t (eq_by_cmp nat_cmp p t) (λ same. apart (sym same)) refl)

-- ---- who runs, and whether a tick finds it
pub nobody_ticks : (q : State) (ns : ℕ) → q.running ≡ None → (tick q ns).1 ≡ q
nobody_ticks q ns is = ap (λ (o : Option ℕ). (tick_running q o ns).1) is

pub absent_ticks : (q : State) (p ns : ℕ) → q.running ≡ Some p → get q.runnable p ≡ None → (tick q ns).1 ≡ q
absent_ticks q p ns is none = ap (λ (o : Option ℕ). (tick_running q o ns).1) is ∙ ap (λ (o : Option Entry). (tick_entry q p o ns).1) none

pub ticks_there : (q : State) (p ns : ℕ) (g : Entry) → q.running ≡ Some p → get q.runnable p ≡ Some g
    → (tick q ns).1 ≡ (tick_to q p (is_used_up g ns) (charged g ns)).1
ticks_there q p ns g is here = ap (λ (o : Option ℕ). (tick_running q o ns).1) is ∙ ap (λ (o : Option Entry). (tick_entry q p o ns).1) here

still_nobody : (q : State) (t : ℕ) (o : Option Entry) → q.running ≡ None → (without_entry q t o).running ≡ None
still_nobody q t None is = is
still_nobody q t (Some e) is = ap (λ (r : Option ℕ). stopped r t) is

stops : (q : State) (t : ℕ) (e : Entry) → q.running ≡ Some t → (without_entry q t (Some e)).running ≡ None
stops q t e is = ap (λ (r : Option ℕ). stopped r t) is ∙ ap (λ (b : Bool). cond {A = Option ℕ} b None (Some t)) (itself t)

still_runs : (q : State) (t p : ℕ) (o : Option Entry) → q.running ≡ Some p → (t == p) ≡ false → (without_entry q t o).running ≡ Some p
still_runs q t p None is other = is
still_runs q t p (Some e) is other = ap (λ (r : Option ℕ). stopped r t) is ∙ ap (λ (b : Bool). cond {A = Option ℕ} b None (Some p)) other

still_there : (q : State) (t p : ℕ) (o : Option Entry) → (t ≡ p → ⊥) → get (without_entry q t o).runnable p ≡ get q.runnable p
still_there q t p None apart = refl
still_there q t p (Some e) apart = get_left q.runnable p t apart

-- ---- the task that runs leaves
ran_by : (q : State) (t : ℕ) (e f : Entry) (resched b : Bool) → get q.runnable t ≡ Some e
    → HaveSameRunnable (leave q t)
    (leave ((cond {A = TickAnswer × State} b (Charged t resched, record q { runnable = insert q.runnable t f }) (Range, q)).1) t)
ran_by q t e f resched true here =
    then (leave q t) (without_entry q t (Some e)) _ (of_same _ _ (ap (without_entry q t) here))
    (then (without_entry q t (Some e)) (without_entry (record q { runnable = insert q.runnable t f }) t (Some f)) _
    (record { runnable = sym (removed_again q.runnable t f); running = refl })
    (of_same _ _ (sym (ap (without_entry (record q { runnable = insert q.runnable t f }) t) (get_here q.runnable t f)))))
ran_by q t e f resched false here = alike (leave q t)

-- ---- another one leaves
other_left : (q : State) (t p : ℕ) (f : Entry) (o : Option Entry) → (t ≡ p → ⊥)
    → HaveSameTimes (record (without_entry q t o) { runnable = insert (without_entry q t o).runnable p f })
    (without_entry (record q { runnable = insert q.runnable p f }) t o)
other_left q t p f None apart = times.alike (record q { runnable = insert q.runnable p f })
other_left q t p f (Some e) apart = record {
  tasks = record { runnable = removed_apart q.runnable t p f apart; running = refl };
  base = λ none. refl;
  shift = refl;
}

other_by : (q : State) (t p : ℕ) (f : Entry) (resched b : Bool) → (t ≡ p → ⊥)
    → HaveSameTimes ((cond {A = TickAnswer × State} b (Charged p resched, record (leave q t) { runnable = insert (leave q t).runnable p f }) (Range, leave q t)).1)
    (leave ((cond {A = TickAnswer × State} b (Charged p resched, record q { runnable = insert q.runnable p f }) (Range, q)).1) t)
other_by q t p f resched true apart =
    times.then _ (without_entry (record q { runnable = insert q.runnable p f }) t (get q.runnable t)) _ (other_left q t p f (get q.runnable t) apart)
    (times.of_same _ _ (ap (without_entry (record q { runnable = insert q.runnable p f }) t) (sym (get_apart q.runnable p t f apart))))
other_by q t p f resched false apart = times.alike (leave q t)

module _ (q : State) (t ns : ℕ) where
  absent_by : (p : ℕ) (b : Bool) → q.running ≡ Some p → get q.runnable p ≡ None → (t == p) ≡ b → (tick (leave q t) ns).1 ≡ leave q t
  absent_by p true is none same =
      let gone : get q.runnable t ≡ None = ap (get q.runnable) (equal t p same) ∙ none in
      let stays : leave q t ≡ q = ap (without_entry q t) gone in
      ap (λ (x : State). (tick x ns).1) stays ∙ absent_ticks q p ns is none ∙ sym stays
  absent_by p false is none other =
      absent_ticks (leave q t) p ns (still_runs q t p (get q.runnable t) is other)
      (still_there q t p (get q.runnable t) (unequal t p other) ∙ none)

  other_there : (p : ℕ) (g : Entry) → q.running ≡ Some p → get q.runnable p ≡ Some g → (t == p) ≡ false
      → HaveSameTimes ((tick (leave q t) ns).1) (leave ((tick_to q p (is_used_up g ns) (charged g ns)).1) t)
  other_there p g is here other =
      times.then _ ((tick_to (leave q t) p (is_used_up g ns) (charged g ns)).1) _
      (times.of_same _ _ (ticks_there (leave q t) p ns g (still_runs q t p (get q.runnable t) is other)
      (still_there q t p (get q.runnable t) (unequal t p other) ∙ here)))
      (other_by q t p (charged g ns) (is_used_up g ns) (is_entry_in_range (charged g ns)) (unequal t p other))

  there_by : (p : ℕ) (g : Entry) (b : Bool) → q.running ≡ Some p → get q.runnable p ≡ Some g → (t == p) ≡ b
      → HaveSameRunnable ((tick (leave q t) ns).1) (leave ((tick_to q p (is_used_up g ns) (charged g ns)).1) t)
  there_by p g true is here same =
      subst (λ (k : ℕ). HaveSameRunnable ((tick (leave q t) ns).1) (leave ((tick_to q k (is_used_up g ns) (charged g ns)).1) t)) (equal t p same)
      (then _ (leave q t) _ (of_same _ _ (nobody_ticks (leave q t) ns stopped_there))
      (ran_by q t g (charged g ns) (is_used_up g ns) (is_entry_in_range (charged g ns)) found))
    where
      found : get q.runnable t ≡ Some g
      found = ap (get q.runnable) (equal t p same) ∙ here

      stopped_there : (leave q t).running ≡ None
      stopped_there = ap (λ (o : Option Entry). (without_entry q t o).running) found ∙ stops q t g (is ∙ ap (λ (k : ℕ). Some k) (sym (equal t p same)))
  there_by p g false is here other = (other_there p g is here other).tasks

  absent_later : (p : ℕ) → q.running ≡ Some p → get q.runnable p ≡ None → (tick (leave q t) ns).1 ≡ leave ((tick q ns).1) t
  absent_later p is none = absent_by p (t == p) is none refl ∙ ap (λ (x : State). leave x t) (sym (absent_ticks q p ns is none))

  nobody_later : q.running ≡ None → (tick (leave q t) ns).1 ≡ leave ((tick q ns).1) t
  nobody_later is = nobody_ticks (leave q t) ns (still_nobody q t (get q.runnable t) is) ∙ ap (λ (x : State). leave x t) (sym (nobody_ticks q ns is))

  entry_by : (p : ℕ) (o : Option Entry) → q.running ≡ Some p → get q.runnable p ≡ o → HaveSameRunnable ((tick (leave q t) ns).1) (leave ((tick q ns).1) t)
  entry_by p None is none = of_same _ _ (absent_later p is none)
  entry_by p (Some g) is here =
      then _ _ _ (there_by p g (t == p) is here refl) (of_same _ _ (ap (λ (x : State). leave x t) (sym (ticks_there q p ns g is here))))

  runner_by : (o : Option ℕ) → q.running ≡ o → HaveSameRunnable ((tick (leave q t) ns).1) (leave ((tick q ns).1) t)
  runner_by None is = of_same _ _ (nobody_later is)
  runner_by (Some p) is = entry_by p (get q.runnable p) is refl

  pub leaves_later : HaveSameRunnable ((tick (leave q t) ns).1) (leave ((tick q ns).1) t)
  leaves_later = runner_by q.running refl

  -- ---- and the times are the same too, where somebody runs when it has left
  runs_there : (p : ℕ) (g : Entry) (b : Bool) → q.running ≡ Some p → get q.runnable p ≡ Some g → (t == p) ≡ b → is_some (leave q t).running ≡ true
      → HaveSameTimes ((tick (leave q t) ns).1) (leave ((tick_to q p (is_used_up g ns) (charged g ns)).1) t)
  runs_there p g true is here same runs =
      let none : (leave q t).running ≡ None =
      ap (λ (o : Option Entry). (without_entry q t o).running) (ap (get q.runnable) (equal t p same) ∙ here)
      ∙ stops q t g (is ∙ ap (λ (k : ℕ). Some k) (sym (equal t p same))) in
      let nobody : is_some (leave q t).running ≡ false = ap (λ (o : Option ℕ). is_some o) none in
      cc
  runs_there p g false is here other runs = other_there p g is here other

  runs_entry : (p : ℕ) (o : Option Entry) → q.running ≡ Some p → get q.runnable p ≡ o → is_some (leave q t).running ≡ true
      → HaveSameTimes ((tick (leave q t) ns).1) (leave ((tick q ns).1) t)
  runs_entry p None is none runs = times.of_same _ _ (absent_later p is none)
  runs_entry p (Some g) is here runs =
      times.then _ _ _ (runs_there p g (t == p) is here refl runs) (times.of_same _ _ (ap (λ (x : State). leave x t) (sym (ticks_there q p ns g is here))))

  runs_by : (o : Option ℕ) → q.running ≡ o → is_some (leave q t).running ≡ true → HaveSameTimes ((tick (leave q t) ns).1) (leave ((tick q ns).1) t)
  runs_by None is runs = times.of_same _ _ (nobody_later is)
  runs_by (Some p) is runs = runs_entry p (get q.runnable p) is refl runs

  pub leaves_in_time : is_some (leave q t).running ≡ true → HaveSameTimes ((tick (leave q t) ns).1) (leave ((tick q ns).1) t)
  leaves_in_time runs = runs_by q.running refl runs
