-- What ticks and turns do to the sums and to each task, by the time that was charged.
use Rattle.std.proofs.Common.{◌≡◌, ℕ, ◌+◌, ◌-◌, ◌*◌, ◌%◌, ◌≤◌, Bool, true, false, cond, List, [], ◌∷◌, Option, Some, None, refl, sym, ap, ◌∙◌, subst, arith}
use Rattle.std.specs.Prelude.{ℤ, pos, ◌+ℤ◌, ◌*ℤ◌, ◌==◌, is_some}
use Rattle.std.specs.{Ordering.nat_cmp, Ordering.eq_by_cmp, Cmp.nat_cmp_total}
use Rattle.std.specs.FinMap.{get, insert, len, len-insert, get-insert}
use Rattle.std.proofs.{lemmas.Int.ints, lemmas.Bool.Decides.nat_tests}
use Rattle.eevdf_weight.specs.{Weight.weight_of, Charge.charge_of}
use Rattle.eevdf_weight.proofs.Weighing.{weight_of-least}
use Rattle.eevdf_queue.specs.{declared.entry.Entry.Entry, declared.answers.TickAnswer.TickAnswer, State.State}
use Rattle.eevdf_queue.specs.declared.answers.TickAnswer.TheVariants.{Charged, Range}
use Rattle.eevdf_queue.specs.{Moves.is_entry_in_range, Moves.fresh_entry, Sums.Tasks, Sums.total_weight, Sums.total_moment, Pick.pick_of, Pick.picked_by, Pick.after_pick}
use Rattle.eevdf_queue.specs.Tick.{aged, is_used_up, charged, tick, tick_entry, tick_running}
use Rattle.eevdf_queue.proofs.Scaled.{sum_scaled}
use Rattle.eevdf_fairness.specs.{Keeping.IsStillThere, Keeping.TurnsKeepTasks, Share.most_lost, Share.NoneLosesMore}
use Rattle.eevdf_fairness.specs.Turns.{Turn, after_ticks, after_turn, after_turns}
use Rattle.eevdf_fairness.specs.Tallies.{over_ticks, over_turns, if_charged, if_charged_to, remainder, remainder_of}
use Rattle.eevdf_ops.proofs.MapCounts.{equal}
use Rattle.eevdf_fairness.proofs.EntrySums.{sum_over, sum_insert, weight, moment, weights, moments, the_same, same_weight}
use Rattle.eevdf_fairness.proofs.Growing.{get_here, found_after}

-- the entry that a task has now: it was charged for so much time, less what rounding took, in so many charges
pub record IsServed (e : Entry) (time rounding charges : ℕ) (now : Option Entry) : Type 0 where
  pub entry : Entry
  pub here : now ≡ Some entry
  pub same_nice : entry.nice ≡ e.nice
  pub same_slice : entry.slice ≡ e.slice
  pub runtime : (entry.v *ℤ pos (weight_of e.nice)) +ℤ pos rounding ≡ (e.v *ℤ pos (weight_of e.nice)) +ℤ pos (1024 * time)
  pub rounded : rounding ≤ most_lost (weight_of e.nice) * charges

-- what so much time, in so many charges, does to the tasks and to one of them
pub record HasPassed (t : ℕ) (before after : Tasks) (time rounding charges task_time task_rounding task_charges : ℕ) : Type 0 where
  pub weight : total_weight after ≡ total_weight before
  pub count : len after ≡ len before
  pub moment : total_moment after +ℤ pos rounding ≡ total_moment before +ℤ pos (1024 * time)
  pub lighter : (most : ℕ) → NoneLosesMore most before → NoneLosesMore most after
  pub rounded : (most : ℕ) → NoneLosesMore most before → rounding ≤ most * charges
  pub served : (e : Entry) → get before t ≡ Some e → IsServed e task_time task_rounding task_charges (get after t)

not_served : (e : Entry) (o : Option Entry) → o ≡ Some e → IsServed e 0 0 0 o
not_served e o here = record { entry = e; here = here; same_nice = refl; same_slice = refl; runtime = refl; rounded = omega arith }

pub nothing_passed : (t : ℕ) (tasks : Tasks) → HasPassed t tasks tasks 0 0 0 0 0 0
nothing_passed t tasks = record {
  weight = refl;
  count = refl;
  moment = refl;
  lighter = λ most none. none;
  rounded = λ most none. omega arith;
  served = λ e here. not_served e (get tasks t) here;
}

added : (a b c : ℤ) (x y i j : ℕ) → b +ℤ pos x ≡ a +ℤ pos (1024 * i) → c +ℤ pos y ≡ b +ℤ pos (1024 * j) → c +ℤ pos (x + y) ≡ a +ℤ pos (1024 * (i + j))
added a b c x y i j h k = omega (arith, ints, h, k)

more_rounded : (w x y i j : ℕ) → x ≤ w * i → y ≤ w * j → x + y ≤ w * (i + j)
more_rounded w x y i j h k = omega (arith, h, k)

served_more : (e : Entry) (i x k j y l : ℕ) (o p : Option Entry) (f : IsServed e i x k o) → IsServed f.entry j y l p → IsServed e (i + j) (x + y) (k + l) p
served_more e i x k j y l o p f g = record {
  entry = g.entry;
  here = g.here;
  same_nice = g.same_nice ∙ f.same_nice;
  same_slice = g.same_slice ∙ f.same_slice;
  runtime = added (e.v *ℤ pos (weight_of e.nice)) (f.entry.v *ℤ pos (weight_of e.nice)) (g.entry.v *ℤ pos (weight_of e.nice)) x y i j f.runtime
      (subst (λ (z : ℤ). (g.entry.v *ℤ pos (weight_of z)) +ℤ pos y ≡ (f.entry.v *ℤ pos (weight_of z)) +ℤ pos (1024 * j)) f.same_nice g.runtime);
  rounded = more_rounded (most_lost (weight_of e.nice)) x y k l f.rounded (subst (λ (z : ℤ). y ≤ most_lost (weight_of z) * l) f.same_nice g.rounded);
}

pub then_passed : (t : ℕ) (a b c : Tasks) (i x k p q r j y l s u v : ℕ) → HasPassed t a b i x k p q r → HasPassed t b c j y l s u v
    → HasPassed t a c (i + j) (x + y) (k + l) (p + s) (q + u) (r + v)
then_passed t a b c i x k p q r j y l s u v f g = record {
  weight = g.weight ∙ f.weight;
  count = g.count ∙ f.count;
  moment = added (total_moment a) (total_moment b) (total_moment c) x y i j f.moment g.moment;
  lighter = λ most none. g.lighter most (f.lighter most none);
  rounded = λ most none. more_rounded most x y k l (f.rounded most none) (g.rounded most (f.lighter most none));
  served = λ e here.
      let first : IsServed e p q r (get b t) = f.served e here in
      served_more e p q r s u v (get b t) (get c t) first (g.served first.entry first.here);
}

-- ---- one charge
charged_fields : (e : Entry) (ns : ℕ) → ((charged e ns).v ≡ aged e ns) × ((charged e ns).nice ≡ e.nice) × ((charged e ns).slice ≡ e.slice)
charged_fields e ns =
    by (is_used_up e ns)
  where
    by : (b : Bool)
        → ((cond b (fresh_entry (aged e ns) e.nice e.slice) (record e { v = aged e ns })).v ≡ aged e ns)
        × ((cond b (fresh_entry (aged e ns) e.nice e.slice) (record e { v = aged e ns })).nice ≡ e.nice)
        × ((cond b (fresh_entry (aged e ns) e.nice e.slice) (record e { v = aged e ns })).slice ≡ e.slice)
    by true = (refl, refl, refl)
    by false = (refl, refl, refl)

pub whole_charge : (ns w : ℕ) → charge_of ns w * w + (ns * 1024) % w ≡ 1024 * ns
unfolding charge_of
whole_charge ns w = omega arith

remainder_below : (n w : ℕ) → 15 ≤ w → n % w ≤ (w - 1) * 1
remainder_below n w h = omega arith

charged_moment : (a b : ℤ) (i x w y n : ℕ) → b ≡ a +ℤ pos i → i * w + x ≡ 1024 * n → y ≡ w → (b *ℤ pos y) +ℤ pos x ≡ (a *ℤ pos w) +ℤ pos (1024 * n)
charged_moment a b i x w y n h k l =
    let is : b *ℤ pos y ≡ (a *ℤ pos w) +ℤ pos (i * w) = ap (λ (m : ℕ). b *ℤ pos m) l ∙ ap (λ (z : ℤ). z *ℤ pos w) h ∙ sum_scaled a (pos i) w in
    omega (arith, ints, is, k)

moment_grows : (A B S T a b : ℤ) (x n : ℕ) → A ≡ S → B ≡ T → A +ℤ a ≡ B +ℤ b → b +ℤ pos x ≡ a +ℤ pos (1024 * n) → S +ℤ pos x ≡ T +ℤ pos (1024 * n)
moment_grows A B S T a b x n h k l e = omega (arith, ints, h, k, l, e)

small : (x l most : ℕ) → x ≤ l * 1 → l ≤ most → x ≤ most * 1
small x l most h k = omega (arith, h, k)

lost_by : (ns w : ℕ) (b : Bool) → (w == 1024) ≡ b → 15 ≤ w → (ns * 1024) % w ≤ cond b 0 (w - 1) * 1
lost_by ns w true is h = subst (λ (x : ℕ). (ns * 1024) % x ≤ 0 * 1) (sym (equal w 1024 is)) (omega arith)
lost_by ns w false is h = remainder_below (ns * 1024) w h

remainder_lost : (ns w : ℕ) → 15 ≤ w → (ns * 1024) % w ≤ most_lost w * 1
remainder_lost ns w h = lost_by ns w (w == 1024) refl h

pub other_number : (u x : ℕ) → (u == x) ≡ false → eq_by_cmp nat_cmp x u ≡ false
other_number u x h = grind (arith, nat_tests)

module _ (tasks : Tasks) (p : ℕ) (e : Entry) (ns : ℕ) (here : get tasks p ≡ Some e) where
  charged_runtime : (moment (charged e ns)) +ℤ pos ((ns * 1024) % weight_of e.nice) ≡ moment e +ℤ pos (1024 * ns)
  charged_runtime =
      let f = charged_fields e ns in
      charged_moment e.v (charged e ns).v (charge_of ns (weight_of e.nice)) ((ns * 1024) % weight_of e.nice) (weight_of e.nice) (weight_of (charged e ns).nice) ns
      f.0 (whole_charge ns (weight_of e.nice)) (ap weight_of f.1)

  served_itself : IsServed e ns ((ns * 1024) % weight_of e.nice) 1 (get (insert tasks p (charged e ns)) p)
  served_itself =
      let f = charged_fields e ns in
      record {
        entry = charged e ns;
        here = get_here tasks p (charged e ns);
        same_nice = f.1;
        same_slice = f.2;
        runtime = charged_moment e.v (charged e ns).v (charge_of ns (weight_of e.nice)) ((ns * 1024) % weight_of e.nice) (weight_of e.nice) (weight_of e.nice) ns
            f.0 (whole_charge ns (weight_of e.nice)) refl;
        rounded = remainder_lost ns (weight_of e.nice) (weight_of-least e.nice);
      }

  served_by : (t : ℕ) (b : Bool) → (p == t) ≡ b → (g : Entry) → get tasks t ≡ Some g
      → IsServed g (cond b ns 0) (cond b ((ns * 1024) % weight_of e.nice) 0) (cond b 1 0) (get (insert tasks p (charged e ns)) t)
  served_by t true is g found =
      let same : p ≡ t = equal p t is in
      let itself : e ≡ g = the_same e g (sym here ∙ ap (get tasks) same ∙ found) in
      subst (λ (x : Entry). IsServed x ns ((ns * 1024) % weight_of e.nice) 1 (get (insert tasks p (charged e ns)) t)) itself
      (subst (λ (u : ℕ). IsServed e ns ((ns * 1024) % weight_of e.nice) 1 (get (insert tasks p (charged e ns)) u)) same served_itself)
  served_by t false is g found =
      not_served g (get (insert tasks p (charged e ns)) t)
      (get-insert nat_cmp_total tasks p (charged e ns) t ∙ ap (λ (b : Bool). cond b (Some (charged e ns)) (get tasks t)) (other_number p t is) ∙ found)

  pub charge_passed : (t : ℕ) → HasPassed t tasks (insert tasks p (charged e ns)) ns ((ns * 1024) % weight_of e.nice) 1
      (cond (p == t) ns 0) (cond (p == t) ((ns * 1024) % weight_of e.nice) 0) (cond (p == t) 1 0)
  charge_passed t = record {
    weight = same_weight (total_weight (insert tasks p (charged e ns))) (total_weight tasks) (weight_of e.nice) (weight_of (charged e ns).nice)
        (sum_over weight (insert tasks p (charged e ns))) (sum_over weight tasks) (weights (insert tasks p (charged e ns))) (weights tasks)
        (sum_insert weight tasks p e (charged e ns) here) (ap weight_of (charged_fields e ns).1);
    count = len-insert nat_cmp_total tasks p (charged e ns) ∙ ap (λ (o : Option Entry). cond (is_some o) (len tasks) (len tasks + 1)) here;
    moment = moment_grows (sum_over moment (insert tasks p (charged e ns))) (sum_over moment tasks) (total_moment (insert tasks p (charged e ns))) (total_moment tasks)
        (moment e) (moment (charged e ns)) ((ns * 1024) % weight_of e.nice) ns (moments (insert tasks p (charged e ns))) (moments tasks)
        (sum_insert moment tasks p e (charged e ns) here) charged_runtime;
    lighter = λ most none.
        found_after (λ x. most_lost (weight_of x.nice) ≤ most) tasks p (charged e ns)
        (subst (λ (z : ℤ). most_lost (weight_of z) ≤ most) (sym (charged_fields e ns).1) (none p e here)) none;
    rounded = λ most none.
        small ((ns * 1024) % weight_of e.nice) (most_lost (weight_of e.nice)) most (remainder_lost ns (weight_of e.nice) (weight_of-least e.nice)) (none p e here);
    served = λ g found. served_by t (p == t) refl g found;
  }

-- ---- one tick, ticks, a turn, turns
module _ (t : ℕ) where
  -- by an answer, the queue after it and what rounding would take
  abbrev TickPassed : State → ℕ → ℕ → TickAnswer × State → Type 0
  TickPassed q ns x z = HasPassed t q.runnable (z.1).runnable (if_charged (z.0) ns) (if_charged (z.0) x) (if_charged (z.0) 1)
      (if_charged_to t (z.0) ns) (if_charged_to t (z.0) x) (if_charged_to t (z.0) 1)

  in_range_by : (q : State) (p ns : ℕ) (resched : Bool) (e : Entry) → get q.runnable p ≡ Some e → (b : Bool)
      → TickPassed q ns ((ns * 1024) % weight_of e.nice)
      (cond {A = TickAnswer × State} b (Charged p resched, record q { runnable = insert q.runnable p (charged e ns) }) (Range, q))
  in_range_by q p ns resched e here true = charge_passed q.runnable p e ns here t
  in_range_by q p ns resched e here false = nothing_passed t q.runnable

  entry_by : (q : State) (p ns : ℕ) (o : Option Entry) → get q.runnable p ≡ o → TickPassed q ns (remainder_of o ns) (tick_entry q p o ns)
  entry_by q p ns None here = nothing_passed t q.runnable
  entry_by q p ns (Some e) here = in_range_by q p ns (is_used_up e ns) e here (is_entry_in_range (charged e ns))

  runner_by : (q : State) (ns : ℕ) (o : Option ℕ) → TickPassed q ns (remainder q o ns) (tick_running q o ns)
  runner_by q ns None = nothing_passed t q.runnable
  runner_by q ns (Some p) = entry_by q p ns (get q.runnable p) refl

  abbrev AllPassed : Tasks → Tasks → ((State → ℕ → ℕ) → ℕ) → Type 0
  AllPassed before after sum = HasPassed t before after (sum (λ r ns. if_charged (tick r ns).0 ns)) (sum (λ r ns. if_charged (tick r ns).0 (remainder r r.running ns)))
      (sum (λ r ns. if_charged (tick r ns).0 1)) (sum (λ r ns. if_charged_to t (tick r ns).0 ns)) (sum (λ r ns. if_charged_to t (tick r ns).0 (remainder r r.running ns)))
      (sum (λ r ns. if_charged_to t (tick r ns).0 1))

  ticks_passed : (q : State) (turn : Turn) → AllPassed q.runnable (after_ticks q turn).runnable (λ f. over_ticks f q turn)
  ticks_passed q [] = nothing_passed t q.runnable
  ticks_passed q (ns ∷ turn) =
      then_passed t q.runnable ((tick q ns).1).runnable (after_ticks ((tick q ns).1) turn).runnable _ _ _ _ _ _ _ _ _ _ _ _ (runner_by q ns q.running) (ticks_passed ((tick q ns).1) turn)

  same_tasks : (q : State) (o : Option ℕ) → (picked_by q o).runnable ≡ q.runnable
  same_tasks q None = refl
  same_tasks q (Some p) = refl

  pub turns_passed : (q : State) (turns : List Turn) → AllPassed q.runnable (after_turns q turns).runnable (λ f. over_turns f q turns)
  turns_passed q [] = nothing_passed t q.runnable
  turns_passed q (turn ∷ turns) =
      let one : AllPassed (after_pick q).runnable (after_turn q turn).runnable (λ f. over_ticks f (after_pick q) turn) = ticks_passed (after_pick q) turn in
      then_passed t q.runnable (after_turn q turn).runnable (after_turns (after_turn q turn) turns).runnable _ _ _ _ _ _ _ _ _ _ _ _
      (subst (λ (m : Tasks). AllPassed m (after_turn q turn).runnable (λ f. over_ticks f (after_pick q) turn)) (same_tasks q (pick_of q.runnable)) one)
      (turns_passed (after_turn q turn) turns)

still_there : (e : Entry) (i x k : ℕ) (o : Option Entry) → IsServed e i x k o → IsStillThere e o
still_there e i x k o f = record { entry = f.entry; here = f.here; same_nice = f.same_nice; same_slice = f.same_slice }

pub turns_keep_tasks : TurnsKeepTasks
turns_keep_tasks q turns = record {
  weight = (turns_passed 0 q turns).weight;
  count = (turns_passed 0 q turns).count;
  there = λ t e here. still_there e _ _ _ (get (after_turns q turns).runnable t) ((turns_passed t q turns).served e here);
}
