-- Picks, ticks, yields, rebases and leavings keep a queue fair.
use Rattle.std.proofs.Common.{◌≡◌, ℕ, ◌^◌, ◌⊎◌, Bool, true, false, cond, Option, Some, None, refl, sym, ap, ◌∙◌, subst, inl, inr, arith}
use Rattle.std.specs.Prelude.{ℤ, pos, negsuc, neg_ℤ, ◌+ℤ◌, ◌-ℤ◌, ◌≤ℤ◌, int_le}
use Rattle.std.specs.{Option.option_map, FinMap.get, FinMap.insert, Int.int_max}
use Rattle.std.proofs.{lemmas.Int.ints, lemmas.Int.clamps}
use Rattle.eevdf_weight.specs.{Weight.weight_of, Charge.charge_of}
use Rattle.eevdf_queue.specs.{declared.entry.Entry.Entry, State.State, Sums.Tasks, Kept.IsKept, Kept.AreInRange, Laws.PickIsFirst, Laws.PickOfNobody}
use Rattle.eevdf_queue.specs.declared.answers.TickAnswer.TheVariants.{Charged}
use Rattle.eevdf_queue.specs.declared.answers.YieldAnswer.{YieldAnswer}
use Rattle.eevdf_queue.specs.declared.answers.YieldAnswer.TheVariants as yields
use Rattle.eevdf_queue.specs.declared.answers.YieldAnswer.TheVariants.{Yielded}
use Rattle.eevdf_weight.specs.Limits.{is_in_range}
use Rattle.eevdf_queue.specs.{Moves.fresh_entry, Tick.is_used_up}
use Rattle.eevdf_queue.specs.{Pick.pick_of, Pick.after_pick, Tick.charged, Tick.tick, Tick.aged, Tick.entry_of_runner, Tick.running_entry, Yield.yielded, Yield.yield_now, Yield.yield_to, Yield.yield_entry, Yield.yield_running}
use Rattle.eevdf_queue.specs.{Rebase.rebase, Rebase.rebased, Rebase.can_rebase, Rebase.lowered_entry, Rebase.lowered_tasks, Sums.virtual_time}
use Rattle.eevdf_queue.proofs.LoweredMaps.{get-lowered}
use Rattle.eevdf_fairness.proofs.Growing.{get_here, found_at_after, charged_grown}
use Rattle.eevdf_dozes.specs.Stretches.{NoneIsPastDue}
use Rattle.eevdf_dozes.proofs.PicksInTime.{same_tasks, runner_in_time, IsInTime}
use Rattle.eevdf_dozes.proofs.Ticking.{tick_cases}
use Rattle.eevdf_fair_queue.specs.{declared.bounds.Bounds.Bounds, Bounds.held, Bounds.picked, Bounds.ticked, Bounds.reached, Bounds.ticked_by, Bounds.charged_to, Bounds.charged_from, Bounds.lowered}
use Rattle.eevdf_fair_queue.specs.Fair.{IsNear, AreBehind, AreNear, IsTurn, IsFair, charged_by}
use Rattle.eevdf_fair_queue.proofs.Nearness.{same_or_other, small, IsSmall, held_above, held_past, held_some, stays_near, near_later, IsReached}
use Rattle.eevdf_fair_queue.proofs.Nearness.{reaches as reached_to}
use Rattle.eevdf_fair_queue.proofs.Orders.{nothing_less, then, greatest, greatest_other, past_none, one, no_turn}

no_longer : (v d : ℤ) → v ≤ℤ d → v ≤ℤ (d +ℤ pos 0)
no_longer v d h = omega (arith, ints, h)

-- ---- a pick
module _ (first : PickIsFirst) (nobody : PickOfNobody) (q : State) (b : Bounds) (fair : IsFair q b) where
  there : (t : ℕ) (e : Entry) → get (after_pick q).runnable t ≡ Some e → get q.runnable t ≡ Some e
  there t e here = ap (λ (m : Tasks). get m t) (sym (same_tasks q (pick_of q.runnable))) ∙ here

  in_time : (t u : ℕ) (e f : Entry) → (after_pick q).running ≡ Some t → get q.runnable t ≡ Some e → get q.runnable u ≡ Some f → e.v ≤ℤ (f.d +ℤ pos 0)
  in_time t u e f runs at here =
      let timely : IsInTime q.runnable t f.d = runner_in_time first nobody q u t f fair.due here runs in
      subst (λ (x : Entry). x.v ≤ℤ (f.d +ℤ pos 0)) (one timely.entry e (get q.runnable t) timely.here at) (no_longer timely.entry.v f.d timely.timely)

  turn_begins : (turn : ℤ) → Some (pos 0) ≡ Some turn → IsTurn (after_pick q) turn
  turn_begins turn is =
      let none : pos 0 ≡ turn = cc in
      subst (λ (x : ℤ). IsTurn (after_pick q) x) none
      (record { some = nothing_less (pos 0); past = λ t u e f runs at here. in_time t u e f runs (there t e at) (there u f here) })

  pub pick_keeps : IsFair (after_pick q) (picked b)
  pick_keeps = record {
    due = λ t e here. fair.due t e (there t e here);
    longest = fair.longest;
    behind = λ t e at. fair.behind t e (there t e at);
    near = λ t e at. fair.near t e (there t e at);
    turn = turn_begins;
  }

-- ---- a tick
-- how far the bounds reach after a charge: the furthest is where it was, or the front has come to it, or it is who was charged in its turn
record Reaches (b c : Bounds) (v charge : ℤ) : Type 0 where
  front : b.front ≤ℤ c.front
  furthest : b.furthest ≤ℤ c.furthest
  longest : b.longest ≤ℤ c.longest
  some : pos 0 ≤ℤ c.longest
  behind : v ≤ℤ c.furthest
  now : (c.furthest ≡ b.furthest) ⊎ ((c.furthest ≤ℤ c.front) ⊎ ((turn : ℤ) × (b.turn ≡ Some turn) × (c.furthest ≡ v) × (held (turn +ℤ charge) ≤ℤ c.longest)))
  turn : (n : ℤ) → c.turn ≡ Some n → (turn : ℤ) × (b.turn ≡ Some turn) × (n ≡ held (turn +ℤ charge))

either : (a b : ℤ) → (int_max a b ≡ a) ⊎ (int_max a b ≡ b)
either a b =
    by (int_le b a) refl
  where
    by : (c : Bool) → int_le b a ≡ c → (int_max a b ≡ a) ⊎ (int_max a b ≡ b)
    by true is = inl (omega (arith, ints, clamps, is))
    by false is = inr (omega (arith, ints, clamps, is))

the_same : (a b : ℤ) → Some a ≡ Some b → b ≡ a
the_same a b h = cc

out_of_turn : (b c : Bounds) (v charge : ℤ) → b.turn ≡ None → pos 0 ≤ℤ b.longest → IsReached b c v → Reaches b c v charge
out_of_turn b c v charge is some re = record {
  front = re.front;
  furthest = re.furthest;
  longest = subst (λ (z : ℤ). b.longest ≤ℤ z) (sym re.longest) (nothing_less b.longest);
  some = subst (λ (z : ℤ). pos 0 ≤ℤ z) (sym re.longest) some;
  behind = re.behind;
  now = by re.now;
  turn = λ n. no_turn n c.turn (re.turn ∙ is);
}
  where
    by : (c.furthest ≡ b.furthest) ⊎ (c.furthest ≤ℤ c.front)
        → (c.furthest ≡ b.furthest) ⊎ ((c.furthest ≤ℤ c.front) ⊎ ((turn : ℤ) × (b.turn ≡ Some turn) × (c.furthest ≡ v) × (held (turn +ℤ charge) ≤ℤ c.longest)))
    by (inl same) = inl same
    by (inr past) = inr (inl past)

reaches : (b : Bounds) (v charge : ℤ) (o : Option ℤ) → b.turn ≡ o → pos 0 ≤ℤ b.longest → Reaches b (ticked_by b charge v o) v charge
reaches b v charge None is some = out_of_turn b (reached b v) v charge is some (reached_to b v)
reaches b v charge (Some turn) is some = record {
  front = nothing_less b.front;
  furthest = greatest b.furthest v;
  longest = greatest b.longest (held (turn +ℤ charge));
  some = then (pos 0) b.longest (int_max b.longest (held (turn +ℤ charge))) some (greatest b.longest (held (turn +ℤ charge)));
  behind = greatest_other b.furthest v;
  now = by (either b.furthest v);
  turn = λ n same. (turn, is, the_same (held (turn +ℤ charge)) n same);
}
  where
    far : ℤ
    far = int_max b.furthest v

    long : ℤ
    long = int_max b.longest (held (turn +ℤ charge))

    by : (far ≡ b.furthest) ⊎ (far ≡ v)
        → (far ≡ b.furthest) ⊎ ((far ≤ℤ b.front) ⊎ ((turn' : ℤ) × (b.turn ≡ Some turn') × (far ≡ v) × (held (turn' +ℤ charge) ≤ℤ long)))
    by (inl same) = inl same
    by (inr same) = inr (inr (turn, is, same, greatest_other b.longest (held (turn +ℤ charge))))

module _ (q : State) (b c : Bounds) (p : ℕ) (e g : Entry) (charge : ℤ) (fair : IsFair q b) (runs : q.running ≡ Some p) (here : get q.runnable p ≡ Some e)
    (moved : g.v ≡ e.v +ℤ charge) (some : pos 0 ≤ℤ charge) (later : e.d ≤ℤ g.d) (timely : g.v ≤ℤ g.d)
    (small_g : IsSmall g) (smalls : (t : ℕ) (x : Entry) → get q.runnable t ≡ Some x → IsSmall x) (re : Reaches b c g.v charge) where
  abbrev r : State
  r = record q { runnable = insert q.runnable p g }

  due : NoneIsPastDue r.runnable
  due = found_at_after (λ t x. x.v ≤ℤ x.d) q.runnable p g timely fair.due

  wide : (v d : ℤ) → IsNear b v d → IsNear c v d
  wide v d = stays_near b c v d re.front re.longest

  before : (t : ℕ) (x : Entry) → (t ≡ p → ⊥) → get r.runnable t ≡ Some x → get q.runnable t ≡ Some x
  before t x other at =
      found_at_after (λ u y. (u ≡ p → ⊥) → get q.runnable u ≡ Some y) q.runnable p g (λ not. absurd (not refl)) (λ u y is not. is) t x at other

  itself : (t : ℕ) (x : Entry) → t ≡ p → get r.runnable t ≡ Some x → x ≡ g
  itself t x same at = one x g (get r.runnable p) (ap (get r.runnable) (sym same) ∙ at) (get_here q.runnable p g)

  charged_past : (v d turn by : ℤ) → g.v ≤ℤ pos (2 ^ 60) → v ≤ℤ (d +ℤ turn) → g.v ≡ v +ℤ by → g.v ≤ℤ (d +ℤ (turn +ℤ by))
  charged_past v d turn by little h k = omega (arith, ints, h, k)

  -- whoever was charged is past no other deadline by more than its turn
  in_turn : (turn : ℤ) → b.turn ≡ Some turn → (u : ℕ) (y : Entry) → get q.runnable u ≡ Some y → g.v ≤ℤ (y.d +ℤ held (turn +ℤ charge))
  in_turn turn is u y at =
      held_past g.v y.d (turn +ℤ charge) small_g.v (smalls u y at).d
      (charged_past e.v y.d turn charge small_g.v ((fair.turn turn is).past p u e y runs here at) moved)

  out_to : (v d a l : ℤ) → v ≤ℤ (d +ℤ a) → a ≤ℤ l → v ≤ℤ (d +ℤ l)
  out_to v d a l h k = omega (arith, ints, h, k)

  some_turn : (turn : ℤ) → pos 0 ≤ℤ turn → pos 0 ≤ℤ (turn +ℤ charge)
  some_turn turn h = omega (arith, ints, h, some)

  behind : AreBehind c r.runnable
  behind t x at =
      by (same_or_other t p)
    where
      by : (t ≡ p) ⊎ (t ≡ p → ⊥) → x.v ≤ℤ c.furthest
      by (inl s) = subst (λ (z : Entry). z.v ≤ℤ c.furthest) (sym (itself t x s at)) re.behind
      by (inr s) = then x.v b.furthest c.furthest (fair.behind t x (before t x s at)) re.furthest

  -- the furthest is near each deadline that it was near, and who is charged in its turn is past it by no more than that
  near_to : (d : ℤ) → IsNear b b.furthest d → ((turn : ℤ) → b.turn ≡ Some turn → g.v ≤ℤ (d +ℤ held (turn +ℤ charge))) → IsNear c c.furthest d
  near_to d was in_turn_of =
      by re.now
    where
      by : (c.furthest ≡ b.furthest) ⊎ ((c.furthest ≤ℤ c.front) ⊎ ((turn : ℤ) × (b.turn ≡ Some turn) × (c.furthest ≡ g.v) × (held (turn +ℤ charge) ≤ℤ c.longest)))
          → IsNear c c.furthest d
      by (inl same) = subst (λ (v : ℤ). IsNear c v d) (sym same) (wide b.furthest d was)
      by (inr (inl past)) = inl past
      by (inr (inr h)) =
          inr (subst (λ (v : ℤ). v ≤ℤ (d +ℤ c.longest)) (sym h.2) (out_to g.v d (held (h.0 +ℤ charge)) c.longest (in_turn_of h.0 h.1) h.3))

  near : AreNear c r.runnable
  near t x at =
      by (same_or_other t p)
    where
      by : (t ≡ p) ⊎ (t ≡ p → ⊥) → IsNear c c.furthest x.d
      by (inl s) =
          subst (λ (z : Entry). IsNear c c.furthest z.d) (sym (itself t x s at))
          (near_to g.d (near_later b b.furthest e.d g.d later (fair.near p e here))
          (λ turn is. past_none g.v g.d (held (turn +ℤ charge)) timely (held_some (turn +ℤ charge) (some_turn turn (fair.turn turn is).some))))
      by (inr s) = near_to x.d (fair.near t x (before t x s at)) (λ turn is. in_turn turn is t x (before t x s at))

  turn_of : (n : ℤ) → c.turn ≡ Some n → IsTurn r n
  turn_of n is =
      let old = re.turn n is in
      subst (λ (x : ℤ). IsTurn r x) (sym old.2) (record {
        some = held_some (old.0 +ℤ charge) (some_turn old.0 (fair.turn old.0 old.1).some);
        past = λ t u x y ran at there. past old.0 old.1 t u x y ran at there;
      })
    where
      past : (turn : ℤ) → b.turn ≡ Some turn → (t u : ℕ) (x y : Entry) → q.running ≡ Some t → get r.runnable t ≡ Some x → get r.runnable u ≡ Some y
          → x.v ≤ℤ (y.d +ℤ held (turn +ℤ charge))
      past turn is t u x y ran at there =
          let same : t ≡ p = cc in
          subst (λ (z : Entry). z.v ≤ℤ (y.d +ℤ held (turn +ℤ charge))) (sym (itself t x same at)) (by (same_or_other u p))
        where
          by : (u ≡ p) ⊎ (u ≡ p → ⊥) → g.v ≤ℤ (y.d +ℤ held (turn +ℤ charge))
          by (inl k) =
              subst (λ (z : Entry). g.v ≤ℤ (z.d +ℤ held (turn +ℤ charge))) (sym (itself u y k there))
              (past_none g.v g.d (held (turn +ℤ charge)) timely (held_some (turn +ℤ charge) (some_turn turn (fair.turn turn is).some)))
          by (inr k) = in_turn turn is u y (before u y k there)

  charge_keeps : IsFair r c
  charge_keeps = record { due = due; longest = re.some; behind = behind; near = near; turn = turn_of }

charged_runtime : (e : Entry) (ns : ℕ) → (charged e ns).v ≡ aged e ns
charged_runtime e ns =
    by (is_used_up e ns)
  where
    by : (b : Bool) → (cond b (fresh_entry (aged e ns) e.nice e.slice) (record e { v = aged e ns })).v ≡ aged e ns
    by true = refl
    by false = refl

charged_due : (e : Entry) (ns : ℕ) → (charged e ns).v ≤ℤ (charged e ns).d
charged_due e ns =
    by (is_used_up e ns) refl
  where
    by : (b : Bool) → is_used_up e ns ≡ b
        → (cond b (fresh_entry (aged e ns) e.nice e.slice) (record e { v = aged e ns })).v
        ≤ℤ (cond b (fresh_entry (aged e ns) e.nice e.slice) (record e { v = aged e ns })).d
    by true is = omega (arith, ints)
    by false is = omega (arith, ints, is)

no_less : (n : ℕ) → pos 0 ≤ℤ pos n
no_less n = omega (arith, ints)

charge_fair : (q : State) (b : Bounds) (ns p : ℕ) (e : Entry) (resched : Bool) → IsKept q → IsFair q b → q.running ≡ Some p → get q.runnable p ≡ Some e
    → AreInRange (insert q.runnable p (charged e ns))
    → IsFair (record q { runnable = insert q.runnable p (charged e ns) })
    (charged_by b ns (Charged p resched) (record q { runnable = insert q.runnable p (charged e ns) }))
charge_fair q b ns p e resched kept fair runs here in_range =
    let g : Entry = charged e ns in
    let charge : ℤ = pos (charge_of ns (weight_of g.nice)) in
    let now : get (insert q.runnable p g) p ≡ Some g = get_here q.runnable p g in
    let moved : g.v ≡ e.v +ℤ charge =
    charged_runtime e ns ∙ ap (λ (z : ℤ). e.v +ℤ pos (charge_of ns (weight_of z))) (sym (charged_grown e ns).same_nice) in
    subst (λ (o : Option Entry). IsFair (record q { runnable = insert q.runnable p g }) (charged_to b ns o)) (sym now)
    (charge_keeps q b (ticked b charge g.v) p e g charge fair runs here moved (no_less (charge_of ns (weight_of g.nice))) (charged_grown e ns).later
    (charged_due e ns) (small (insert q.runnable p g) in_range p g now) (small q.runnable kept.in_range)
    (reaches b g.v charge b.turn refl fair.longest))

pub tick_keeps : (q : State) (b : Bounds) (ns : ℕ) → IsKept q → IsFair q b → AreInRange (tick q ns).1.runnable
    → IsFair (tick q ns).1 (charged_by b ns (tick q ns).0 (tick q ns).1)
tick_keeps q b ns kept fair =
    tick_cases (λ z. AreInRange (z.1).runnable → IsFair (z.1) (charged_by b ns (z.0) (z.1))) q ns (λ in_range. fair) (λ in_range. fair)
    (λ p e resched runs here in_range. charge_fair q b ns p e resched kept fair runs here in_range)

-- the bounds after a charge, by the entry before it
tallied : (b : Bounds) (ns : ℕ) (e : Entry) → charged_to b ns (Some (charged e ns)) ≡ charged_from b ns (Some e)
tallied b ns e =
    ap (λ (n : ℤ). ticked b (pos (charge_of ns (weight_of n))) (charged e ns).v) (charged_grown e ns).same_nice
    ∙ ap (ticked b (pos (charge_of ns (weight_of e.nice)))) (charged_runtime e ns)

pub charged_before : (q : State) (b : Bounds) (ns p : ℕ) (resched : Bool) → (tick q ns).0 ≡ Charged p resched
    → charged_by b ns (tick q ns).0 (tick q ns).1 ≡ charged_from b ns (running_entry q)
charged_before q b ns p resched =
    tick_cases (λ z. (z.0) ≡ Charged p resched → charged_by b ns (z.0) (z.1) ≡ charged_from b ns (running_entry q)) q ns (λ is. cc) (λ is. cc)
    (λ t e r runs here is.
    ap (charged_to b ns) (get_here q.runnable t (charged e ns)) ∙ tallied b ns e
    ∙ sym (ap (charged_from b ns) (ap (entry_of_runner q) runs ∙ here)))

-- ---- a yield
module _ (q : State) (b : Bounds) (p : ℕ) (e : Entry) (fair : IsFair q b) (here : get q.runnable p ≡ Some e) where
  abbrev postponed : State
  postponed = record q { runnable = insert q.runnable p (yielded e) }

  -- each task has the virtual runtime that it had, and no earlier deadline
  record IsSlower (t : ℕ) (x : Entry) : Type 0 where
    entry : Entry
    there : get q.runnable t ≡ Some entry
    same : x.v ≡ entry.v
    later : entry.d ≤ℤ x.d

  slower : (t : ℕ) (x : Entry) → get postponed.runnable t ≡ Some x → IsSlower t x
  slower = found_at_after IsSlower q.runnable p (yielded e) (record { entry = e; there = here; same = refl; later = omega (arith, ints) })
      (λ t x at. record { entry = x; there = at; same = refl; later = nothing_less x.d })

  follows : (v w d f by : ℤ) → v ≡ w → w ≤ℤ (d +ℤ by) → d ≤ℤ f → v ≤ℤ (f +ℤ by)
  follows v w d f by h k l = omega (arith, ints, h, k, l)

  due_by : (v w d f : ℤ) → v ≡ w → w ≤ℤ d → d ≤ℤ f → v ≤ℤ f
  due_by v w d f h k l = omega (arith, ints, h, k, l)

  yield_fair : IsFair postponed b
  yield_fair = record {
    due = λ t x at. let s = slower t x at in due_by x.v s.entry.v s.entry.d x.d s.same (fair.due t s.entry s.there) s.later;
    longest = fair.longest;
    behind = λ t x at. let s = slower t x at in subst (λ (z : ℤ). z ≤ℤ b.furthest) (sym s.same) (fair.behind t s.entry s.there);
    near = λ t x at. let s = slower t x at in near_later b b.furthest s.entry.d x.d s.later (fair.near t s.entry s.there);
    turn = λ turn is. record {
      some = (fair.turn turn is).some;
      past = λ t u x y runs at there.
          let s = slower t x at in
          let k = slower u y there in
          follows x.v s.entry.v k.entry.d y.d turn s.same ((fair.turn turn is).past t u s.entry k.entry runs s.there k.there) k.later;
    };
  }

yields_to : (q : State) (b : Bounds) (p : ℕ) (e : Entry) → IsFair q b → get q.runnable p ≡ Some e → IsFair (yield_to q p (yielded e)).1 b
yields_to q b p e fair here =
    by (is_in_range (yielded e).d)
  where
    by : (c : Bool) → IsFair (cond {A = YieldAnswer × State} c (Yielded, record q { runnable = insert q.runnable p (yielded e) }) (yields.Range, q)).1 b
    by true = yield_fair q b p e fair here
    by false = fair

yields_at : (q : State) (b : Bounds) (p : ℕ) (o : Option Entry) → IsFair q b → get q.runnable p ≡ o → IsFair (yield_entry q p o).1 b
yields_at q b p None fair here = fair
yields_at q b p (Some e) fair here = yields_to q b p e fair here

yields_by : (q : State) (b : Bounds) (o : Option ℕ) → IsFair q b → IsFair (yield_running q o).1 b
yields_by q b None fair = fair
yields_by q b (Some p) fair = yields_at q b p (get q.runnable p) fair refl

pub yield_keeps : (q : State) (b : Bounds) → IsFair q b → IsFair (yield_now q).1 b
yield_keeps q b fair = yields_by q b q.running fair

-- ---- a rebase
record IsLowered (q : State) (by : ℤ) (t : ℕ) (x : Entry) : Type 0 where
  entry : Entry
  there : get q.runnable t ≡ Some entry
  v : x.v ≡ entry.v -ℤ by
  d : x.d ≡ entry.d -ℤ by

lowered_of : (q : State) (by : ℤ) (t : ℕ) (x : Entry) (o : Option Entry) → get q.runnable t ≡ o → option_map (lowered_entry by) o ≡ Some x → IsLowered q by t x
lowered_of q by t x None here is = absurd (cc)
lowered_of q by t x (Some e) here is =
    let same : lowered_entry by e ≡ x = cc in
    record { entry = e; there = here; v = ap (λ (y : Entry). y.v) (sym same); d = ap (λ (y : Entry). y.d) (sym same) }

lowered_due : (v d a b by : ℤ) → v ≡ a -ℤ by → d ≡ b -ℤ by → a ≤ℤ b → v ≤ℤ d
lowered_due v d a b by h k l = omega (arith, ints, h, k, l)

lowered_turn : (v d a b by turn : ℤ) → v ≡ a -ℤ by → d ≡ b -ℤ by → a ≤ℤ (b +ℤ turn) → v ≤ℤ (d +ℤ turn)
lowered_turn v d a b by turn h k l = omega (arith, ints, h, k, l)

less_by : (v a front by : ℤ) → v ≡ a -ℤ by → a ≤ℤ front → v ≤ℤ (front -ℤ by)
less_by v a front by h k = omega (arith, ints, h, k)

lowered_no_further : (a b : ℤ) → a ≤ℤ b → held a ≤ℤ held b
lowered_no_further (pos m) (pos n) h = omega (arith, ints, clamps, h)
lowered_no_further (pos m) (negsuc n) h = absurd (omega (arith, ints, h))
lowered_no_further (negsuc m) (pos n) h = omega (arith, ints, clamps)
lowered_no_further (negsuc m) (negsuc n) h = omega (arith, ints, clamps, h)

no_more_than : (z limit : ℤ) → neg_ℤ (pos (2 ^ 61)) ≤ℤ limit → z ≤ℤ limit → held z ≤ℤ limit
no_more_than (pos n) limit low h = omega (arith, ints, clamps, h)
no_more_than (negsuc n) limit low h = omega (arith, ints, clamps, low, h)

no_earlier : (d longest : ℤ) → neg_ℤ (pos (2 ^ 60)) ≤ℤ d → pos 0 ≤ℤ longest → neg_ℤ (pos (2 ^ 61)) ≤ℤ (d +ℤ longest)
no_earlier d longest low some = omega (arith, ints, low, some)

lower : (a b by : ℤ) → a ≤ℤ b → (a -ℤ by) ≤ℤ (b -ℤ by)
lower a b by h = omega (arith, ints, h)

lowered_past : (a b d by longest : ℤ) → d ≡ b -ℤ by → a ≤ℤ (b +ℤ longest) → (a -ℤ by) ≤ℤ (d +ℤ longest)
lowered_past a b d by longest k h = omega (arith, ints, k, h)

lowered_near : (furthest d b by front longest : ℤ) → neg_ℤ (pos (2 ^ 60)) ≤ℤ d → pos 0 ≤ℤ longest → d ≡ b -ℤ by
    → (furthest ≤ℤ front) ⊎ (furthest ≤ℤ (b +ℤ longest)) → (held (furthest -ℤ by) ≤ℤ held (front -ℤ by)) ⊎ (held (furthest -ℤ by) ≤ℤ (d +ℤ longest))
lowered_near furthest d b by front longest low some k (inl n) = inl (lowered_no_further (furthest -ℤ by) (front -ℤ by) (lower furthest front by n))
lowered_near furthest d b by front longest low some k (inr n) =
    inr (no_more_than (furthest -ℤ by) (d +ℤ longest) (no_earlier d longest low some) (lowered_past furthest b d by longest k n))

lowered_fair : (q r : State) (b : Bounds) (by : ℤ) → IsFair q b → r.runnable ≡ lowered_tasks by q.runnable → r.running ≡ q.running → AreInRange r.runnable
    → IsFair r (lowered b by)
lowered_fair q r b by fair is runs in_range =
    let was : (t : ℕ) (x : Entry) → get r.runnable t ≡ Some x → IsLowered q by t x =
    λ t x at. lowered_of q by t x (get q.runnable t) refl (sym (get-lowered by q.runnable t) ∙ ap (λ (m : Tasks). get m t) (sym is) ∙ at) in
    record {
      due = λ t x at. let s = was t x at in lowered_due x.v x.d s.entry.v s.entry.d by s.v s.d (fair.due t s.entry s.there);
      longest = fair.longest;
      behind = λ t x at.
          let s = was t x at in
          held_above x.v (b.furthest -ℤ by) (small r.runnable in_range t x at).v (less_by x.v s.entry.v b.furthest by s.v (fair.behind t s.entry s.there));
      near = λ t x at.
          let s = was t x at in
          lowered_near b.furthest x.d s.entry.d by b.front b.longest (small r.runnable in_range t x at).d fair.longest s.d (fair.near t s.entry s.there);
      turn = λ turn is. record {
        some = (fair.turn turn is).some;
        past = λ t u x y ran at there.
            let s = was t x at in
            let k = was u y there in
            lowered_turn x.v y.d s.entry.v k.entry.d by turn s.v k.d ((fair.turn turn is).past t u s.entry k.entry (sym runs ∙ ran) s.there k.there);
      };
    }

stayed : (q : State) (b : Bounds) → IsFair q b → IsKept q → IsFair q (lowered b (pos 0))
stayed q b fair kept = record {
  due = fair.due;
  longest = fair.longest;
  behind = λ t x at. held_above x.v (b.furthest -ℤ pos 0) (small q.runnable kept.in_range t x at).v (less_by x.v x.v b.furthest (pos 0) (not_lower x.v) (fair.behind t x at));
  near = λ t x at. lowered_near b.furthest x.d x.d (pos 0) b.front b.longest (small q.runnable kept.in_range t x at).d fair.longest (not_lower x.d) (fair.near t x at);
  turn = fair.turn;
}
  where
    not_lower : (z : ℤ) → z ≡ z -ℤ pos 0
    not_lower z = omega (arith, ints)

pub rebase_keeps : (q : State) (b : Bounds) → IsFair q b → IsKept q → AreInRange (rebase q).1.runnable → IsFair (rebase q).1 (lowered b (rebase q).0)
rebase_keeps q b fair kept =
    by (can_rebase q)
  where
    by : (c : Bool) → AreInRange (cond {A = ℤ × State} c (virtual_time q, rebased q) (pos 0, q)).1.runnable
        → IsFair (cond {A = ℤ × State} c (virtual_time q, rebased q) (pos 0, q)).1 (lowered b (cond {A = ℤ × State} c (virtual_time q, rebased q) (pos 0, q)).0)
    by true in_range = lowered_fair q (rebased q) b (virtual_time q) fair refl refl in_range
    by false in_range = stayed q b fair kept
