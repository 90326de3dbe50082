-- A call that touches one task keeps a queue fair.
use Rattle.std.proofs.Common.{◌≡◌, ℕ, ◌⊎◌, false, Option, Some, None, refl, sym, ap, ◌∙◌, subst, inl, inr, arith}
use Rattle.std.specs.Prelude.{ℤ, pos, ◌+ℤ◌, ◌≤ℤ◌, int_lt, is_some}
use Rattle.std.specs.{Ordering.nat_cmp, FinMap.get, FinMap.empty, FinMap.get-empty, FinMap.contains_key}
use Rattle.std.proofs.lemmas.Int.{ints}
use Rattle.eevdf_queue.specs.{declared.entry.Entry.Entry, State.State, Sums.Tasks, Sums.virtual_time}
use Rattle.eevdf_queue.specs.{Kept.IsKept, Kept.RunnerIsHere, Laws.PickIsFirst, Laws.PickOfNobody, Pick.pick_of, Pick.IsPick}
use Rattle.eevdf_dozes.specs.Stretches.{NoneIsPastDue}
use Rattle.eevdf_fair_queue.specs.{declared.bounds.Bounds.Bounds, declared.bounds.Mark.Mark}
use Rattle.eevdf_fair_queue.specs.Bounds.{fresh, reached, settled, settled_at}
use Rattle.eevdf_fair_queue.specs.Fair.{IsNear, AreBehind, AreNear, IsTurn, IsFair, mark_of, mark_by, mark_of_pick, mark_at}
use Rattle.eevdf_fair_queue.proofs.Nearness.{same_or_other, stays_near, near_later, IsReached, reaches, Becomes, becomes}
use Rattle.eevdf_fair_queue.proofs.Orders.{nothing_less, then as goes, past_none, one, no_turn}

-- one task may be another than before, all others are as they were, and nobody runs who didn't
pub record IsOfOne (task : ℕ) (q r : State) : Type 0 where
  pub others : (t : ℕ) → (t ≡ task → ⊥) → get r.runnable t ≡ get q.runnable t
  pub runs : (t : ℕ) → r.running ≡ Some t → q.running ≡ Some t
  pub due : NoneIsPastDue q.runnable → NoneIsPastDue r.runnable

-- how those that stay stand to a mark
record IsMark (q : State) (b : Bounds) (task : ℕ) (m : Mark) : Type 0 where
  early : IsNear b b.furthest m.d
  ran : (turn : ℤ) → b.turn ≡ Some turn → (t : ℕ) (e : Entry) → q.running ≡ Some t → get q.runnable t ≡ Some e → e.v ≤ℤ (m.d +ℤ turn)
  own : (turn : ℤ) → b.turn ≡ Some turn → q.running ≡ Some task → (t : ℕ) (e : Entry) → get q.runnable t ≡ Some e → m.v ≤ℤ (e.d +ℤ turn)

marked_itself : (q : State) (b : Bounds) (task : ℕ) (o : Entry) → IsFair q b → get q.runnable task ≡ Some o
    → IsMark q b task (record { v = o.v; d = o.d })
marked_itself q b task o fair here = record {
  early = fair.near task o here;
  ran = λ turn is t e runs at. (fair.turn turn is).past t task e o runs at here;
  own = λ turn is runs t e at. (fair.turn turn is).past task t o e runs here at;
}

not_running : {A : Type 0} (tasks : Tasks) (running : Option ℕ) (task : ℕ) → RunnerIsHere tasks running → get tasks task ≡ None → running ≡ Some task → A
not_running tasks None task here absent runs = absurd (cc)
not_running tasks (Some t) task here absent runs =
    let same : t ≡ task = cc in
    let gone : contains_key tasks t ≡ false = ap (λ (o : Option Entry). is_some o) (ap (get tasks) same ∙ absent) in
    absurd (cc)

marked_by_pick : (q : State) (b : Bounds) (task p : ℕ) (f : Entry) → IsKept q → IsFair q b → get q.runnable task ≡ None → get q.runnable p ≡ Some f
    → IsMark q b task (record { v = virtual_time q; d = f.d })
marked_by_pick q b task p f kept fair absent here = record {
  early = fair.near p f here;
  ran = λ turn is t e runs at. (fair.turn turn is).past t p e f runs at here;
  own = λ turn is runs t e at. not_running q.runnable q.running task kept.sound.runs absent runs;
}

-- ---- a task that stands anew
module _ (task : ℕ) (q r : State) (b c : Bounds) (m : Mark) (e : Entry) (kept : IsKept q) (of_one : IsOfOne task q r) (fair : IsFair q b)
    (now : get r.runnable task ≡ Some e) (mark : IsMark q b task m) (bs : Becomes b c m e) where
  before : (t : ℕ) (x : Entry) → (t ≡ task → ⊥) → get r.runnable t ≡ Some x → get q.runnable t ≡ Some x
  before t x other here = sym (of_one.others t other) ∙ here

  due : NoneIsPastDue r.runnable
  due = of_one.due fair.due

  itself : (t : ℕ) (x : Entry) → t ≡ task → get r.runnable t ≡ Some x → x ≡ e
  itself t x same here = one x e (get r.runnable task) (ap (get r.runnable) (sym same) ∙ here) now

  wide : (d : ℤ) → IsNear b b.furthest d → IsNear c c.furthest d
  wide d h =
      by bs.now
    where
      by : (c.furthest ≡ b.furthest) ⊎ (c.furthest ≤ℤ c.front) → IsNear c c.furthest d
      by (inl same) =
          subst (λ (v : ℤ). IsNear c v d) (sym same)
          (stays_near b c b.furthest d bs.front (subst (λ (x : ℤ). b.longest ≤ℤ x) (sym bs.longest) (nothing_less b.longest)) h)
      by (inr past) = inl past

  some_longest : pos 0 ≤ℤ c.longest
  some_longest = subst (λ (x : ℤ). pos 0 ≤ℤ x) (sym bs.longest) fair.longest

  behind : AreBehind c r.runnable
  behind t x at =
      by (same_or_other t task)
    where
      by : (t ≡ task) ⊎ (t ≡ task → ⊥) → x.v ≤ℤ c.furthest
      by (inl s) = subst (λ (z : Entry). z.v ≤ℤ c.furthest) (sym (itself t x s at)) bs.behind
      by (inr s) = goes x.v b.furthest c.furthest (fair.behind t x (before t x s at)) bs.furthest

  to_itself : e.v ≤ℤ e.d
  to_itself = due task e now

  -- the furthest beside the deadline of the one that is anew
  to_it : IsNear c c.furthest e.d
  to_it =
      by bs.deadline
    where
      by : (m.d ≤ℤ e.d) ⊎ (c.furthest ≤ℤ c.front) → IsNear c c.furthest e.d
      by (inl h) = near_later c c.furthest m.d e.d h (wide m.d mark.early)
      by (inr h) = inl h

  near : AreNear c r.runnable
  near t x at =
      by (same_or_other t task)
    where
      by : (t ≡ task) ⊎ (t ≡ task → ⊥) → IsNear c c.furthest x.d
      by (inl s) = subst (λ (z : Entry). IsNear c c.furthest z.d) (sym (itself t x s at)) to_it
      by (inr s) = wide x.d (fair.near t x (before t x s at))

  then : (v w d by : ℤ) → v ≤ℤ w → w ≤ℤ (d +ℤ by) → v ≤ℤ (d +ℤ by)
  then v w d by h k = omega (arith, ints, h, k)

  or_later : (v d f by : ℤ) → v ≤ℤ (d +ℤ by) → d ≤ℤ f → v ≤ℤ (f +ℤ by)
  or_later v d f by h k = omega (arith, ints, h, k)

  in_turn : (turn : ℤ) → c.turn ≡ Some turn → (t u : ℕ) (x y : Entry) → r.running ≡ Some t → get r.runnable t ≡ Some x → get r.runnable u ≡ Some y
      → x.v ≤ℤ (y.d +ℤ turn)
  in_turn turn is t u x y runs at here =
      by (same_or_other t task) (same_or_other u task)
    where
      ran : q.running ≡ Some t
      ran = of_one.runs t runs

      old : IsTurn q turn
      old = fair.turn turn (bs.turn turn is).0

      by : (t ≡ task) ⊎ (t ≡ task → ⊥) → (u ≡ task) ⊎ (u ≡ task → ⊥) → x.v ≤ℤ (y.d +ℤ turn)
      by (inl s) (inl k) =
          subst (λ (z : Entry). z.v ≤ℤ (y.d +ℤ turn)) (sym (itself t x s at))
          (subst (λ (z : Entry). e.v ≤ℤ (z.d +ℤ turn)) (sym (itself u y k here)) (past_none e.v e.d turn to_itself old.some))
      by (inl s) (inr k) =
          subst (λ (z : Entry). z.v ≤ℤ (y.d +ℤ turn)) (sym (itself t x s at))
          (then e.v m.v y.d turn (bs.turn turn is).2 (mark.own turn (bs.turn turn is).0 (ran ∙ ap (λ (n : ℕ). Some n) s) u y (before u y k here)))
      by (inr s) (inl k) =
          subst (λ (z : Entry). x.v ≤ℤ (z.d +ℤ turn)) (sym (itself u y k here))
          (or_later x.v m.d e.d turn (mark.ran turn (bs.turn turn is).0 t x ran (before t x s at)) (bs.turn turn is).1)
      by (inr s) (inr k) = old.past t u x y ran (before t x s at) (before u y k here)

  anew : IsFair r c
  anew = record {
    due = due;
    longest = some_longest;
    behind = behind;
    near = near;
    turn = λ turn is. record { some = (fair.turn turn (bs.turn turn is).0).some; past = in_turn turn is };
  }

-- ---- a task that is the only one
no_other : (task : ℕ) (q r : State) (b : Bounds) (e : Entry) → IsOfOne task q r → q.runnable ≡ empty → get r.runnable task ≡ Some e
    → (t : ℕ) (x : Entry) → get r.runnable t ≡ Some x → x ≡ e
no_other task q r b e of_one none now t x at =
    by (same_or_other t task)
  where
    by : (t ≡ task) ⊎ (t ≡ task → ⊥) → x ≡ e
    by (inl s) = one x e (get r.runnable task) (ap (get r.runnable) (sym s) ∙ at) now
    by (inr s) =
        let gone : get q.runnable t ≡ None = ap (λ (m : Tasks). get m t) none ∙ get-empty nat_cmp t in
        let here : get q.runnable t ≡ Some x = sym (of_one.others t s) ∙ at in
        absurd (cc)

alone : (task : ℕ) (q r : State) (b c : Bounds) (e : Entry) → IsOfOne task q r → IsFair q b → q.runnable ≡ empty → get r.runnable task ≡ Some e
    → IsReached fresh c e.v → IsFair r c
alone task q r b c e of_one fair none now re = record {
  due = of_one.due fair.due;
  longest = subst (λ (z : ℤ). pos 0 ≤ℤ z) (sym re.longest) (nothing_less (pos 0));
  behind = λ t x at. subst (λ (z : Entry). z.v ≤ℤ c.furthest) (sym (no_other task q r b e of_one none now t x at)) re.behind;
  near = λ t x at. inl (by re.now);
  turn = λ turn is. no_turn turn c.turn re.turn is;
}
  where
    by : (c.furthest ≡ fresh.furthest) ⊎ (c.furthest ≤ℤ c.front) → c.furthest ≤ℤ c.front
    by (inl same) = subst (λ (z : ℤ). z ≤ℤ c.front) (sym same) re.front
    by (inr h) = h

-- ---- a task that isn't runnable any more
left : (task : ℕ) (q r : State) (b : Bounds) → IsOfOne task q r → IsFair q b → get r.runnable task ≡ None → IsFair r b
left task q r b of_one fair gone = record {
  due = of_one.due fair.due;
  longest = fair.longest;
  behind = λ t x at. fair.behind t x (before t x at);
  near = λ t x at. fair.near t x (before t x at);
  turn = λ turn is. record {
    some = (fair.turn turn is).some;
    past = λ t u x y runs at here. (fair.turn turn is).past t u x y (of_one.runs t runs) (before t x at) (before u y here);
  };
}
  where
    before : (t : ℕ) (x : Entry) → get r.runnable t ≡ Some x → get q.runnable t ≡ Some x
    before t x at =
        by (same_or_other t task)
      where
        by : (t ≡ task) ⊎ (t ≡ task → ⊥) → get q.runnable t ≡ Some x
        by (inl s) =
            let there : get r.runnable task ≡ Some x = ap (get r.runnable) (sym s) ∙ at in
            absurd (cc)
        by (inr s) = sym (of_one.others t s) ∙ at

-- ---- the bounds after such a call are those of what it leaves
module _ (first : PickIsFirst) (nobody : PickOfNobody) (task : ℕ) (q r : State) (b : Bounds) (kept : IsKept q) (of_one : IsOfOne task q r) (fair : IsFair q b) where
  by_mark : (m : Mark) (e : Entry) → get r.runnable task ≡ Some e → IsMark q b task m → IsFair r (settled_at b (Some m) e)
  by_mark m e now mark =
      anew task q r b (settled_at b (Some m) e) m e kept of_one fair now mark
      (becomes b (reached b e.v) m e (int_lt m.v e.v) (int_lt e.d m.d) (reaches b e.v) refl refl)

  by_entry : (p : ℕ) (e : Entry) (o : Option Entry) → get q.runnable task ≡ None → get r.runnable task ≡ Some e → IsPick q.runnable p
      → get q.runnable p ≡ o → IsFair r (settled_at b (mark_at (virtual_time q) o) e)
  by_entry p e None absent now pick here = let there : get q.runnable p ≡ Some pick.entry = pick.eligible.here in absurd (cc)
  by_entry p e (Some f) absent now pick here =
      by_mark (record { v = virtual_time q; d = f.d }) e now (marked_by_pick q b task p f kept fair absent here)

  by_pick : (e : Entry) (o : Option ℕ) → get q.runnable task ≡ None → get r.runnable task ≡ Some e → pick_of q.runnable ≡ o
      → IsFair r (settled_at b (mark_of_pick q o) e)
  by_pick e None absent now is =
      alone task q r b (reached fresh e.v) e of_one fair ((nobody q.runnable).0 (ap (λ (o : Option ℕ). is_some o) is)) now (reaches fresh e.v)
  by_pick e (Some p) absent now is = by_entry p e (get q.runnable p) absent now (first q.runnable p is) refl

  by_before : (e : Entry) (o : Option Entry) → get r.runnable task ≡ Some e → get q.runnable task ≡ o → IsFair r (settled_at b (mark_by q o) e)
  by_before e (Some x) now is = by_mark (record { v = x.v; d = x.d }) e now (marked_itself q b task x fair is)
  by_before e None now is = by_pick e (pick_of q.runnable) is now refl

  by_now : (o : Option Entry) → get r.runnable task ≡ o → IsFair r (settled b (mark_of q task) o)
  by_now None now = left task q r b of_one fair now
  by_now (Some e) now = by_before e (get q.runnable task) now refl

  pub settles : IsFair r (settled b (mark_of q task) (get r.runnable task))
  settles = by_now (get r.runnable task) refl
