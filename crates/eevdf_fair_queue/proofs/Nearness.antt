-- Sums that 64 bits hold, and how bounds that reach further keep what others kept.
use Rattle.std.proofs.Common.{◌≡◌, ℕ, ◌^◌, ◌≤◌, ◌⊎◌, Bool, true, false, cond, Some, None, refl, sym, ◌∙◌, inl, inr, arith}
use Rattle.std.specs.Prelude.{ℤ, pos, negsuc, neg_ℤ, ◌+ℤ◌, ◌≤ℤ◌, int_lt, unsigned_abs, ◌==◌}
use Rattle.std.specs.{FinMap.get, Int.int_max}
use Rattle.std.proofs.{lemmas.Int.ints, lemmas.Int.clamps, lemmas.Bool.Decides.nat_tests}
use Rattle.eevdf_queue.specs.{declared.entry.Entry.Entry, State.State, Sums.Tasks, Kept.AreInRange}
use Rattle.eevdf_queue.proofs.Bounds.{within, range_v, range_d}
use Rattle.eevdf_fair_queue.specs.{declared.bounds.Bounds.Bounds, declared.bounds.Mark.Mark}
use Rattle.eevdf_fair_queue.specs.Bounds.{held, reached, advanced_where, adopted}
use Rattle.eevdf_fair_queue.specs.Fair.{IsNear, IsFair}
use Rattle.eevdf_fair_queue.proofs.Orders.{nothing_less, greatest, greatest_other, no_turn}

-- ---- sums
pub held_above : (x z : ℤ) → x ≤ℤ pos (2 ^ 60) → x ≤ℤ z → x ≤ℤ held z
held_above x (pos n) small h = omega (arith, ints, clamps, small, h)
held_above x (negsuc n) small h = omega (arith, ints, clamps, h)

-- where the other end is within the range too
pub held_past : (x d z : ℤ) → x ≤ℤ pos (2 ^ 60) → neg_ℤ (pos (2 ^ 60)) ≤ℤ d → x ≤ℤ (d +ℤ z) → x ≤ℤ (d +ℤ held z)
held_past x d (pos n) small low h = omega (arith, ints, clamps, small, low, h)
held_past x d (negsuc n) small low h = omega (arith, ints, clamps, small, low, h)

pub held_some : (z : ℤ) → pos 0 ≤ℤ z → pos 0 ≤ℤ held z
held_some z h = held_above (pos 0) z (omega (arith, ints)) h

-- ---- virtual times of a queue
pub record IsSmall (e : Entry) : Type 0 where
  pub v : e.v ≤ℤ pos (2 ^ 60)
  pub d : neg_ℤ (pos (2 ^ 60)) ≤ℤ e.d

no_greater : (z : ℤ) → unsigned_abs z ≤ 2 ^ 60 → z ≤ℤ pos (2 ^ 60)
no_greater z h = omega (arith, ints, h)

no_less : (z : ℤ) → unsigned_abs z ≤ 2 ^ 60 → neg_ℤ (pos (2 ^ 60)) ≤ℤ z
no_less z h = omega (arith, ints, h)

pub small : (tasks : Tasks) → AreInRange tasks → (t : ℕ) (e : Entry) → get tasks t ≡ Some e → IsSmall e
small tasks in_range t e here = record {
  v = no_greater e.v (within e.v (range_v e (in_range t e here).1));
  d = no_less e.d (within e.d (range_d e (in_range t e here).1));
}

-- ---- numbers of tasks
pub same_or_other : (t u : ℕ) → (t ≡ u) ⊎ (t ≡ u → ⊥)
same_or_other t u =
    by (t == u) refl
  where
    by : (b : Bool) → (t == u) ≡ b → (t ≡ u) ⊎ (t ≡ u → ⊥)
    by true is = inl (grind (arith, nat_tests))
    by false is = inr (λ same. grind (arith, nat_tests))

-- ---- near
near_by : (v d front longest front' longest' : ℤ) → front ≤ℤ front' → longest ≤ℤ longest' → (v ≤ℤ front) ⊎ (v ≤ℤ (d +ℤ longest))
    → (v ≤ℤ front') ⊎ (v ≤ℤ (d +ℤ longest'))
near_by v d front longest front' longest' h k (inl n) = inl (omega (arith, ints, h, n))
near_by v d front longest front' longest' h k (inr n) = inr (omega (arith, ints, k, n))

-- bounds that are no tighter
pub stays_near : (b c : Bounds) (v d : ℤ) → b.front ≤ℤ c.front → b.longest ≤ℤ c.longest → IsNear b v d → IsNear c v d
stays_near b c v d = near_by v d b.front b.longest c.front c.longest

earlier_by : (v w d front longest : ℤ) → v ≤ℤ w → (w ≤ℤ front) ⊎ (w ≤ℤ (d +ℤ longest)) → (v ≤ℤ front) ⊎ (v ≤ℤ (d +ℤ longest))
earlier_by v w d front longest h (inl n) = inl (omega (arith, ints, h, n))
earlier_by v w d front longest h (inr n) = inr (omega (arith, ints, h, n))

near_before : (b : Bounds) (v w d : ℤ) → v ≤ℤ w → IsNear b w d → IsNear b v d
near_before b v w d = earlier_by v w d b.front b.longest

later_by : (v c d front longest : ℤ) → c ≤ℤ d → (v ≤ℤ front) ⊎ (v ≤ℤ (c +ℤ longest)) → (v ≤ℤ front) ⊎ (v ≤ℤ (d +ℤ longest))
later_by v c d front longest h (inl n) = inl n
later_by v c d front longest h (inr n) = inr (omega (arith, ints, h, n))

pub near_later : (b : Bounds) (v c d : ℤ) → c ≤ℤ d → IsNear b v c → IsNear b v d
near_later b v c d = later_by v c d b.front b.longest

-- no task is past another's deadline by more than the furthest
pub each_near : (q : State) (b : Bounds) → IsFair q b → (t u : ℕ) (e f : Entry) → get q.runnable t ≡ Some e → get q.runnable u ≡ Some f → IsNear b e.v f.d
each_near q b fair t u e f at here = near_before b e.v b.furthest f.d (fair.behind t e at) (fair.near u f here)

-- ---- what becomes of the bounds where a task comes to a virtual runtime
-- the furthest is where it was, or the front has come to it
pub record IsReached (b c : Bounds) (v : ℤ) : Type 0 where
  pub front : b.front ≤ℤ c.front
  pub furthest : b.furthest ≤ℤ c.furthest
  pub longest : c.longest ≡ b.longest
  pub turn : c.turn ≡ b.turn
  pub behind : v ≤ℤ c.furthest
  pub now : (c.furthest ≡ b.furthest) ⊎ (c.furthest ≤ℤ c.front)

pub reaches : (b : Bounds) (v : ℤ) → IsReached b (reached b v) v
reaches b v =
    by (int_lt b.furthest v) refl
  where
    by : (is : Bool) → int_lt b.furthest v ≡ is → IsReached b (cond is (record b { front = int_max b.front v; furthest = v }) b) v
    by true is = record {
      front = greatest b.front v;
      furthest = omega (arith, ints, is);
      longest = refl;
      turn = refl;
      behind = nothing_less v;
      now = inr (greatest_other b.front v);
    }
    by false is = record {
      front = nothing_less b.front;
      furthest = nothing_less b.furthest;
      longest = refl;
      turn = refl;
      behind = omega (arith, ints, is);
      now = inl refl;
    }

-- ---- and where it stands anew beside a mark
pub record Becomes (b c : Bounds) (m : Mark) (e : Entry) : Type 0 where
  pub front : b.front ≤ℤ c.front
  pub furthest : b.furthest ≤ℤ c.furthest
  pub longest : c.longest ≡ b.longest
  pub behind : e.v ≤ℤ c.furthest
  pub now : (c.furthest ≡ b.furthest) ⊎ (c.furthest ≤ℤ c.front)
  pub deadline : (m.d ≤ℤ e.d) ⊎ (c.furthest ≤ℤ c.front)
  pub turn : (turn : ℤ) → c.turn ≡ Some turn → (b.turn ≡ Some turn) × (m.d ≤ℤ e.d) × (e.v ≤ℤ m.v)

further : (a b c : ℤ) → a ≤ℤ b → a ≤ℤ int_max b c
further a b c h = omega (arith, ints, clamps, h)

not_less : (a b : ℤ) → int_lt a b ≡ false → b ≤ℤ a
not_less a b is = omega (arith, ints, is)

pub becomes : (b c : Bounds) (m : Mark) (e : Entry) (later earlier : Bool) → IsReached b c e.v → int_lt m.v e.v ≡ later → int_lt e.d m.d ≡ earlier
    → Becomes b (adopted (advanced_where earlier c) later) m e
becomes b c m e false false re later earlier = record {
  front = re.front;
  furthest = re.furthest;
  longest = re.longest;
  behind = re.behind;
  now = re.now;
  deadline = inl (not_less e.d m.d earlier);
  turn = λ turn is. (sym re.turn ∙ is, not_less e.d m.d earlier, not_less m.v e.v later);
}
becomes b c m e true false re later earlier = record {
  front = re.front;
  furthest = re.furthest;
  longest = re.longest;
  behind = re.behind;
  now = re.now;
  deadline = inl (not_less e.d m.d earlier);
  turn = λ turn is. no_turn turn None refl is;
}
becomes b c m e false true re later earlier = record {
  front = further b.front c.front c.furthest re.front;
  furthest = re.furthest;
  longest = re.longest;
  behind = re.behind;
  now = inr (greatest_other c.front c.furthest);
  deadline = inr (greatest_other c.front c.furthest);
  turn = λ turn is. no_turn turn None refl is;
}
becomes b c m e true true re later earlier = record {
  front = further b.front c.front c.furthest re.front;
  furthest = re.furthest;
  longest = re.longest;
  behind = re.behind;
  now = inr (greatest_other c.front c.furthest);
  deadline = inr (greatest_other c.front c.furthest);
  turn = λ turn is. no_turn turn None refl is;
}
