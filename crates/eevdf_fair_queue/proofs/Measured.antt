-- Bounds that are measured of a queue are fair, and no greater than those that were kept.
use Rattle.std.proofs.Common.{◌≡◌, ℕ, ◌^◌, ◌≤◌, Bool, true, false, cond, List, [], ◌∷◌, Option, Some, None, refl, sym, ◌∙◌, subst, inr, arith}
use Rattle.std.specs.Prelude.{ℤ, pos, negsuc, neg_ℤ, ◌+ℤ◌, ◌-ℤ◌, ◌≤ℤ◌, unsigned_abs}
use Rattle.std.specs.{Ordering.nat_cmp, Ordering.eq_by_cmp, FinMap.get, FinMap.entries, FinMap.find, FinMap.get-entries, Int.int_max, Int.int_min, List.fold}
use Rattle.std.specs.Option.{option_and_then}
use Rattle.std.proofs.{lemmas.Int.ints, lemmas.Int.clamps}
use Rattle.eevdf_queue.specs.{declared.entry.Entry.Entry, State.State, Sums.Tasks, Sums.virtual_time, Kept.IsKept, Laws.PickIsFirst, Pick.IsPick, Pick.is_eligible, Pick.pick_of}
use Rattle.eevdf_queue.proofs.Bounds.{within}
use Rattle.eevdf_fairness.proofs.EntrySums.{Each, each}
use Rattle.eevdf_fair_queue.specs.{declared.bounds.Bounds.Bounds, declared.bounds.Mark.Mark, Bounds.held, Bounds.late_by}
use Rattle.eevdf_fair_queue.specs.{Fair.IsFair, Fair.IsTurn, Lateness.lateness_bound, Lateness.bound_by, Measured.beside, Measured.extremes, Measured.past_by, Measured.furthest_of, Measured.measured}
use Rattle.eevdf_fair_queue.proofs.{Nearness.each_near, Nearness.small, Nearness.held_past, Late.within_bound, Late.before_by, Orders.lesser_other, Orders.greatest, Orders.greatest_other, Orders.nothing_less, Orders.one}

-- ---- the extremes are beyond each task
abbrev IsBeyond : Option Mark → Entry → Type 0
IsBeyond None e = ⊥
IsBeyond (Some m) e = (e.v ≤ℤ m.v) × (m.d ≤ℤ e.d)

stays_later : (v a b : ℤ) → v ≤ℤ a → v ≤ℤ int_max a b
stays_later v a b h = omega (arith, ints, clamps, h)

stays_earlier : (d a b : ℤ) → a ≤ℤ d → int_min a b ≤ℤ d
stays_earlier d a b h = omega (arith, ints, clamps, h)

beyond_one : (o : Option Mark) (x : ℕ × Entry) → IsBeyond (beside o x) x.1
beyond_one None x = (nothing_less x.1.v, nothing_less x.1.d)
beyond_one (Some m) x = (greatest_other m.v x.1.v, lesser_other m.d x.1.d)

stays_beyond : (o : Option Mark) (x : ℕ × Entry) (e : Entry) → IsBeyond o e → IsBeyond (beside o x) e
stays_beyond None x e h = absurd h
stays_beyond (Some m) x e h = (stays_later e.v m.v x.1.v h.0, stays_earlier e.d m.d x.1.d h.1)

beyond_before : (es : List (ℕ × Entry)) (o : Option Mark) (e : Entry) → IsBeyond o e → IsBeyond (fold beside o es) e
beyond_before [] o e h = h
beyond_before (x ∷ es) o e h = beyond_before es (beside o x) e (stays_beyond o x e h)

this_one : (a b : Entry) → Some a ≡ Some b → a ≡ b
this_one a b h = cc

beyond_by : (es : List (ℕ × Entry)) (o : Option Mark) (x : ℕ × Entry) (t : ℕ) (e : Entry) (b : Bool)
    → (find nat_cmp t es ≡ Some e → IsBeyond (fold beside (beside o x) es) e) → cond b (Some x.1) (find nat_cmp t es) ≡ Some e
    → IsBeyond (fold beside (beside o x) es) e
beyond_by es o x t e true rest found = beyond_before es (beside o x) e (subst (IsBeyond (beside o x)) (this_one x.1 e found) (beyond_one o x))
beyond_by es o x t e false rest found = rest found

beyond_each : (es : List (ℕ × Entry)) (o : Option Mark) (t : ℕ) (e : Entry) → find nat_cmp t es ≡ Some e → IsBeyond (fold beside o es) e
beyond_each [] o t e found = absurd (cc)
beyond_each (x ∷ es) o t e found = beyond_by es o x t e (eq_by_cmp nat_cmp t x.0) (beyond_each es (beside o x) t e) found

all_beyond : (tasks : Tasks) (t : ℕ) (e : Entry) → get tasks t ≡ Some e → IsBeyond (extremes tasks) e
all_beyond tasks t e here = beyond_each (entries tasks) None t e (sym (get-entries tasks t) ∙ here)

-- ---- so nobody is past a deadline by more
apart : (v d a b : ℤ) → v ≤ℤ a → b ≤ℤ d → v ≤ℤ (d +ℤ (a -ℤ b))
apart v d a b h k = omega (arith, ints, h, k)

not_negative : (v d z : ℤ) → v ≤ℤ (d +ℤ z) → v ≤ℤ (d +ℤ int_max (pos 0) z)
not_negative v d z h = omega (arith, ints, clamps, h)

-- ---- and the latest virtual runtime is one of theirs
no_later_than : (z a b : ℤ) → a ≤ℤ z → b ≤ℤ z → int_max a b ≤ℤ z
no_later_than z a b h k = omega (arith, ints, clamps, h, k)

abbrev IsNoLater : ℤ → Option Mark → Type 0
IsNoLater z None = Unit {0}
IsNoLater z (Some m) = m.v ≤ℤ z

no_later_one : (z : ℤ) (o : Option Mark) (x : ℕ × Entry) → x.1.v ≤ℤ z → IsNoLater z o → IsNoLater z (beside o x)
no_later_one z None x h k = h
no_later_one z (Some m) x h k = no_later_than z m.v x.1.v k h

no_later : (z : ℤ) (es : List (ℕ × Entry)) (o : Option Mark) → Each (λ e. e.v ≤ℤ z) es → IsNoLater z o → IsNoLater z (fold beside o es)
no_later z [] o these h = h
no_later z (x ∷ es) o these h = no_later z es (beside o x) these.1 (no_later_one z o x these.0 h)

-- so it is past no deadline by more
past_by_of : (o : Option Mark) (f : Entry) → neg_ℤ (pos (2 ^ 60)) ≤ℤ f.d → IsNoLater (pos (2 ^ 60)) o → IsBeyond o f → furthest_of o ≤ℤ (f.d +ℤ past_by o)
past_by_of None f low small h = absurd h
past_by_of (Some m) f low small h =
    not_negative m.v f.d (held (m.v -ℤ m.d)) (held_past m.v f.d (m.v -ℤ m.d) small low (apart m.v f.d m.v m.d (nothing_less m.v) h.1))

furthest_beyond : (o : Option Mark) (e : Entry) → IsBeyond o e → e.v ≤ℤ furthest_of o
furthest_beyond None e h = absurd h
furthest_beyond (Some m) e h = h.0

some_past : (o : Option Mark) → pos 0 ≤ℤ past_by o
some_past None = nothing_less (pos 0)
some_past (Some m) = greatest (pos 0) (held (m.v -ℤ m.d))

pub measured_is_fair : (q : State) (b : Bounds) → IsKept q → ((turn : ℤ) → b.turn ≡ Some turn → IsTurn q turn) → IsFair q (measured b q)
measured_is_fair q b kept turn = record {
  due = kept.due;
  longest = some_past (extremes q.runnable);
  behind = λ t e at. furthest_beyond (extremes q.runnable) e (all_beyond q.runnable t e at);
  near = λ t e at. inr (past_by_of (extremes q.runnable) e (small q.runnable kept.in_range t e at).d
      (no_later (pos (2 ^ 60)) (entries q.runnable) None (each (λ x. x.v ≤ℤ pos (2 ^ 60)) q.runnable (λ u x here. (small q.runnable kept.in_range u x here).v)) tt)
      (all_beyond q.runnable t e at));
  turn = turn;
}

pub stays_fair : (q : State) (b : Bounds) → IsKept q → IsFair q b → IsFair q (measured b q)
stays_fair q b kept fair = measured_is_fair q b kept fair.turn

-- ---- a number by which no task is past another's deadline is no less than by how much the extremes are apart
record ArePastBy (tasks : Tasks) (by : ℤ) (m : Mark) : Type 0 where
  itself : m.v ≤ℤ (m.d +ℤ by)
  later : (u : ℕ) (f : Entry) → get tasks u ≡ Some f → m.v ≤ℤ (f.d +ℤ by)
  earlier : (u : ℕ) (f : Entry) → get tasks u ≡ Some f → f.v ≤ℤ (m.d +ℤ by)

record IsIn (tasks : Tasks) (e : Entry) : Type 0 where
  number : ℕ
  here : get tasks number ≡ Some e

module _ (tasks : Tasks) (by : ℤ) (past : (t u : ℕ) (e f : Entry) → get tasks t ≡ Some e → get tasks u ≡ Some f → e.v ≤ℤ (f.d +ℤ by)) where
  abbrev ArePast : Option Mark → Type 0
  ArePast None = Unit {0}
  ArePast (Some m) = ArePastBy tasks by m

  both_ways : (a b c d : ℤ) → a ≤ℤ (c +ℤ by) → a ≤ℤ (d +ℤ by) → b ≤ℤ (c +ℤ by) → b ≤ℤ (d +ℤ by) → int_max a b ≤ℤ (int_min c d +ℤ by)
  both_ways a b c d h i j k = omega (arith, ints, clamps, h, i, j, k)

  either_later : (a b d : ℤ) → a ≤ℤ (d +ℤ by) → b ≤ℤ (d +ℤ by) → int_max a b ≤ℤ (d +ℤ by)
  either_later a b d h k = omega (arith, ints, clamps, h, k)

  either_earlier : (v c d : ℤ) → v ≤ℤ (c +ℤ by) → v ≤ℤ (d +ℤ by) → v ≤ℤ (int_min c d +ℤ by)
  either_earlier v c d h k = omega (arith, ints, clamps, h, k)

  one_more : (o : Option Mark) (x : ℕ × Entry) → ArePast o → IsIn tasks x.1 → ArePast (beside o x)
  one_more None x before is = record {
    itself = past is.number is.number x.1 x.1 is.here is.here;
    later = λ u f. past is.number u x.1 f is.here;
    earlier = λ u f here. past u is.number f x.1 here is.here;
  }
  one_more (Some m) x before is = record {
    itself = both_ways m.v x.1.v m.d x.1.d before.itself (before.later is.number x.1 is.here) (before.earlier is.number x.1 is.here)
        (past is.number is.number x.1 x.1 is.here is.here);
    later = λ u f here. either_later m.v x.1.v f.d (before.later u f here) (past is.number u x.1 f is.here here);
    earlier = λ u f here. either_earlier f.v m.d x.1.d (before.earlier u f here) (past u is.number f x.1 here is.here);
  }

  all_more : (es : List (ℕ × Entry)) (o : Option Mark) → Each (IsIn tasks) es → ArePast o → ArePast (fold beside o es)
  all_more [] o these before = before
  all_more (x ∷ es) o these before = all_more es (beside o x) these.1 (one_more o x before these.0)

  no_more_by : (a c z : ℤ) → pos 0 ≤ℤ by → a ≤ℤ (c +ℤ by) → z ≡ a -ℤ c → int_max (pos 0) (held z) ≤ℤ by
  no_more_by a c (pos n) some h is = omega (arith, ints, clamps, some, h, is)
  no_more_by a c (negsuc n) some h is = omega (arith, ints, clamps, some, h, is)

  no_more : (o : Option Mark) → pos 0 ≤ℤ by → ArePast o → past_by o ≤ℤ by
  no_more None some before = some
  no_more (Some m) some before = no_more_by m.v m.d (m.v -ℤ m.d) some before.itself refl

  past_by_no_more : pos 0 ≤ℤ by → past_by (extremes tasks) ≤ℤ by
  past_by_no_more some =
      no_more (extremes tasks) some
      (all_more (entries tasks) None (each (IsIn tasks) tasks (λ t e here. record { number = t; here = here })) tt)

-- ---- so no bound is greater afterwards
not_late : (x by z : ℤ) → neg_ℤ (pos (2 ^ 60)) ≤ℤ x → pos 0 ≤ℤ by → z ≡ neg_ℤ (pos (2 ^ 63)) -ℤ x → held z ≤ℤ by
not_late x by (pos n) low some is = omega (arith, ints, clamps, low, some, is)
not_late x by (negsuc n) low some is = omega (arith, ints, clamps, low, some, is)

both : (a b c : ℤ) → a ≤ℤ c → b ≤ℤ c → int_max a b ≤ℤ c
both a b c h k = omega (arith, ints, clamps, h, k)

lesser_low : (a b c : ℤ) → c ≤ℤ a → c ≤ℤ b → c ≤ℤ int_min a b
lesser_low a b c h k = omega (arith, ints, clamps, h, k)

no_less_than : (z : ℤ) → unsigned_abs z ≤ 2 ^ 60 → neg_ℤ (pos (2 ^ 60)) ≤ℤ z
no_less_than z h = omega (arith, ints, h)

some_bound : (longest z : ℤ) → pos 0 ≤ℤ longest → pos 0 ≤ℤ int_max longest z
some_bound longest z h = omega (arith, ints, clamps, h)

at_pick : PickIsFirst → (q : State) (b : Bounds) (p : ℕ) (f : Entry) → IsKept q → IsFair q b → pick_of q.runnable ≡ Some p → get q.runnable p ≡ Some f
    → late_by (measured b q) (int_min (virtual_time q) f.d) ≤ℤ late_by b (int_min (virtual_time q) f.d)
at_pick first q b p f kept fair is at =
    let x : ℤ = int_min (virtual_time q) f.d in
    let pick : IsPick q.runnable p = first q.runnable p is in
    let low : neg_ℤ (pos (2 ^ 60)) ≤ℤ x =
    lesser_low (virtual_time q) f.d (neg_ℤ (pos (2 ^ 60))) (no_less_than (virtual_time q) (within (virtual_time q) kept.timed)) (small q.runnable kept.in_range p f at).d in
    let some : pos 0 ≤ℤ late_by b x = some_bound b.longest (held (b.front -ℤ x)) fair.longest in
    both (past_by (extremes q.runnable)) (held (neg_ℤ (pos (2 ^ 63)) -ℤ x)) (late_by b x)
    (past_by_no_more q.runnable (late_by b x)
    (λ t u e g here there. within_bound e.v b.front g.d x b.longest (small q.runnable kept.in_range t e here).v (small q.runnable kept.in_range u g there).d
    (subst (λ (y : Entry). int_min (virtual_time q) y.d ≤ℤ g.d) (one pick.entry f (get q.runnable p) pick.eligible.here at)
    (before_by q p pick fair.due u g there (is_eligible q.runnable g) refl))
    (each_near q b fair t u e g here there)) some)
    (not_late x (late_by b x) (neg_ℤ (pos (2 ^ 63)) -ℤ x) low some refl)

pub measured_is_no_later : PickIsFirst → (q : State) (b : Bounds) → IsKept q → IsFair q b → lateness_bound q (measured b q) ≤ℤ lateness_bound q b
measured_is_no_later first q b kept fair =
    by (pick_of q.runnable) refl
  where
    at : (p : ℕ) (o : Option Entry) → pick_of q.runnable ≡ Some p → get q.runnable p ≡ o
        → bound_by (measured b q) (virtual_time q) o ≤ℤ bound_by b (virtual_time q) o
    at p None is here = nothing_less (pos 0)
    at p (Some f) is here = at_pick first q b p f kept fair is here

    by : (o : Option ℕ) → pick_of q.runnable ≡ o
        → bound_by (measured b q) (virtual_time q) (option_and_then (get q.runnable) o) ≤ℤ bound_by b (virtual_time q) (option_and_then (get q.runnable) o)
    by None is = nothing_less (pos 0)
    by (Some p) is = at p (get q.runnable p) is refl
