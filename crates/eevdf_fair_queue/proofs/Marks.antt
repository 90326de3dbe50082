-- A mark and what is read by it.
use Rattle.std.proofs.Common.{◌≡◌, ℕ, ◌+◌, ◌*◌, ◌≤◌, ◌^◌, Bool, true, false, cond, Option, Some, None, subst, arith}
use Rattle.std.specs.Prelude.{ℤ, pos, negsuc, ◌+ℤ◌, ◌-ℤ◌, ◌*ℤ◌, ◌≤ℤ◌, IfSome}
use Rattle.std.specs.FinMap.{get}
use Rattle.std.proofs.lemmas.Int.{ints}
use Rattle.eevdf_weight.specs.{Weight.weight_of}
use Rattle.eevdf_queue.specs.{declared.entry.Entry.Entry}
use Rattle.eevdf_fair_queue.specs.{declared.share_clock.ShareMark.ShareMark, Fair.FairView}
use Rattle.eevdf_fair_queue.specs.ShareClock.{mark_at, mark_of, is_mark, lack_of, lack_at, lack_since, parts_up, parts_down}
use Rattle.eevdf_fair_queue.specs.Owed.{load_of, Share, no_share, past_mark, IsTold, IsOwed, LacksNoMore}
use Rattle.eevdf_fair_queue.proofs.MeanTimes.{weighs}
use Rattle.eevdf_fair_queue.proofs.Orders.{one}
use Rattle.eevdf_fair_queue.proofs.ExactShares.{by_parts, in_time, from_mark, nothing, rounded_down, rounded_up}

pub then : {A : Type 0} (o : Option A) (P Q : A → Type 0) → ((x : A) → P x → Q x) → IfSome o P → IfSome o Q
then None P Q f h = tt
then (Some x) P Q f h = f x h

-- ---- a mark
pub marked : (o : Option ℤ) (since W : ℕ) (v : ℤ) (w : ℕ) → 1 ≤ W → IfSome (mark_at o (parts_down since W) v) (λ m. IsTold o since W v w m no_share 0)
marked None since W v w some = tt
marked (Some z) since W v w some =
    let x : ℤ = v *ℤ pos (2 ^ 32) in
    let q : ℕ = parts_down since W in
    nothing (2 ^ 42) W w (past_mark z since W v ((z -ℤ x) +ℤ pos q))
    (from_mark z x W since (2 ^ 42) q (rounded_down (since * 2 ^ 42) W some))

pub mark_owed : (f : FairView) (task : ℕ) (e : Entry) → get f.queue.state.runnable task ≡ Some e
    → IfSome (mark_of f.clock (load_of f) e.v) (λ m. IsOwed f task m no_share 0)
mark_owed f task e here =
    then (mark_of f.clock (load_of f) e.v) (λ m. IsTold f.clock.settled f.clock.since (load_of f) e.v (weight_of e.nice) m no_share 0)
    (λ m. IsOwed f task m no_share 0) (λ m told. record { entry = e; here = here; told = told })
    (marked f.clock.settled f.clock.since (load_of f) e.v (weight_of e.nice) (weighs f.queue.state.runnable task e here))

-- ---- what is read
enough : (k : ℤ) (w : ℕ) → (k *ℤ pos w) ≤ℤ pos (lack_of k w * 2 ^ 42)
enough (pos n) w = omega (arith, ints)
enough (negsuc n) w = omega (arith, ints)

reordered : (z x m q : ℤ) → ((z -ℤ x) -ℤ m) +ℤ q ≡ ((z -ℤ x) +ℤ q) -ℤ m
reordered z x m q = omega (arith, ints)

abbrev pub Suffices : Option ℤ → ℕ → ℕ → ℤ → ℕ → ShareMark → ℕ → Type 0
Suffices o since W v w m ns = (s : Share) (served : ℕ) → IsTold o since W v w m s served → s.over ≤ s.under * (served + ns)

pub lacking : (o : Option ℤ) (since W : ℕ) (v : ℤ) (w : ℕ) (m : ShareMark) → 1 ≤ W → IfSome (lack_at o (parts_up since W) v w m) (Suffices o since W v w m)
lacking None since W v w m some = tt
lacking (Some z) since W v w m some =
    by (is_mark m)
  where
    x : ℤ
    x = v *ℤ pos (2 ^ 32)

    q : ℕ
    q = parts_up since W

    k : ℤ
    k = ((z -ℤ x) +ℤ pos q) -ℤ m.standing

    suffices : Suffices (Some z) since W v w m (lack_of k w)
    suffices s served told =
        in_time s.over s.under served (2 ^ 42) w (lack_of k w) k
        (subst (λ (y : ℤ). pos (s.over * 2 ^ 42) ≤ℤ (pos (s.under * (served * 2 ^ 42)) +ℤ (y *ℤ pos (s.under * w)))) (reordered z x m.standing (pos q))
        (by_parts s.over s.under served (2 ^ 42) W w since q ((z -ℤ x) -ℤ m.standing) told some (rounded_up (since * 2 ^ 42) W some)))
        (omega arith) (enough k w)

    by : (b : Bool) → IfSome (cond b (Some (lack_of k w)) None) (Suffices (Some z) since W v w m)
    by true = suffices
    by false = tt

pub bound_owed : (f : FairView) (task : ℕ) (e : Entry) (m : ShareMark) → get f.queue.state.runnable task ≡ Some e
    → IfSome (lack_since f.clock (load_of f) e.v (weight_of e.nice) m) (LacksNoMore f task m)
bound_owed f task e m here =
    then (lack_since f.clock (load_of f) e.v (weight_of e.nice) m) (Suffices f.clock.settled f.clock.since (load_of f) e.v (weight_of e.nice) m)
    (LacksNoMore f task m) (λ ns suffices s served owed. suffices s served
    (subst (λ (y : Entry). IsTold f.clock.settled f.clock.since (load_of f) y.v (weight_of y.nice) m s served)
    (one owed.entry e (get f.queue.state.runnable task) owed.here here) owed.told))
    (lacking f.clock.settled f.clock.since (load_of f) e.v (weight_of e.nice) m (weighs f.queue.state.runnable task e here))
