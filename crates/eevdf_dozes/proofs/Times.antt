-- What a task is charged for, in weight times virtual time, is what it ran less what rounding took.
use Rattle.std.proofs.Common.{◌≡◌, ℕ, ◌+◌, ◌-◌, ◌*◌, ◌%◌, ◌≤◌, Bool, true, false, cond, List, [], ◌∷◌, Option, Some, None, refl, sym, ap, ◌∙◌, subst, arith}
use Rattle.std.specs.Prelude.{◌==◌}
use Rattle.std.specs.FinMap.{get}
use Rattle.std.proofs.Math.Nat.{mul-le-mul}
use Rattle.eevdf_weight.specs.{Weight.weight_of, Charge.charge_of}
use Rattle.eevdf_weight.proofs.Weighing.{weight_of-least}
use Rattle.eevdf_queue.specs.{declared.entry.Entry.Entry, State.State, Tick.tick}
use Rattle.eevdf_fairness.specs.{Share.most_lost, Tallies.if_charged_to, Tallies.remainder_of}
use Rattle.eevdf_dozes.specs.Stretches.{Event, Picks, Ticks, Becomes, Watch, HaveLevels, IsWatched, IsStretch, picked, ticked, charge_by, charged_for, charges}
use Rattle.eevdf_dozes.specs.Shares.{time_of, lost_by, HaveNoShorterTicks, LosesNoMore}
use Rattle.eevdf_dozes.proofs.Ticking.{tick_cases}
use Rattle.eevdf_dozes.proofs.Steps.{pick_watched, tick_watched, change_watched}
use Rattle.eevdf_fairness.proofs.Passing.{whole_charge}
use Rattle.eevdf_ops.proofs.MapCounts.{equal}

-- ---- one charge
nothing : (w : ℕ) → w * 0 + 0 ≡ 1024 * 0
nothing w = omega arith

swapped : (c r w ns : ℕ) → c * w + r ≡ 1024 * ns → w * c + r ≡ 1024 * ns
swapped c r w ns h = omega (arith, h)

below : (n m : ℕ) → 15 ≤ m → n % m ≤ m - 1
below n m h = omega arith

lost_whole : (ns m : ℕ) (b : Bool) → (m == 1024) ≡ b → 15 ≤ m → (ns * 1024) % m ≤ cond b 0 (m - 1)
lost_whole ns m true is some = subst (λ (x : ℕ). (ns * 1024) % x ≤ 0) (sym (equal m 1024 is)) (omega arith)
lost_whole ns m false is some = below (ns * 1024) m some

product : (least most r ns : ℕ) → least ≤ ns → r ≤ most → least * r ≤ most * ns
product least most r ns h k =
    let both : least * r ≤ ns * most = mul-le-mul h k in
    omega (arith, both)

no_more_lost : (a b c most : ℕ) → a ≤ b → b ≡ c → c ≤ most → a ≤ most
no_more_lost a b c most h k l = omega (arith, h, k, l)

pub none_lost : (least most : ℕ) → least * 0 ≤ most * 0
none_lost least most = omega arith

lost_more : (least most r s i j : ℕ) → least * r ≤ most * i → least * s ≤ most * j → least * (r + s) ≤ most * (i + j)
lost_more least most r s i j h k = omega (arith, h, k)

added : (m a b r s i j : ℕ) → m * a + r ≡ 1024 * i → m * b + s ≡ 1024 * j → m * (a + b) + (r + s) ≡ 1024 * (i + j)
added m a b r s i j h k = omega (arith, h, k)

module _ (w : Watch) (t : ℕ) (counts : w.counts t ≡ true) where
  abbrev weight : ℕ
  weight = weight_of (w.nice_of t)

  charged_by : (q : State) (ns : ℕ) (o : Option Entry) (e : Entry) → HaveLevels w q.runnable → get q.runnable t ≡ o → o ≡ Some e
      → weight * charge_by o ns + remainder_of o ns ≡ 1024 * ns
  charged_by q ns None e levels here some = cc
  charged_by q ns (Some x) e levels here some =
      subst (λ (n : ℕ). n * charge_of ns (weight_of x.nice) + (ns * 1024) % weight_of x.nice ≡ 1024 * ns) (ap weight_of (levels t x counts here))
      (swapped (charge_of ns (weight_of x.nice)) ((ns * 1024) % weight_of x.nice) (weight_of x.nice) ns (whole_charge ns (weight_of x.nice)))

  one_by : (q : State) (p ns : ℕ) (e : Entry) (b : Bool) → HaveLevels w q.runnable → (p == t) ≡ b → get q.runnable p ≡ Some e
      → weight * cond b (charge_by (get q.runnable t) ns) 0 + cond b (remainder_of (get q.runnable t) ns) 0 ≡ 1024 * cond b ns 0
  one_by q p ns e true levels is here = charged_by q ns (get q.runnable t) e levels refl (ap (get q.runnable) (sym (equal p t is)) ∙ here)
  one_by q p ns e false levels is here = nothing weight

  one_tick : (q : State) (ns : ℕ) → HaveLevels w q.runnable
      → weight * charged_for t q ns + if_charged_to t (tick q ns).0 (remainder_of (get q.runnable t) ns) ≡ 1024 * if_charged_to t (tick q ns).0 ns
  one_tick q ns levels =
      tick_cases
      (λ z. weight * if_charged_to t (z.0) (charge_by (get q.runnable t) ns) + if_charged_to t (z.0) (remainder_of (get q.runnable t) ns) ≡ 1024 * if_charged_to t (z.0) ns)
      q ns (nothing weight) (nothing weight) (λ p e resched runs here. one_by q p ns e (p == t) levels refl here)

  pub whole_time : (ran : ℕ) (q : State) (events : List Event) → IsWatched w q → IsStretch w ran q events
      → weight * charges t q events + lost_by t q events ≡ 1024 * time_of t q events
  whole_time ran q [] watched h = nothing weight
  whole_time ran q (Picks ∷ events) watched h = whole_time 0 (picked q) events (pick_watched w q watched) h
  whole_time ran q (Ticks ns ∷ events) watched h =
      added weight (charged_for t q ns) (charges t (ticked q ns) events) (if_charged_to t (tick q ns).0 (remainder_of (get q.runnable t) ns))
      (lost_by t (ticked q ns) events) (if_charged_to t (tick q ns).0 ns) (time_of t (ticked q ns) events)
      (one_tick q ns watched.levels) (whole_time (ran + ns) (ticked q ns) events (tick_watched w ns q watched) h.1)
  whole_time ran q (Becomes r ∷ events) watched h = whole_time ran r events (change_watched w q r h.0 watched) h.1

  -- ---- what rounding takes, where ticks aren't short

  lost_charge : (q : State) (ns least most : ℕ) (o : Option Entry) → HaveLevels w q.runnable → get q.runnable t ≡ o → least ≤ ns → LosesNoMore most w t
      → least * remainder_of o ns ≤ most * ns
  lost_charge q ns least most None levels here long loses = product least most 0 ns long (omega arith)
  lost_charge q ns least most (Some x) levels here long loses =
      let least_lost : (ns * 1024) % weight_of x.nice ≤ most_lost (weight_of x.nice) = lost_whole ns (weight_of x.nice) (weight_of x.nice == 1024) refl (weight_of-least x.nice) in
      let same : most_lost (weight_of x.nice) ≡ most_lost weight = ap (λ z. most_lost (weight_of z)) (levels t x counts here) in
      product least most ((ns * 1024) % weight_of x.nice) ns long (no_more_lost _ _ _ most least_lost same loses)

  lost_one : (q : State) (p ns least most : ℕ) (b : Bool) → HaveLevels w q.runnable → least ≤ ns → LosesNoMore most w t
      → least * cond b (remainder_of (get q.runnable t) ns) 0 ≤ most * cond b ns 0
  lost_one q p ns least most true levels long loses = lost_charge q ns least most (get q.runnable t) levels refl long loses
  lost_one q p ns least most false levels long loses = none_lost least most

  lost_tick : (q : State) (ns least most : ℕ) → HaveLevels w q.runnable → least ≤ ns → LosesNoMore most w t
      → least * if_charged_to t (tick q ns).0 (remainder_of (get q.runnable t) ns) ≤ most * if_charged_to t (tick q ns).0 ns
  lost_tick q ns least most levels long loses =
      tick_cases (λ z. least * if_charged_to t (z.0) (remainder_of (get q.runnable t) ns) ≤ most * if_charged_to t (z.0) ns) q ns
      (none_lost least most) (none_lost least most) (λ p e resched runs here. lost_one q p ns least most (p == t) levels long loses)

  pub little_lost : (ran least most : ℕ) (q : State) (events : List Event) → IsWatched w q → IsStretch w ran q events
      → HaveNoShorterTicks least events → LosesNoMore most w t → least * lost_by t q events ≤ most * time_of t q events
  little_lost ran least most q [] watched h long loses = none_lost least most
  little_lost ran least most q (Picks ∷ events) watched h long loses = little_lost 0 least most (picked q) events (pick_watched w q watched) h long loses
  little_lost ran least most q (Ticks ns ∷ events) watched h long loses =
      lost_more least most (if_charged_to t (tick q ns).0 (remainder_of (get q.runnable t) ns)) (lost_by t (ticked q ns) events)
      (if_charged_to t (tick q ns).0 ns) (time_of t (ticked q ns) events) (lost_tick q ns least most watched.levels long.0 loses)
      (little_lost (ran + ns) least most (ticked q ns) events (tick_watched w ns q watched) h.1 long.1 loses)
  little_lost ran least most q (Becomes r ∷ events) watched h long loses =
      little_lost ran least most r events (change_watched w q r h.0 watched) h.1 long loses
