-- The shortest tick that uses a request up.
use Rattle.std.proofs.Common.{◌≡◌, ℕ, ◌*◌, ◌/◌, ◌^◌, ◌<◌, ◌≤◌, Bool, true, false, cond, Option, Some, None, refl, sym, ap, ◌∙◌, arith, div-lt_iff_lt-mul, le-div_iff_mul-le}
use Rattle.std.specs.{Prelude.ℤ, Prelude.pos, Prelude.◌+ℤ◌, Prelude.◌≤ℤ◌, Prelude.int_le, Prelude.nat_le, FinMap.get, FinMap.insert}
use Rattle.std.proofs.lemmas.{Bool.Decides.nat_tests, Int.ints}
use Rattle.eevdf_weight.specs.{Charge.charge_of, Limits.is_tick, Limits.checked_tick, Weight.weight_of}
use Rattle.eevdf_queue.specs.{declared.entry.Entry.Entry, State.State, Moves.fresh_entry, Moves.is_entry_in_range}
use Rattle.eevdf_queue.specs.{TimeToResched.ends_request, TimeToResched.IsShortest}
use Rattle.eevdf_queue.specs.Tick.{aged, is_used_up, charged, tick, tick_to, tick_entry, tick_running}
use Rattle.eevdf_queue.specs.declared.answers.TickAnswer.{TickAnswer}
use Rattle.eevdf_queue.specs.declared.answers.TickAnswer.TheVariants.{Charged, Range}
use Rattle.eevdf_queue.proofs.{Bounds.charge_of_small, ChargedRange.kept_in_range}

long_enough : (d w ns : ℕ) → 1 ≤ w → d * w ≤ ns * 1024 → nat_le d (charge_of ns w) ≡ true
unfolding charge_of
long_enough d w ns h k =
    let l : d ≤ ns * 1024 / w = (le-div_iff_mul-le {k = w} {x = d} {y = ns * 1024} h).1 k in grind (arith, nat_tests)

too_short : (d w ns : ℕ) → 1 ≤ w → ns * 1024 < d * w → nat_le d (charge_of ns w) ≡ false
unfolding charge_of
too_short d w ns h k = let l : ns * 1024 / w < d = (div-lt_iff_lt-mul h).1 k in grind (arith, nat_tests)

tick_some : (ns : ℕ) → is_tick ns ≡ true → 1 ≤ ns
tick_some ns h = grind (arith, nat_tests)

tick_most : (ns : ℕ) → is_tick ns ≡ true → ns ≤ 1000000000
tick_most ns h = grind (arith, nat_tests)

past_most : (ns : ℕ) → is_tick ns ≡ false → 1 ≤ ns → 1000000000 < ns
past_most ns h k = grind (arith, nat_tests)

-- no tick ages a task so far
pub too_far : (d w ns : ℕ) → 2 ^ 40 < d → is_tick ns ≡ true → nat_le d (charge_of ns w) ≡ false
too_far d w ns h t = let s = charge_of_small ns w (tick_most ns t) in grind (arith, nat_tests, s)

shortest_by : (d w k : ℕ) (b : Bool) → is_tick k ≡ b → 1 ≤ w → 1 ≤ k → d * w ≤ k * 1024 → ((m : ℕ) → 1 ≤ m → m < k → m * 1024 < d * w)
    → IsShortest (λ ns. nat_le d (charge_of ns w)) (cond b (Some k) None)
shortest_by d w k true t h some enough least =
    (t, long_enough d w k h enough, λ m tm l. too_short d w m h (least m (tick_some m tm) l))
shortest_by d w k false t h some enough least = λ m tm.
    let p = past_most k t some in let n = tick_most m tm in too_short d w m h (least m (tick_some m tm) (omega arith))

pub shortest : (d w p k : ℕ) (r : Option ℕ) → r ≡ checked_tick k → p ≡ d * w → 1 ≤ w → 1 ≤ k → p ≤ k * 1024 → ((m : ℕ) → 1 ≤ m → m < k → m * 1024 < p)
    → IsShortest (λ ns. nat_le d (charge_of ns w)) r
shortest d w p k r e i h some enough least =
    rw (e) (shortest_by d w k (is_tick k) refl h some (rw (← i) enough) (λ m s l. rw (← i) (least m s l)))

-- two tests that agree have the same shortest tick
pub same_shortest : (f g : ℕ → Bool) (r : Option ℕ) → ((ns : ℕ) → f ns ≡ g ns) → IsShortest f r → IsShortest g r
same_shortest f g None e h = λ ns t. sym (e ns) ∙ h ns t
same_shortest f g (Some k) e h = (h.0, sym (e k) ∙ h.1, λ m t l. sym (e m) ∙ h.2 m t l)

-- a request is used up where a charge comes to what is left of it
pub by_left : (e : Entry) (l w : ℕ) (r : Option ℕ) → w ≡ weight_of e.nice → ((n : ℕ) → int_le e.d (e.v +ℤ pos n) ≡ nat_le l n)
    → IsShortest (λ ns. nat_le l (charge_of ns w)) r → IsShortest (is_used_up e) r
by_left e l w r i h s =
    same_shortest (λ ns. nat_le l (charge_of ns w)) (is_used_up e) r
    (λ ns. ap (λ (n : ℕ). nat_le l (charge_of ns n)) i ∙ sym (h (charge_of ns (weight_of e.nice)))) s

-- what a tick answers
ends_by : (q : State) (task : ℕ) (u b : Bool) (x : Entry) → is_entry_in_range x ≡ b → (u ≡ false → b ≡ true) → ends_request (tick_to q task u x).0 ≡ u
ends_by q task u true x i h = ap (λ (t : Bool). ends_request (cond {A = TickAnswer × State} t (Charged task u, record q { runnable = insert q.runnable task x }) (Range, q)).0) i
ends_by q task true false x i h = ap (λ (t : Bool). ends_request (cond {A = TickAnswer × State} t (Charged task true, record q { runnable = insert q.runnable task x }) (Range, q)).0) i
ends_by q task false false x i h = let no : false ≡ true = h refl in cc

later : (v : ℤ) (n : ℕ) → v ≤ℤ (v +ℤ pos n)
later v n = omega (arith, ints)

not_past : (d a : ℤ) → int_le d a ≡ false → a ≤ℤ d
not_past d a h = omega (arith, ints)

still_in_range : (e : Entry) (ns : ℕ) → is_entry_in_range e ≡ true → is_used_up e ns ≡ false → is_entry_in_range (charged e ns) ≡ true
still_in_range e ns h k =
    ap (λ (t : Bool). is_entry_in_range (cond t (fresh_entry (aged e ns) e.nice e.slice) (record e { v = aged e ns }))) k
    ∙ kept_in_range e (record e { v = aged e ns }) h refl (later e.v (charge_of ns (weight_of e.nice))) (not_past e.d (aged e ns) k)

pub ends_where : (q : State) (task : ℕ) (e : Entry) (ns : ℕ) → Some task ≡ q.running → get q.runnable task ≡ Some e → is_entry_in_range e ≡ true
    → ends_request (tick q ns).0 ≡ is_used_up e ns
ends_where q task e ns runs here is =
    ap (λ (r : Option ℕ). ends_request (tick_running q r ns).0) (sym runs)
    ∙ ap (λ (o : Option Entry). ends_request (tick_entry q task o ns).0) here
    ∙ ends_by q task (is_used_up e ns) (is_entry_in_range (charged e ns)) (charged e ns) refl (still_in_range e ns is)

pub running_shortest : (q : State) (task : ℕ) (e : Entry) (r : Option ℕ) → Some task ≡ q.running → get q.runnable task ≡ Some e → is_entry_in_range e ≡ true
    → IsShortest (is_used_up e) r → IsShortest (λ ns. ends_request (tick q ns).0) r
running_shortest q task e r runs here is s =
    same_shortest (is_used_up e) (λ ns. ends_request (tick q ns).0) r (λ ns. sym (ends_where q task e ns runs here is)) s

pub absent_ends : (q : State) (task ns : ℕ) → Some task ≡ q.running → get q.runnable task ≡ None → ends_request (tick q ns).0 ≡ false
absent_ends q task ns runs here =
    ap (λ (r : Option ℕ). ends_request (tick_running q r ns).0) (sym runs)
    ∙ ap (λ (o : Option Entry). ends_request (tick_entry q task o ns).0) here

pub nobody_ends : (q : State) → None ≡ q.running → IsShortest (λ ns. ends_request (tick q ns).0) None
nobody_ends q h = λ ns t. ap (λ (r : Option ℕ). ends_request (tick_running q r ns).0) (sym h)
