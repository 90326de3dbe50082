-- What the calls of a queue with shares beside it leave of these.
use Rattle.std.proofs.Common.{◌≡◌, ℕ, ◌≤◌, Bool, true, false, cond, refl, sym, ap, subst, ◌∙◌, arith}
use Rattle.std.specs.Prelude.{ℤ, pos, ◌≤ℤ◌}
use Rattle.std.proofs.lemmas.Int.{ints}
use Rattle.eevdf_queue.specs.{State.State, Sums.total_weight, Tick.tick}
use Rattle.eevdf_queue.specs.declared.answers.TickAnswer.{TickAnswer}
use Rattle.eevdf_queue.specs.declared.answers.TickAnswer.TheVariants.{Charged, Idle, Range}
use Rattle.eevdf_fair_queue.specs.Beside.{SharesView, charged_at, ticked, LacksNoMoreOf}
use Rattle.eevdf_fair_queue.proofs.{Owed.tick_load, Beside.Weighs, Beside.tick_weighs}
use Rattle.eevdf_c.specs.{PlaceOut.PlaceOut, PlaceOut.value, Tick.tick_code, Shares.charged_with, Shares.mark_in}

no_error : (z : ℤ) → z ≡ tick_code Idle → pos 0 ≤ℤ z → ⊥
no_error z is done = omega (arith, ints, is, done)

no_range : (z : ℤ) → z ≡ tick_code Range → pos 0 ≤ℤ z → ⊥
no_range z is done = omega (arith, ints, is, done)

-- who is charged is runnable, so there is a load
pub some_load : (q : State) (ns : ℕ) (answer : ℤ) → answer ≡ tick_code (tick q ns).0 → pos 0 ≤ℤ answer → 1 ≤ total_weight (tick q ns).1.runnable
some_load q ns answer code done =
    by (tick q ns).0 (tick_weighs q ns) code
  where
    by : (a : TickAnswer) → Weighs a (tick q ns).1 → answer ≡ tick_code a → 1 ≤ total_weight (tick q ns).1.runnable
    by (Charged ran resched) some is = some
    by Idle some is = absurd (no_error answer is done)
    by Range some is = absurd (no_range answer is done)

-- whether somebody was charged is told by the answer
pub tick_shares : (q : State) (s : SharesView) (ns : ℕ) (answer : ℤ) (load : ℕ) → answer ≡ tick_code (tick q ns).0
    → load ≡ total_weight (tick q ns).1.runnable → charged_with s answer ns load ≡ ticked s q ns (tick q ns).0
tick_shares q s ns answer load code is =
    ap (λ (z : ℤ). charged_with s z ns load) code ∙ ap (charged_with s (tick_code (tick q ns).0) ns) (is ∙ tick_load q ns) ∙ by (tick q ns).0
  where
    charged : (resched : Bool) → charged_with s (cond resched (pos 1) (pos 0)) ns (total_weight q.runnable) ≡ charged_at s ns (total_weight q.runnable)
    charged true = refl
    charged false = refl

    by : (a : TickAnswer) → charged_with s (tick_code a) ns (total_weight q.runnable) ≡ ticked s q ns a
    by (Charged ran resched) = charged resched
    by Idle = refl
    by Range = refl

-- what a task lacks is told of the shares, the queue, the number and the mark that were given
pub lacks_there : {s t : SharesView} {q r : State} {task number : ℕ} {standing : ℤ} {found ns : ℕ} (p : PlaceOut)
    → s ≡ t → q ≡ r → task ≡ number → standing ≡ value p → ns ≡ found
    → LacksNoMoreOf s q task (record { standing = standing }) found → LacksNoMoreOf t r number (mark_in p) ns
lacks_there {s} {t} {q} {r} {task} {number} {standing} {found} {ns} p same_shares same_queue same_task same_mark same_time lacks =
    subst (λ (x : SharesView). LacksNoMoreOf x r number (mark_in p) ns) same_shares
    (subst (λ (x : State). LacksNoMoreOf s x number (mark_in p) ns) same_queue
    (subst (λ (x : ℕ). LacksNoMoreOf s q x (mark_in p) ns) same_task
    (subst (λ (x : ℤ). LacksNoMoreOf s q task (record { standing = x }) ns) same_mark
    (subst (λ (x : ℕ). LacksNoMoreOf s q task (record { standing = standing }) x) (sym same_time) lacks))))
