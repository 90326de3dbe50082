-- Where some tasks alone run, they run together for as long as the CPU does.
use Rattle.std.proofs.Common.{◌≡◌, ℕ, ◌+◌, ◌*◌, Bool, true, false, cond, List, [], ◌∷◌, Some, refl, ap, ◌∙◌, arith}
use Rattle.std.specs.Prelude.{◌==◌}
use Rattle.eevdf_queue.specs.{declared.answers.TickAnswer.TickAnswer, State.State, Tick.tick}
use Rattle.eevdf_queue.specs.declared.answers.TickAnswer.TheVariants.{Charged, Idle, Range}
use Rattle.eevdf_fairness.specs.Tallies.{if_charged, if_charged_to}
use Rattle.eevdf_dozes.specs.Stretches.{Event, Picks, Ticks, Becomes, picked, ticked}
use Rattle.eevdf_dozes.specs.Shares.{time_of, sum_times, cpu_time, times_in, TheyHaveTheCpu}
use Rattle.eevdf_dozes.proofs.Ticking.{tick_cases}

-- what one tick charges to the tasks of a list
abbrev sum_charged : TickAnswer → ℕ → List ℕ → ℕ
sum_charged answer ns [] = 0
sum_charged answer ns (t ∷ ts) = if_charged_to t answer ns + sum_charged answer ns ts

-- the first tick and the others
both : (a b c d e : ℕ) → c ≡ d + e → (a + b) + c ≡ (a + d) + (b + e)
both a b c d e h = omega (arith, h)

tick_first : (q : State) (ns : ℕ) (events : List Event) (ts : List ℕ)
    → sum_times q (Ticks ns ∷ events) ts ≡ sum_charged (tick q ns).0 ns ts + sum_times (ticked q ns) events ts
tick_first q ns events [] = refl
tick_first q ns events (t ∷ ts) =
    both (if_charged_to t (tick q ns).0 ns) (time_of t (ticked q ns) events) (sum_times q (Ticks ns ∷ events) ts)
    (sum_charged (tick q ns).0 ns ts) (sum_times (ticked q ns) events ts) (tick_first q ns events ts)

pick_first : (q : State) (events : List Event) (ts : List ℕ) → sum_times q (Picks ∷ events) ts ≡ sum_times (picked q) events ts
pick_first q events [] = refl
pick_first q events (t ∷ ts) = ap (λ (n : ℕ). time_of t (picked q) events + n) (pick_first q events ts)

change_first : (q r : State) (events : List Event) (ts : List ℕ) → sum_times q (Becomes r ∷ events) ts ≡ sum_times r events ts
change_first q r events [] = refl
change_first q r events (t ∷ ts) = ap (λ (n : ℕ). time_of t r events + n) (change_first q r events ts)

-- ---- one tick
nobody : (ts : List ℕ) (ns : ℕ) (answer : TickAnswer) → ((t : ℕ) → if_charged_to t answer ns ≡ 0) → sum_charged answer ns ts ≡ 0
nobody [] ns answer none = refl
nobody (t ∷ ts) ns answer none =
    let rest = nobody ts ns answer none in
    let one = none t in
    omega (arith, rest, one)

times_by : (ns rest n : ℕ) (b : Bool) → rest ≡ n * ns → cond b ns 0 + rest ≡ (cond b 1 0 + n) * ns
times_by ns rest n true h = omega (arith, h)
times_by ns rest n false h = omega (arith, h)

all_charged : (p ns : ℕ) (resched : Bool) (ts : List ℕ) → sum_charged (Charged p resched) ns ts ≡ times_in p ts * ns
all_charged p ns resched [] = omega arith
all_charged p ns resched (t ∷ ts) = times_by ns (sum_charged (Charged p resched) ns ts) (times_in p ts) (p == t) (all_charged p ns resched ts)

once : (n ns : ℕ) → n ≡ 1 → n * ns ≡ ns
once n ns h = omega (arith, ap (λ (m : ℕ). m * ns) h)

one_tick : (q : State) (ns : ℕ) (ts : List ℕ) → ((t : ℕ) → q.running ≡ Some t → times_in t ts ≡ 1)
    → sum_charged (tick q ns).0 ns ts ≡ if_charged (tick q ns).0 ns
one_tick q ns ts here =
    tick_cases (λ z. sum_charged (z.0) ns ts ≡ if_charged (z.0) ns) q ns (nobody ts ns Idle (λ t. refl)) (nobody ts ns Range (λ t. refl))
    (λ p e resched runs at. all_charged p ns resched ts ∙ once (times_in p ts) ns (here p runs))

added : (a b c d : ℕ) → a ≡ b → c ≡ d → a + c ≡ b + d
added a b c d h k = omega (arith, h, k)

no_times : (q : State) (ts : List ℕ) → sum_times q [] ts ≡ 0
no_times q [] = refl
no_times q (t ∷ ts) = let rest = no_times q ts in omega (arith, rest)

pub they_have_the_cpu : TheyHaveTheCpu
they_have_the_cpu q [] ts only = no_times q ts
they_have_the_cpu q (Picks ∷ events) ts only = pick_first q events ts ∙ they_have_the_cpu (picked q) events ts only
they_have_the_cpu q (Ticks ns ∷ events) ts only =
    tick_first q ns events ts
    ∙ added (sum_charged (tick q ns).0 ns ts) (if_charged (tick q ns).0 ns) (sum_times (ticked q ns) events ts) (cpu_time (ticked q ns) events)
    (one_tick q ns ts only.0) (they_have_the_cpu (ticked q ns) events ts only.1)
they_have_the_cpu q (Becomes r ∷ events) ts only = change_first q r events ts ∙ they_have_the_cpu r events ts only
