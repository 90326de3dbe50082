-- Where no tick is shorter than some nanoseconds, charges are few for the time that they take.
use Rattle.std.proofs.Common.{ℕ, ◌+◌, ◌*◌, ◌≤◌, Bool, true, false, cond, List, [], ◌∷◌, arith}
use Rattle.std.specs.{Prelude.◌==◌, List.AllByRecursion}
use Rattle.eevdf_queue.specs.{declared.answers.TickAnswer.TickAnswer, State.State, Pick.after_pick, Tick.tick}
use Rattle.eevdf_queue.specs.declared.answers.TickAnswer.TheVariants.{Charged, Idle, Range}
use Rattle.eevdf_fairness.specs.Turns.{Turn, HaveNoShorterTicks, after_turn}
use Rattle.eevdf_fairness.specs.Tallies.{Measure, over_ticks, over_turns, if_charged, if_charged_to, cpu_time, cpu_charges, task_time, task_charges}

both_sums : (least a b c d : ℕ) → least * a ≤ b → least * c ≤ d → least * (a + c) ≤ b + d
both_sums least a b c d h k = omega (arith, h, k)

none_times : (least n : ℕ) → least * 0 ≤ n
none_times least n = omega arith

once : (least ns : ℕ) → least ≤ ns → least * 1 ≤ ns
once least ns h = omega (arith, h)

-- a number for each tick that is no greater, times the least length, than another is so in sum
module _ (least : ℕ) (f g : Measure) (each : (q : State) (ns : ℕ) → least ≤ ns → least * f q ns ≤ g q ns) where
  in_turn : (q : State) (turn : Turn) → AllByRecursion (λ ns. least ≤ ns) turn → least * over_ticks f q turn ≤ over_ticks g q turn
  in_turn q [] h = none_times least 0
  in_turn q (ns ∷ turn) h =
      both_sums least (f q ns) (g q ns) (over_ticks f ((tick q ns).1) turn) (over_ticks g ((tick q ns).1) turn) (each q ns h.0) (in_turn ((tick q ns).1) turn h.1)

  in_turns : (q : State) (turns : List Turn) → HaveNoShorterTicks least turns → least * over_turns f q turns ≤ over_turns g q turns
  in_turns q [] h = none_times least 0
  in_turns q (turn ∷ turns) h =
      both_sums least (over_ticks f (after_pick q) turn) (over_ticks g (after_pick q) turn) (over_turns f (after_turn q turn) turns) (over_turns g (after_turn q turn) turns)
      (in_turn (after_pick q) turn h.0) (in_turns (after_turn q turn) turns h.1)

one_charge : (least ns : ℕ) (a : TickAnswer) → least ≤ ns → least * if_charged a 1 ≤ if_charged a ns
one_charge least ns (Charged task resched) h = once least ns h
one_charge least ns Idle h = none_times least 0
one_charge least ns Range h = none_times least 0

by_task : (least ns : ℕ) (b : Bool) → least ≤ ns → least * cond b 1 0 ≤ cond b ns 0
by_task least ns true h = once least ns h
by_task least ns false h = none_times least 0

one_charge_to : (t least ns : ℕ) (a : TickAnswer) → least ≤ ns → least * if_charged_to t a 1 ≤ if_charged_to t a ns
one_charge_to t least ns (Charged task resched) h = by_task least ns (task == t) h
one_charge_to t least ns Idle h = none_times least 0
one_charge_to t least ns Range h = none_times least 0

pub cpu_charges_long : (least : ℕ) (q : State) (turns : List Turn) → HaveNoShorterTicks least turns → least * cpu_charges q turns ≤ cpu_time q turns
cpu_charges_long least =
    in_turns least (λ q ns. if_charged (tick q ns).0 1) (λ q ns. if_charged (tick q ns).0 ns) (λ q ns. one_charge least ns (tick q ns).0)

pub task_charges_long : (t least : ℕ) (q : State) (turns : List Turn) → HaveNoShorterTicks least turns → least * task_charges t q turns ≤ task_time t q turns
task_charges_long t least =
    in_turns least (λ q ns. if_charged_to t (tick q ns).0 1) (λ q ns. if_charged_to t (tick q ns).0 ns) (λ q ns. one_charge_to t least ns (tick q ns).0)
