-- What turns come to in time: how long the CPU and each task ran, and what rounding took from the charges.
use Rattle.std.specs.Prelude.{ℕ, ◌+◌, ◌*◌, ◌%◌, ◌==◌, if◌then◌else◌, List, [], ◌∷◌, Option, Some, None}
use Rattle.std.specs.FinMap as map
use Rattle.eevdf_weight.specs.Weight.{weight_of}
use Rattle.eevdf_queue.specs.{declared.entry.Entry.Entry, declared.answers.TickAnswer.TickAnswer, State.State, Pick.after_pick, Tick.tick}
use Rattle.eevdf_queue.specs.declared.answers.TickAnswer.TheVariants.{Charged, Idle, Range}
use Rattle.eevdf_fairness.specs.Turns.{Turn, after_turn}

-- a number for each tick, by the queue before it and its nanoseconds
abbrev pub Measure : Type 0
Measure = State → ℕ → ℕ

-- the sum over ticks of the task that runs
abbrev pub over_ticks : Measure → State → Turn → ℕ
over_ticks f q [] = 0
over_ticks f q (ns ∷ turn) = f q ns + over_ticks f ((tick q ns).1) turn

-- the sum over all ticks of turns
abbrev pub over_turns : Measure → State → List Turn → ℕ
over_turns f q [] = 0
over_turns f q (turn ∷ turns) = over_ticks f (after_pick q) turn + over_turns f (after_turn q turn) turns

-- a number where a tick is charged, and 0 where it is refused or nobody runs
abbrev pub if_charged : TickAnswer → ℕ → ℕ
if_charged (Charged task resched) n = n
if_charged Idle n = 0
if_charged Range n = 0

-- the same where it is charged to this task
abbrev pub if_charged_to : ℕ → TickAnswer → ℕ → ℕ
if_charged_to t (Charged task resched) n = if task == t then n else 0
if_charged_to t Idle n = 0
if_charged_to t Range n = 0

-- what rounding takes from the charge of the task that runs, in weight times virtual time: less than its weight
abbrev pub remainder_of : Option Entry → ℕ → ℕ
remainder_of None ns = 0
remainder_of (Some e) ns = (ns * 1024) % weight_of e.nice

abbrev pub remainder : State → Option ℕ → ℕ → ℕ
remainder q None ns = 0
remainder q (Some t) ns = remainder_of (map.get q.runnable t) ns

-- the nanoseconds that the CPU ran, the charges, and what rounding took from them
abbrev pub cpu_time : State → List Turn → ℕ
cpu_time = over_turns (λ q ns. if_charged (tick q ns).0 ns)

abbrev pub cpu_charges : State → List Turn → ℕ
cpu_charges = over_turns (λ q ns. if_charged (tick q ns).0 1)

abbrev pub cpu_rounding : State → List Turn → ℕ
cpu_rounding = over_turns (λ q ns. if_charged (tick q ns).0 (remainder q q.running ns))

-- the same of one task
abbrev pub task_time : ℕ → State → List Turn → ℕ
task_time t = over_turns (λ q ns. if_charged_to t (tick q ns).0 ns)

abbrev pub task_charges : ℕ → State → List Turn → ℕ
task_charges t = over_turns (λ q ns. if_charged_to t (tick q ns).0 1)

abbrev pub task_rounding : ℕ → State → List Turn → ℕ
task_rounding t = over_turns (λ q ns. if_charged_to t (tick q ns).0 (remainder q q.running ns))
