-- What every fair queue keeps, and what is seen of it.
use Rattle.std.specs.Prelude.{◌≡◌, ℕ, ℤ, pos, ◌+ℤ◌, ◌≤ℤ◌, ◌⊎◌, Option, Some, None, refl}
use Rattle.std.specs.Coded.{Coded, code_by, coded×, coded_option, coded_ℤ}
use Rattle.std.specs.FinMap.{get}
use Rattle.eevdf_queue.specs.{declared.entry.Entry.Entry, State.State, State.View, Sums.Tasks, Sums.virtual_time, Pick.pick_of}
use Rattle.eevdf_queue.specs.{Codes.view_code, declared.answers.TickAnswer.TickAnswer}
use Rattle.eevdf_queue.specs.declared.answers.TickAnswer.TheVariants.{Charged, Idle, Range}
use Rattle.eevdf_dozes.specs.Stretches.{NoneIsPastDue}
use Rattle.eevdf_fair_queue.specs.{declared.bounds.Bounds.Bounds, declared.bounds.Mark.Mark, Bounds.charged_to, ShareClock.Clock, ShareClock.clock_code}

-- what is seen of a fair queue: its queue, its bounds and the clock of shares
pub record FairView : Type 0 where
  pub queue : View
  pub bounds : Bounds
  pub clock : Clock

-- a virtual runtime isn't past the front, or isn't past a deadline by more than the longest turn
abbrev pub IsNear : Bounds → ℤ → ℤ → Type 0
IsNear b v d = (v ≤ℤ b.front) ⊎ (v ≤ℤ (d +ℤ b.longest))

-- no runnable task is further than the furthest
abbrev pub AreBehind : Bounds → Tasks → Type 0
AreBehind b tasks = (t : ℕ) (e : Entry) → get tasks t ≡ Some e → e.v ≤ℤ b.furthest

-- and the furthest isn't past the front and, by more than the longest turn, past the deadline of any
abbrev pub AreNear : Bounds → Tasks → Type 0
AreNear b tasks = (t : ℕ) (e : Entry) → get tasks t ≡ Some e → IsNear b b.furthest e.d

-- where a turn is known, whoever runs is past no deadline by more than what it was charged
pub record IsTurn (q : State) (turn : ℤ) : Type 0 where
  pub some : pos 0 ≤ℤ turn
  pub past : (t u : ℕ) (e f : Entry) → q.running ≡ Some t → get q.runnable t ≡ Some e → get q.runnable u ≡ Some f → e.v ≤ℤ (f.d +ℤ turn)

-- what every fair queue keeps
pub record IsFair (q : State) (b : Bounds) : Type 0 where
  pub due : NoneIsPastDue q.runnable
  pub longest : pos 0 ≤ℤ b.longest
  pub behind : AreBehind b q.runnable
  pub near : AreNear b q.runnable
  pub turn : (turn : ℤ) → b.turn ≡ Some turn → IsTurn q turn

-- where a task stands before a call that touches it, or else the virtual time and the deadline of the pick, of whom there is none where
-- nothing is runnable
abbrev pub mark_at : ℤ → Option Entry → Option Mark
mark_at time None = None
mark_at time (Some e) = Some (record { v = time; d = e.d })

abbrev pub mark_of_pick : State → Option ℕ → Option Mark
mark_of_pick q None = None
mark_of_pick q (Some p) = mark_at (virtual_time q) (get q.runnable p)

abbrev pub mark_by : State → Option Entry → Option Mark
mark_by q (Some e) = Some (record { v = e.v; d = e.d })
mark_by q None = mark_of_pick q (pick_of q.runnable)

abbrev pub mark_of : State → ℕ → Option Mark
mark_of q task = mark_by q (get q.runnable task)

-- how what is seen is told apart
abbrev pub bounds_code : Coded Bounds
bounds_code =
    code_by (ℤ × (ℤ × (ℤ × Option ℤ))) (coded× coded_ℤ (coded× coded_ℤ (coded× coded_ℤ (coded_option coded_ℤ))))
    (λ b. (b.front, (b.furthest, (b.longest, b.turn)))) (λ p. record { front = p.0; furthest = p.1.0; longest = p.1.1.0; turn = p.1.1.1 }) (λ _. refl)

abbrev pub fair_view_code : Coded FairView
fair_view_code =
    code_by (View × (Bounds × Clock)) (coded× view_code (coded× bounds_code clock_code))
    (λ f. (f.queue, (f.bounds, f.clock))) (λ p. record { queue = p.0; bounds = p.1.0; clock = p.1.1 }) (λ _. refl)

-- what a task has that was charged by a tick that was answered so
abbrev pub charged_entry : TickAnswer → State → Option Entry
charged_entry (Charged task resched) q = get q.runnable task
charged_entry Idle q = None
charged_entry Range q = None

-- the bounds after the tick: those after the charge, where a task was charged
abbrev pub charged_by : Bounds → ℕ → TickAnswer → State → Bounds
charged_by b ns answer q = charged_to b ns (charged_entry answer q)
