-- What is kept beside any queue to tell what tasks lack of their shares: a clock, and the load that it goes by. That is the load of the
-- last tick that charged, and stays so whatever the load of the queue is until the next one.
use Rattle.std.specs.Prelude.{◌≡◌, ℕ, ◌+◌, ◌*◌, ◌≤◌, ℤ, Option, Some, None, refl}
use Rattle.std.specs.Coded.{Coded, code_by, coded×, coded_ℕ}
use Rattle.std.specs.FinMap.{get}
use Rattle.eevdf_weight.specs.{Weight.weight_of}
use Rattle.eevdf_queue.specs.{declared.entry.Entry.Entry, State.State, Sums.total_weight, declared.answers.TickAnswer.TickAnswer}
use Rattle.eevdf_queue.specs.{Tick.tick, Yield.yield_now, Rebase.rebase}
use Rattle.eevdf_queue.specs.declared.answers.TickAnswer.TheVariants.{Charged, Idle, Range}
use Rattle.eevdf_fair_queue.specs.{declared.share_clock.ShareMark.ShareMark}
use Rattle.eevdf_fair_queue.specs.ShareClock.{Clock, clock_code, begun, charged, lowered, reloaded, mark_of, lack_since}
use Rattle.eevdf_fair_queue.specs.Owed.{Share, with_share, served_by, IsTold}

pub record SharesView : Type 0 where
  pub clock : Clock
  pub load : ℕ

abbrev pub shares_view_code : Coded SharesView
shares_view_code = code_by (Clock × ℕ) (coded× clock_code coded_ℕ) (λ s. (s.clock, s.load)) (λ p. record { clock = p.0; load = p.1 }) (λ _. refl)

-- those of a queue that was charged for nothing yet
abbrev pub fresh_shares : SharesView
fresh_shares = record { clock = begun; load = 1 }

-- a charge at a load, by which the clock goes from then on
abbrev pub charged_at : SharesView → ℕ → ℕ → SharesView
charged_at s ns load = record { clock = charged (reloaded s.clock s.load load) ns load; load = load }

-- after a tick that was answered so
abbrev pub ticked : SharesView → State → ℕ → TickAnswer → SharesView
ticked s q ns (Charged task resched) = charged_at s ns (total_weight q.runnable)
ticked s q ns Idle = s
ticked s q ns Range = s

-- all virtual times are lower by a number
abbrev pub shares_lowered : SharesView → ℤ → SharesView
shares_lowered s by = record s { clock = lowered s.clock by }

-- the mark of a task, and what it lacks since one
abbrev pub mark_by : SharesView → Option Entry → Option ShareMark
mark_by s None = None
mark_by s (Some e) = mark_of s.clock s.load e.v

abbrev pub mark_beside : SharesView → State → ℕ → Option ShareMark
mark_beside s q task = mark_by s (get q.runnable task)

abbrev pub lack_by : SharesView → ShareMark → Option Entry → Option ℕ
lack_by s m None = None
lack_by s m (Some e) = lack_since s.clock s.load e.v (weight_of e.nice) m

abbrev pub lack_beside : SharesView → State → ℕ → ShareMark → Option ℕ
lack_beside s q task m = lack_by s m (get q.runnable task)

-- a runnable task whose share since a mark was this, and which was served so much of it, in nanoseconds
pub record IsOwedOf (s : SharesView) (q : State) (task : ℕ) (m : ShareMark) (share : Share) (served : ℕ) : Type 0 where
  pub entry : Entry
  pub here : get q.runnable task ≡ Some entry
  pub some : 1 ≤ s.load
  pub told : IsTold s.clock.settled s.clock.since s.load entry.v (weight_of entry.nice) m share served

-- what it was served is less than its share by no more than so many nanoseconds
abbrev pub LacksNoMoreOf : SharesView → State → ℕ → ShareMark → ℕ → Type 0
LacksNoMoreOf s q task m ns = (share : Share) (served : ℕ) → IsOwedOf s q task m share served → share.over ≤ share.under * (served + ns)

-- a call that takes no time
abbrev pub KeepsSharesOf : SharesView → State → SharesView → State → Type 0
KeepsSharesOf s q t r = (task : ℕ) (m : ShareMark) (share : Share) (served : ℕ) → IsOwedOf s q task m share served → IsOwedOf t r task m share served

-- a task that is as it was: runnable before and after, at the same virtual runtime and nice level
pub record StaysAsItWas (q r : State) (task : ℕ) : Type 0 where
  pub before : Entry
  pub here : get q.runnable task ≡ Some before
  pub after : Entry
  pub there : get r.runnable task ≡ Some after
  pub runtime : after.v ≡ before.v
  pub level : after.nice ≡ before.nice

-- a tick: each task has its share of the nanoseconds that were charged, and whoever ran was served them
abbrev pub GivesSharesOf : SharesView → State → SharesView → State → ℕ → TickAnswer → Type 0
GivesSharesOf s q t r ns (Charged ran resched) =
    (task : ℕ) (m : ShareMark) (share : Share) (served : ℕ) (owed : IsOwedOf s q task m share served)
    → IsOwedOf t r task m (with_share share (weight_of owed.entry.nice) (total_weight q.runnable) ns) (served_by task ran served ns)
GivesSharesOf s q t r ns Idle = KeepsSharesOf s q t r
GivesSharesOf s q t r ns Range = KeepsSharesOf s q t r

-- what each call does to what tasks are owed, where a tick and a rebase alone are told to what is kept beside the queue
pub record AreToldOf (s : SharesView) (q : State) : Type 0 where
  pub ticks : (ns : ℕ) → GivesSharesOf s q (ticked s q ns (tick q ns).0) (tick q ns).1 ns (tick q ns).0
  pub rebases : KeepsSharesOf s q (shares_lowered s (rebase q).0) (rebase q).1
  pub yields : KeepsSharesOf s q s (yield_now q).1
  pub others : (r : State) (task : ℕ) (m : ShareMark) (share : Share) (served : ℕ) → StaysAsItWas q r task
      → IsOwedOf s q task m share served → IsOwedOf s r task m share served

abbrev pub SharesBesideAreTold : Type 0
SharesBesideAreTold = (s : SharesView) (q : State) → AreToldOf s q
