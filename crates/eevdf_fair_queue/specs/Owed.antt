-- What a task lacks of its share of the CPU's time since a moment.
use Rattle.std.specs.Prelude.{◌≡◌, ℕ, ◌+◌, ◌*◌, ◌≤◌, ◌^◌, ◌==◌, ℤ, pos, ◌+ℤ◌, ◌-ℤ◌, ◌*ℤ◌, ◌≤ℤ◌, if◌then◌else◌, Option, Some, None}
use Rattle.std.specs.FinMap.{get}
use Rattle.eevdf_weight.specs.{Weight.weight_of}
use Rattle.eevdf_queue.specs.{declared.entry.Entry.Entry, Sums.total_weight, declared.answers.TickAnswer.TickAnswer}
use Rattle.eevdf_queue.specs.{Tick.tick, Yield.yield_now, Rebase.rebase}
use Rattle.eevdf_queue.specs.declared.answers.TickAnswer.TheVariants.{Charged, Idle, Range}
use Rattle.eevdf_fair_queue.specs.{declared.share_clock.ShareMark.ShareMark, Fair.FairView}
use Rattle.eevdf_fair_queue.specs.ShareClock.{Clock, charged, lowered, reloaded, mark_of, lack_since}

-- the load of a fair queue
abbrev pub load_of : FairView → ℕ
load_of f = total_weight f.queue.state.runnable

-- the clock after a tick that was answered so
abbrev pub charged_from : FairView → ℕ → TickAnswer → Clock
charged_from f ns (Charged task resched) = charged f.clock ns (load_of f)
charged_from f ns Idle = f.clock
charged_from f ns Range = f.clock

-- the clock after a call that may have changed the load
abbrev pub reloaded_from : FairView → FairView → Clock
reloaded_from f g = reloaded f.clock (load_of f) (load_of g)

-- the mark of a task, and what it lacks since one
abbrev pub mark_by : FairView → Option Entry → Option ShareMark
mark_by f None = None
mark_by f (Some e) = mark_of f.clock (load_of f) e.v

abbrev pub share_mark : FairView → ℕ → Option ShareMark
share_mark f task = mark_by f (get f.queue.state.runnable task)

abbrev pub lack_by : FairView → ShareMark → Option Entry → Option ℕ
lack_by f m None = None
lack_by f m (Some e) = lack_since f.clock (load_of f) e.v (weight_of e.nice) m

abbrev pub share_bound : FairView → ℕ → ShareMark → Option ℕ
share_bound f task m = lack_by f m (get f.queue.state.runnable task)

-- a share of the CPU's time, in nanoseconds: exactly, as a fraction
pub record Share : Type 0 where
  pub over : ℕ
  pub under : ℕ

abbrev pub no_share : Share
no_share = record { over = 0; under = 1 }

-- with what a weight has of so many nanoseconds besides, at a load
abbrev pub with_share : Share → ℕ → ℕ → ℕ → Share
with_share s weight load ns = record { over = s.over * load + weight * ns * s.under; under = s.under * load }

-- how far a clock at a load is past a virtual runtime, beyond a mark: exactly, in parts times the load
abbrev pub past_mark : ℤ → ℕ → ℕ → ℤ → ℤ → ℤ
past_mark settled since load v standing = (((settled -ℤ (v *ℤ pos (2 ^ 32))) -ℤ standing) *ℤ pos load) +ℤ pos (since * 2 ^ 42)

-- the share is no more than what was served and what the task stands behind the clock since the mark
abbrev pub IsTold : Option ℤ → ℕ → ℕ → ℤ → ℕ → ShareMark → Share → ℕ → Type 0
IsTold None since load v weight m s served = Unit {0}
IsTold (Some settled) since load v weight m s served =
    pos (s.over * (2 ^ 42 * load))
    ≤ℤ (pos (s.under * (served * (2 ^ 42 * load))) +ℤ (past_mark settled since load v m.standing *ℤ pos (s.under * weight)))

-- a runnable task whose share since a mark was this, and which was served so much of it, in nanoseconds
pub record IsOwed (f : FairView) (task : ℕ) (m : ShareMark) (s : Share) (served : ℕ) : Type 0 where
  pub entry : Entry
  pub here : get f.queue.state.runnable task ≡ Some entry
  pub told : IsTold f.clock.settled f.clock.since (load_of f) entry.v (weight_of entry.nice) m s served

-- what it was served is less than its share by no more than so many nanoseconds
abbrev pub LacksNoMore : FairView → ℕ → ShareMark → ℕ → Type 0
LacksNoMore f task m ns = (s : Share) (served : ℕ) → IsOwed f task m s served → s.over ≤ s.under * (served + ns)

-- a call that takes no time
abbrev pub KeepsShares : FairView → FairView → Type 0
KeepsShares f g = (task : ℕ) (m : ShareMark) (s : Share) (served : ℕ) → IsOwed f task m s served → IsOwed g task m s served

-- the same of tasks that are as they were: runnable before and after, at the same virtual runtime and nice level
pub record IsAsItWas (f g : FairView) (task : ℕ) : Type 0 where
  pub before : Entry
  pub here : get f.queue.state.runnable task ≡ Some before
  pub after : Entry
  pub there : get g.queue.state.runnable task ≡ Some after
  pub runtime : after.v ≡ before.v
  pub level : after.nice ≡ before.nice

abbrev pub KeepsSharesOfOthers : FairView → FairView → Type 0
KeepsSharesOfOthers f g =
    (task : ℕ) (m : ShareMark) (s : Share) (served : ℕ) → IsAsItWas f g task → IsOwed f task m s served → IsOwed g task m s served

-- a tick: each task has its share of the nanoseconds that were charged, and whoever ran was served them
abbrev pub served_by : ℕ → ℕ → ℕ → ℕ → ℕ
served_by task ran served ns = if ran == task then served + ns else served

abbrev pub GivesShares : FairView → FairView → ℕ → TickAnswer → Type 0
GivesShares f g ns (Charged ran resched) =
    (task : ℕ) (m : ShareMark) (s : Share) (served : ℕ) (owed : IsOwed f task m s served)
    → IsOwed g task m (with_share s (weight_of owed.entry.nice) (load_of f) ns) (served_by task ran served ns)
GivesShares f g ns Idle = KeepsShares f g
GivesShares f g ns Range = KeepsShares f g

-- what each call does to what tasks are owed
pub record AreTold (f g : FairView) : Type 0 where
  pub ticks : (ns : ℕ) → g.queue.state ≡ (tick f.queue.state ns).1 → g.clock ≡ charged_from f ns (tick f.queue.state ns).0
      → GivesShares f g ns (tick f.queue.state ns).0
  pub rebases : g.queue.state ≡ (rebase f.queue.state).1 → g.clock ≡ lowered f.clock (rebase f.queue.state).0 → KeepsShares f g
  pub yields : g.queue.state ≡ (yield_now f.queue.state).1 → g.clock ≡ f.clock → KeepsShares f g
  pub stays : g.queue.state.runnable ≡ f.queue.state.runnable → g.clock ≡ f.clock → KeepsShares f g
  pub others : g.clock ≡ reloaded_from f g → KeepsSharesOfOthers f g

abbrev pub SharesAreTold : Type 0
SharesAreTold = (f g : FairView) → AreTold f g
