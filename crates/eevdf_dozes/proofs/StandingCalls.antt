-- Calls that leave each task where it stands: yields, other slices, stops and rebases.
use Rattle.std.proofs.Common.{◌≡◌, refl}
use Rattle.std.specs.Prelude.{ℤ, pos}
use Rattle.eevdf_queue.specs.{State.State, Leaving.nobody_runs, Yield.yield_now, Rebase.rebase}
use Rattle.eevdf_dozes.specs.Stretches.{Watch}
use Rattle.eevdf_dozes.specs.Histories.{Call, Pick, Tick, Doze, Wake, Yield, SetSlice, Stop, Rebase, Touch, after_call, SleepersDoze}
use Rattle.eevdf_dozes.proofs.Standing.{AllStand, yields_stand, slices_stand, stops_stand, rebases_stand}
use Rattle.eevdf_dozes.proofs.Sleepers.{stand_dozes, yield_sleepers, rebase_sleepers, slice_dozes}

pub record Stands (q r : State) : Type 0 where
  pub by : ℤ
  pub all : AllStand q r by
  pub doze : (w : Watch) → SleepersDoze w q → SleepersDoze w r

-- so it is of each call that is no pick and no tick, and doesn't touch one task alone
abbrev pub StandsBy : State → Call → Type 0
StandsBy q Pick = Unit {0}
StandsBy q (Tick ns) = Unit {0}
StandsBy q (Doze task) = Unit {0}
StandsBy q (Wake task) = Unit {0}
StandsBy q (Touch task r) = Unit {0}
StandsBy q call = Stands q (after_call q call)

same_sleepers : (q r : State) (by : ℤ) → AllStand q r by → r.asleep ≡ q.asleep → Stands q r
same_sleepers q r by h same = record { by = by; all = h; doze = λ w. stand_dozes w q r by h same }

pub stands : (q : State) (call : Call) → StandsBy q call
stands q Yield = same_sleepers q (yield_now q).1 (pos 0) (yields_stand q) (yield_sleepers q)
stands q (SetSlice task slice) = record { by = pos 0; all = slices_stand q task slice; doze = λ w. slice_dozes w q task slice }
stands q Stop = same_sleepers q (nobody_runs q) (pos 0) (stops_stand q) refl
stands q Rebase = same_sleepers q (rebase q).1 (rebase q).0 (rebases_stand q) (rebase_sleepers q)
stands q call = tt
