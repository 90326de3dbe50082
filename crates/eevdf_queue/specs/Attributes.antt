-- A change of a task's nice level and slice at once, and a sleeping task that begins anew.
use Rattle.std.specs.Prelude.{ℕ, ℤ, pos, ◌*ℤ◌, Option, Some, None}
use Rattle.std.specs.FinMap as map
use Rattle.eevdf_weight.specs.{Weight.weight_of, Placement.floor_div}
use Rattle.eevdf_queue.specs.{declared.answers.ReniceAnswer.ReniceAnswer, declared.answers.SetAnswer.SetAnswer}
use Rattle.eevdf_queue.specs.State.{State, Sleeper, Contents}
use Rattle.eevdf_queue.specs.{Moves.sleeper_of, Renice.renice, SliceChange.limited_lag, SliceChange.set_slice}
use Rattle.eevdf_queue.specs.declared.answers.ReniceAnswer.TheVariants as reniced
use Rattle.eevdf_queue.specs.declared.answers.SetAnswer.TheVariants.{Set, NotHere, Range}

-- what is kept of a sleeping task under another nice level and slice: its lag stands for the same service in the virtual
-- time of the new weight, rounded down, and is cut to the limit that the task then has
abbrev pub sleeper_with : Sleeper → ℤ → ℕ → Sleeper
sleeper_with s nice slice = record {
  lag = limited_lag (floor_div (s.lag *ℤ pos (weight_of s.nice)) (weight_of nice)) nice slice;
  nice = nice;
  slice = slice;
}

abbrev pub set_sleeper : State → ℕ → ℤ → ℕ → Option Sleeper → SetAnswer × State
set_sleeper q task nice slice None = (NotHere, q)
set_sleeper q task nice slice (Some s) = (Set, record q { asleep = map.insert q.asleep task (sleeper_with s nice slice) })

-- what comes of a task that was to get the nice level: where it has joined again, the request after the one that then stands is of
-- the new slice
abbrev pub set_reniced : State → ℕ → ℤ → ℕ → ReniceAnswer → State → SetAnswer × State
set_reniced q task nice slice reniced.Reniced joined = (Set, set_slice joined task slice)
set_reniced q task nice slice reniced.NotHere joined = set_sleeper q task nice slice (map.get q.asleep task)
set_reniced q task nice slice reniced.Range joined = (Range, q)

-- the deed: what is answered, and the state afterwards
abbrev pub set : State → ℕ → ℤ → ℕ → SetAnswer × State
set q task nice slice = set_reniced q task nice slice (renice q task nice).0 (renice q task nice).1

-- what is kept of a task that has just been made and sleeps
abbrev pub fresh_sleeper : ℤ → ℕ → Sleeper
fresh_sleeper nice slice = record { lag = pos 0; nice = nice; slice = slice }

abbrev pub begin_sleeper : State → ℕ → ℤ → ℕ → Option Sleeper → State
begin_sleeper q task nice slice None = q
begin_sleeper q task nice slice (Some s) = record q { asleep = map.insert q.asleep task (fresh_sleeper nice slice); places = map.remove q.places task }

-- the queue where a sleeping task begins anew, without a place where it dozes; it stays as it is where the task doesn't sleep here
abbrev pub begin : State → ℕ → ℤ → ℕ → State
begin q task nice slice = begin_sleeper q task nice slice (map.get q.asleep task)

-- what a parcel carries when its task brings this along
abbrev pub bringing : Contents → Sleeper → Contents
bringing p s = record p { nice = s.nice; slice = s.slice; lag = s.lag }

-- and without a lag
abbrev pub without_lag : Contents → Contents
without_lag p = record p { lag = pos 0 }

-- and with another nice level and slice
abbrev pub contents_with : Contents → ℤ → ℕ → Contents
contents_with p nice slice = bringing p (sleeper_with (sleeper_of p) nice slice)
