-- Laws of the deeds.
use Rattle.std.specs.Prelude.{◌≡◌, ℕ, ◌<◌, true, List, length}
use Rattle.std.specs.Int.{abs_diff}
use Rattle.std.specs.FinMap as map
use Rattle.eevdf_ops.specs.{declared.deeds.Deed.Deed, declared.deeds.Deed.TheVariants.Pull}
use Rattle.eevdf_ops.specs.{declared.deeds.Answer.TheVariants.Pulled, Setup.is_allowed, Machine.Machine, Machine.queue_at}
use Rattle.eevdf_ops.specs.{Places.AreCpus, Places.IsPlaced, Whole.whole, WholePull.load_of}

-- an allowed deed keeps each task in one place
abbrev pub DeedsKeepPlaces : Type 0
DeedsKeepPlaces =
    (homes : List ℕ) (deed : Deed) (m : Machine) → is_allowed (length m) homes deed ≡ true → AreCpus (length m) homes →
    IsPlaced homes m → IsPlaced homes (whole homes deed m).1

-- how far the loads of two CPUs are apart
abbrev pub imbalance : Machine → ℕ → ℕ → ℕ
imbalance m a b = abs_diff (load_of (queue_at m a)) (load_of (queue_at m b))

-- on this machine, where each task stands in one place, the CPU pulls a task from the source
pub record Pulls (homes : List ℕ) (m : Machine) (cpu source task : ℕ) : Type 0 where
  pub placed : IsPlaced homes m
  pub allowed : is_allowed (length m) homes (Pull cpu source) ≡ true
  pub answered : (whole homes (Pull cpu source) m).0 ≡ Pulled task

-- then the loads of the two are less far apart than before
abbrev pub PullLevels : Type 0
PullLevels =
    (homes : List ℕ) (m : Machine) (cpu source task : ℕ) → Pulls homes m cpu source task →
    imbalance (whole homes (Pull cpu source) m).1 cpu source < imbalance m cpu source

-- and some task is still runnable at the source
abbrev pub PullLeavesSome : Type 0
PullLeavesSome =
    (homes : List ℕ) (m : Machine) (cpu source task : ℕ) → Pulls homes m cpu source task →
    (queue_at (whole homes (Pull cpu source) m).1 source).runnable ≡ map.empty → ⊥
