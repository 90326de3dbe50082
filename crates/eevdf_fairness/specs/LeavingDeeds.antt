-- The deeds by which a task leaves the runnable ones of a CPU's queue.
use Rattle.std.specs.Prelude.{◌≡◌, ℕ, ◌<◌, ℤ, List, length}
use Rattle.eevdf_queue.specs.Leaving.{leave}
use Rattle.eevdf_ops.specs.declared.deeds.Deed.TheVariants.{Sleep, Doze, Pull, End}
use Rattle.eevdf_ops.specs.declared.deeds.Answer.TheVariants.{Slept, Pulled, Ended}
use Rattle.eevdf_ops.specs.{Machine.Machine, Machine.queue_at, Whole.whole}
use Rattle.eevdf_fairness.specs.Leavings.{HaveSameTimes}

pub record DeedsLeave : Type 0 where
  -- a sleep that is done, at the CPU on which the task ran, be its home there or elsewhere
  pub sleeps : (homes : List ℕ) (m : Machine) (cpu task : ℕ) (lag : ℤ) → cpu < length m → (whole homes (Sleep cpu task) m).0 ≡ Slept lag
      → HaveSameTimes (queue_at (whole homes (Sleep cpu task) m).1 cpu) (leave (queue_at m cpu) task)
  -- a sleep at any other CPU, such as the task's home: nobody leaves
  pub sleeps_elsewhere : (homes : List ℕ) (m : Machine) (cpu task other : ℕ) → (other ≡ cpu → ⊥)
      → HaveSameTimes (queue_at (whole homes (Sleep cpu task) m).1 other) (queue_at m other)
  -- a doze likewise
  pub dozes : (homes : List ℕ) (m : Machine) (cpu task : ℕ) (lag : ℤ) → cpu < length m → (whole homes (Doze cpu task) m).0 ≡ Slept lag
      → HaveSameTimes (queue_at (whole homes (Doze cpu task) m).1 cpu) (leave (queue_at m cpu) task)
  pub dozes_elsewhere : (homes : List ℕ) (m : Machine) (cpu task other : ℕ) → (other ≡ cpu → ⊥)
      → HaveSameTimes (queue_at (whole homes (Doze cpu task) m).1 other) (queue_at m other)
  -- an end that is done, at the CPU on which the task was runnable, be its home there or elsewhere
  pub ends : (homes : List ℕ) (m : Machine) (cpu task : ℕ) → cpu < length m → (whole homes (End cpu task) m).0 ≡ Ended
      → HaveSameTimes (queue_at (whole homes (End cpu task) m).1 cpu) (leave (queue_at m cpu) task)
  -- an end at any other CPU: nobody leaves
  pub ends_elsewhere : (homes : List ℕ) (m : Machine) (cpu task other : ℕ) → (other ≡ cpu → ⊥)
      → HaveSameTimes (queue_at (whole homes (End cpu task) m).1 other) (queue_at m other)
  -- a pull that is done, at the CPU that the task is pulled from
  pub pulls : (homes : List ℕ) (m : Machine) (cpu source task : ℕ) → source < length m → (source ≡ cpu → ⊥)
      → (whole homes (Pull cpu source) m).0 ≡ Pulled task
      → HaveSameTimes (queue_at (whole homes (Pull cpu source) m).1 source) (leave (queue_at m source) task)
