-- What a pull comes to, by how many tasks its CPU and its source have.
use Rattle.std.specs.Prelude.{◌≡◌, ℕ, ◌≤◌, ◌⊎◌, List, if◌then◌else◌, Some}
use Rattle.eevdf_queue.specs.{State.Contents, Moves.sleeper_of, Placing.can_place}
use Rattle.eevdf_ops.specs.{declared.deeds.Answer.Answer, declared.deeds.Deed.TheVariants.Pull}
use Rattle.eevdf_ops.specs.declared.deeds.Answer.TheVariants.{Pulled, Balanced, Nothing, Range}
use Rattle.eevdf_ops.specs.{Machine.Machine, Machine.queue_at, Whole.whole, WholePull.offer}
use Rattle.eevdf_balance.specs.Crowds.{tasks_at, IsIdle, IsCrowded}

-- a pull took no task: the source had none to give, or none that would level the loads
abbrev pub IsRefusal : Answer → Type 0
IsRefusal answer = (answer ≡ Nothing) ⊎ (answer ≡ Balanced)

-- a pull takes what the source offers, or finds no place for it in the range of virtual time
pub record Takes (homes : List ℕ) (m : Machine) (cpu source : ℕ) : Type 0 where
  pub task : Contents
  pub offered : offer (queue_at m source) ≡ Some task
  pub answered : (whole homes (Pull cpu source) m).0 ≡ (if can_place (queue_at m cpu) (sleeper_of task) then Pulled task.task else Range)

-- a pull by a CPU that has nothing from one that is crowded takes a task, whatever the tasks weigh and whoever runs
abbrev pub IdlePullTakes : Type 0
IdlePullTakes = (homes : List ℕ) (m : Machine) (cpu source : ℕ) → IsIdle m cpu → IsCrowded m source → Takes homes m cpu source

-- a pull from a CPU that has one task or none is refused, whoever pulls
abbrev pub LonePullIsRefused : Type 0
LonePullIsRefused = (homes : List ℕ) (m : Machine) (cpu source : ℕ) → tasks_at m source ≤ 1 → IsRefusal (whole homes (Pull cpu source) m).0
