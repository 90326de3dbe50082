-- A sweep: a CPU pulls from each other one in turn, from the next number on, until one gives a task.
use Rattle.std.specs.Prelude.{◌≡◌, ◌≢◌, ℕ, ◌+◌, ◌<◌, ◌≤◌, nat_lt, ◌⊎◌, List, length, if◌then◌else◌, None}
use Rattle.eevdf_ops.specs.{declared.deeds.Answer.Answer, declared.deeds.Deed.TheVariants.Pull}
use Rattle.eevdf_ops.specs.{Numbers.cpu_limit, Machine.Machine, Whole.whole}
use Rattle.eevdf_ops.specs.declared.deeds.Answer.TheVariants.{Pulled, Range}
use Rattle.eevdf_balance.specs.{Crowds.tasks_at, Sweeps.taken}

-- what a CPU of a machine is answered that pulls from another one
abbrev pub answer_of_pull : List ℕ → Machine → ℕ → ℕ → Answer
answer_of_pull homes m cpu source = (whole homes (Pull cpu source) m).0

-- another CPU of a machine
pub record IsAnother (m : Machine) (cpu source : ℕ) : Type 0 where
  pub there : source < length m
  pub numbered : source < cpu_limit
  pub apart : source ≢ cpu

-- which turn it has in a sweep: those with greater numbers come first, and then those with lower ones
abbrev pub turn_of : ℕ → ℕ → ℕ
turn_of cpu source = if nat_lt cpu source then source else cpu_limit + source

-- none of the other CPUs gives a task whose turn is before this one
abbrev pub NoneGivesBefore : List ℕ → Machine → ℕ → ℕ → Type 0
NoneGivesBefore homes m cpu turn =
    (source : ℕ) → IsAnother m cpu source → turn_of cpu source < turn → taken (answer_of_pull homes m cpu source) ≡ None

-- none of them gives one at all
abbrev pub NoneGives : List ℕ → Machine → ℕ → Type 0
NoneGives homes m cpu = (source : ℕ) → IsAnother m cpu source → taken (answer_of_pull homes m cpu source) ≡ None

-- the first that gives one gives this task, and that pull leaves this machine
pub record GivesFirst (homes : List ℕ) (m : Machine) (cpu task : ℕ) (after : Machine) : Type 0 where
  pub source : ℕ
  pub another : IsAnother m cpu source
  pub pulled : answer_of_pull homes m cpu source ≡ Pulled task
  pub leaves : (whole homes (Pull cpu source) m).1 ≡ after
  pub first : NoneGivesBefore homes m cpu (turn_of cpu source)

-- no other CPU is crowded, but for those whose task couldn't be placed in the range of virtual time
abbrev pub NoneIsCrowded : List ℕ → Machine → ℕ → Type 0
NoneIsCrowded homes m cpu =
    (source : ℕ) → IsAnother m cpu source → (tasks_at m source ≤ 1) ⊎ (answer_of_pull homes m cpu source ≡ Range)
