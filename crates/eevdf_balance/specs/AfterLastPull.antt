-- Half of the ideal share along a history, from the last pull on that takes a task.
use Rattle.std.specs.Prelude.{◌≡◌, ◌≢◌, ℕ, ◌+◌, ◌*◌, ◌<◌, ◌≤◌, true, List, ◌∷◌, ◌++◌, length, Some}
use Rattle.std.specs.{FinMap.get, List.AllByRecursion}
use Rattle.eevdf_queue.specs.{declared.entry.Entry.Entry, Candidate.candidate_of}
use Rattle.eevdf_ops.specs.{declared.deeds.Deed.Deed, declared.deeds.Deed.TheVariants.Pull, declared.deeds.Answer.TheVariants.Balanced}
use Rattle.eevdf_ops.specs.{Machine.Machine, Machine.queue_at, Whole.whole, Whole.lines_of, Whole.machine_after}
use Rattle.eevdf_balance.specs.Squares.{load_at, is_turn_or_pull, pulls_that_took}
use Rattle.eevdf_balance.specs.HalfShare.{IsIdealRate, IsRefused, RefusesTwo, HasOfIdeal}

-- a task is the candidate of a CPU: the waiting one of latest deadline
abbrev pub IsOffered : Machine → ℕ → ℕ → Type 0
IsOffered m source task = candidate_of (queue_at m source).runnable (queue_at m source).running ≡ Some task

-- a pull that is *balanced* refuses the candidate of its source
abbrev pub BalancedRefusesCandidate : Type 0
BalancedRefusesCandidate =
    (homes : List ℕ) (m : Machine) (cpu source task : ℕ) → IsOffered m source task → (whole homes (Pull cpu source) m).0 ≡ Balanced →
    IsRefused m cpu source task

-- no deed changes which tasks are runnable where, or what they weigh: turns, rebases, and pulls that take none
pub record KeepTasks (homes : List ℕ) (m : Machine) (deeds : List Deed) : Type 0 where
  pub kinds : AllByRecursion (λ (d : Deed). is_turn_or_pull d ≡ true) deeds
  pub none_taken : pulls_that_took (lines_of homes m deeds) ≡ 0

-- one of the deeds was a pull by this CPU from this source, which was *balanced* while this task was the candidate
pub record WasRefused (homes : List ℕ) (m : Machine) (deeds : List Deed) (cpu source task : ℕ) : Type 0 where
  pub before : List Deed
  pub later : List Deed
  pub done : deeds ≡ before ++ Pull cpu source ∷ later
  pub offered : IsOffered (machine_after homes m before) source task
  pub balanced : (whole homes (Pull cpu source) (machine_after homes m before)).0 ≡ Balanced

-- two tasks of a source were, each at its time, by the CPU that is the least loaded one
pub record WereRefused (homes : List ℕ) (m : Machine) (deeds : List Deed) (cpu source : ℕ) : Type 0 where
  pub least : (other : ℕ) → other < length (machine_after homes m deeds)
      → load_at (machine_after homes m deeds) cpu ≤ load_at (machine_after homes m deeds) other
  pub first : ℕ
  pub second : ℕ
  pub apart : first ≢ second
  pub first_was : WasRefused homes m deeds cpu source first
  pub second_was : WasRefused homes m deeds cpu source second

-- where deeds keep tasks and their weights, what was refused among them stays refused
abbrev pub RefusalsStay : Type 0
RefusalsStay =
    (homes : List ℕ) (m : Machine) (deeds : List Deed) (cpu source : ℕ) → KeepTasks homes m deeds → WereRefused homes m deeds cpu source →
    RefusesTwo (machine_after homes m deeds) cpu source

-- so each task of the source has at least `(n + 1) / 2n` of its ideal share at the end
abbrev pub HalfAfterLastPull : Type 0
HalfAfterLastPull =
    (homes : List ℕ) (m : Machine) (deeds : List Deed) (rate parts cpu source task : ℕ) (e : Entry) → KeepTasks homes m deeds →
    WereRefused homes m deeds cpu source → IsIdealRate (machine_after homes m deeds) rate parts →
    get (queue_at (machine_after homes m deeds) source).runnable task ≡ Some e →
    HasOfIdeal (length (machine_after homes m deeds) + 1) (2 * length (machine_after homes m deeds))
    (load_at (machine_after homes m deeds) source) rate parts e
