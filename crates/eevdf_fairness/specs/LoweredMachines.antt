-- A machine, and the same machine with the virtual times of each CPU lower by a number.
use Rattle.std.specs.Prelude.{◌≡◌, ℕ, ℤ, pos, ◌+ℤ◌, ◌-ℤ◌, ◌==◌, Bool, true, false, not, List, [], ◌∷◌, length, map, if◌then◌else◌}
use Rattle.std.specs.List.{filter}
use Rattle.eevdf_queue.specs.LoweredQueues.{IsLower}
use Rattle.eevdf_ops.specs.{declared.deeds.Deed.Deed, declared.deeds.Answer.Answer, declared.deeds.Line.Line}
use Rattle.eevdf_ops.specs.{declared.deeds.Deed.TheVariants.Rebase, declared.deeds.Answer.TheVariants.Range, declared.deeds.Answer.TheVariants.Rebased}
use Rattle.eevdf_ops.specs.{Machine.Machine, Machine.queue_at, Programs.deeds_of, Whole.whole, Whole.lines_of, Whole.machine_after}
use Rattle.eevdf_ops.specs.Histories.{AreHistory, machine_told}

-- the machine `n` is the machine `m`, the queue of each CPU lower by a number of its own
pub record IsLowerMachine (by : ℕ → ℤ) (m n : Machine) : Type 0 where
  pub cpus : length n ≡ length m
  pub queues : (cpu : ℕ) → IsLower (by cpu) (queue_at m cpu) (queue_at n cpu)

-- whether something would have been out of range
abbrev pub is_range : Answer → Bool
is_range Range = true
is_range answer = false

-- a deed on two machines: where it is out of range on both or on neither, it is answered alike, and leaves them lower as before
abbrev pub AreAlike : (ℕ → ℤ) → Answer × Machine → Answer × Machine → Type 0
AreAlike by x y = is_range x.0 ≡ is_range y.0 → (x.0 ≡ y.0) × IsLowerMachine by x.1 y.1

abbrev pub is_rebase : Deed → Bool
is_rebase (Rebase cpu) = true
is_rebase deed = false

-- a machine and the same machine, lower at each CPU by a number, do each deed alike but for a rebase
abbrev pub LoweredMachineAnswersAlike : Type 0
LoweredMachineAnswersAlike =
    (homes : List ℕ) (by : ℕ → ℤ) (m n : Machine) (deed : Deed) → is_rebase deed ≡ false → IsLowerMachine by m n
    → AreAlike by (whole homes deed m) (whole homes deed n)

-- deeds without the rebases, and lines without those of rebases
abbrev pub without_rebases : List Deed → List Deed
without_rebases deeds = filter (λ (d : Deed). not (is_rebase d)) deeds

abbrev pub lines_without_rebases : List Line → List Line
lines_without_rebases lines = filter (λ (l : Line). not (is_rebase l.deed)) lines

-- which of the other deeds were out of range, in order
abbrev pub ranges_in : List Line → List Bool
ranges_in lines = map (λ (l : Line). is_range l.answer) (lines_without_rebases lines)

-- the same ones in two histories
abbrev pub AreOutTogether : List Line → List Line → Type 0
AreOutTogether first second = ranges_in first ≡ ranges_in second

-- the number by which a deed has lowered the queue of a CPU, by its answer
abbrev pub number_at : ℕ → Deed → Answer → ℤ
number_at cpu (Rebase at) (Rebased by) = if at == cpu then by else pos 0
number_at cpu deed answer = pos 0

-- and all rebases of lines together
abbrev pub lowered_at : ℕ → List Line → ℤ
lowered_at cpu [] = pos 0
lowered_at cpu (line ∷ lines) = number_at cpu line.deed line.answer +ℤ lowered_at cpu lines

-- two histories have the same lines but for rebases, and leave two machines of which the second is lower by the numbers by which
-- it was before, more by those that its own rebases were answered, and less by those of the first
pub record AreAlikeButForRebases (by : ℕ → ℤ) (first second : List Line) (m n : Machine) : Type 0 where
  pub lines : lines_without_rebases first ≡ lines_without_rebases second
  pub machines : IsLowerMachine (λ (cpu : ℕ). (by cpu +ℤ lowered_at cpu second) -ℤ lowered_at cpu first) m n

-- so it is of deeds that are the same but for rebases, wherever these stand, where none is out of range in one of the histories alone
abbrev pub RebasesChangeNoAnswer : Type 0
RebasesChangeNoAnswer =
    (homes : List ℕ) (by : ℕ → ℤ) (m n : Machine) (deeds others : List Deed) → IsLowerMachine by m n → without_rebases deeds ≡ without_rebases others
    → AreOutTogether (lines_of homes m deeds) (lines_of homes n others)
    → AreAlikeButForRebases by (lines_of homes m deeds) (lines_of homes n others) (machine_after homes m deeds) (machine_after homes n others)

-- so rebases can be left out: the other lines are the history of the other deeds, and each queue is lower than without them by what the
-- rebases of its CPU were answered
pub record AreAlikeWithout (homes : List ℕ) (m : Machine) (deeds : List Deed) : Type 0 where
  pub lines : lines_without_rebases (lines_of homes m deeds) ≡ lines_of homes m (without_rebases deeds)
  pub machines : IsLowerMachine (λ (cpu : ℕ). lowered_at cpu (lines_of homes m deeds)) (machine_after homes m (without_rebases deeds)) (machine_after homes m deeds)

abbrev pub RebasesCanBeLeftOut : Type 0
RebasesCanBeLeftOut =
    (homes : List ℕ) (m : Machine) (deeds : List Deed) → AreOutTogether (lines_of homes m deeds) (lines_of homes m (without_rebases deeds))
    → AreAlikeWithout homes m deeds

-- and of two histories that were recorded from one start on
abbrev pub RebasedHistoriesAreAlike : Type 0
RebasedHistoriesAreAlike =
    (homes : List ℕ) (start : Machine) (lines others : List Line) → AreHistory homes start lines → AreHistory homes start others
    → without_rebases (deeds_of lines) ≡ without_rebases (deeds_of others) → AreOutTogether lines others
    → AreAlikeButForRebases (λ (cpu : ℕ). pos 0) lines others (machine_told homes start lines) (machine_told homes start others)
