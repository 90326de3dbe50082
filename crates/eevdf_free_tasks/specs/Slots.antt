-- The numbers of one home, and which of them are free.
use Rattle.std.specs.Prelude.{◌≡◌, ◌≢◌, ◌==◌, ◌+◌, ◌≤◌, ℕ, if◌then◌else◌, List, length, map, slice_index_or, slice_set}
use Rattle.std.specs.List.{sum_by}
use Rattle.eevdf_ops.specs.{Setup.Setup, declared.task_spec.TaskSpec.TaskSpec}
use Rattle.eevdf_free_tasks.specs.declared.slot.Slot.{Slot}
use Rattle.eevdf_free_tasks.specs.declared.slot.Slot.TheVariants.{Elsewhere, Free, Begun, Taken}

-- what is known of a number: a slot stands at its place, and where there is no place it has another home
abbrev pub slot_of : List Slot → ℕ → Slot
slot_of slots task = slice_index_or slots task Elsewhere

-- the same numbers, of which one is taken, or free
abbrev pub with_taken : List Slot → ℕ → List Slot
with_taken slots task = slice_set slots task Taken

abbrev pub with_free : List Slot → ℕ → List Slot
with_free slots task = slice_set slots task Free

-- the numbers of a home after one is given back: it is free where it was taken, and else nothing changes
abbrev pub given_as : Slot → List Slot → ℕ → List Slot
given_as Elsewhere slots task = slots
given_as Free slots task = slots
given_as Begun slots task = slots
given_as Taken slots task = with_free slots task

abbrev pub given_back : List Slot → ℕ → List Slot
given_back slots task = given_as (slot_of slots task) slots task

-- none of the numbers is free
abbrev pub NoneFree : List Slot → Type 0
NoneFree slots = (task : ℕ) → slot_of slots task ≢ Free

-- the numbers of a home, as a machine begins: those of tasks that sleep are free, and the others have begun
abbrev pub first_slot : ℕ → TaskSpec → Slot
first_slot home spec = if spec.home == home then (if spec.asleep then Free else Begun) else Elsewhere

abbrev pub first_slots : ℕ → Setup → List Slot
first_slots home setup = map (first_slot home) setup.tasks

-- 1 for a number that is free, and for one that a task has
abbrev pub free_count : Slot → ℕ
free_count Elsewhere = 0
free_count Free = 1
free_count Begun = 0
free_count Taken = 0

abbrev pub used_count : Slot → ℕ
used_count Elsewhere = 0
used_count Free = 0
used_count Begun = 1
used_count Taken = 1

-- how often a number stands in a list
abbrev pub times : ℕ → List ℕ → ℕ
times task tasks = sum_by (λ t. if t == task then 1 else 0) tasks

-- the numbers that are free stand in a list, each once, which has room for those that tasks have too
pub record AreFree (free : List ℕ) (capacity : ℕ) (slots : List Slot) : Type 0 where
  pub once : (task : ℕ) → times task free ≡ free_count (slot_of slots task)
  pub room : length free + sum_by used_count slots ≤ capacity

-- the same of a list that has a place for each number of the home
pub record AreListed (free : List ℕ) (slots : List Slot) : Type 0 where
  pub once : (task : ℕ) → times task free ≡ free_count (slot_of slots task)
  pub few : length free + sum_by used_count slots ≤ length slots
