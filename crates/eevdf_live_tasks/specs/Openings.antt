-- Which numbers tasks have from the beginning.
use Rattle.std.specs.Prelude.{◌≡◌, ◌≢◌, ◌<◌, ℕ, List, length, slice_index_or}
use Rattle.eevdf_ops.specs.Setup.{Setup, home_of, homes_of}
use Rattle.eevdf_free_tasks.specs.Parts.{Part}
use Rattle.eevdf_free_tasks.specs.Slots.{slot_of, with_taken}
use Rattle.eevdf_free_tasks.specs.declared.slot.Slot.{Slot}
use Rattle.eevdf_free_tasks.specs.declared.slot.Slot.TheVariants.{Elsewhere, Free, Begun, Taken}

-- of the first so many numbers, those that have begun at this CPU are taken from its part, and nothing else changes
pub record IsKept (s : Setup) (numbers cpu : ℕ) (before after : Part) : Type 0 where
  pub part : after ≡ record before { own = after.own }
  pub taken : (task : ℕ) → task < numbers → home_of (homes_of s) task ≡ cpu → slot_of before.own task ≡ Begun → slot_of after.own task ≡ Taken
  pub others : (task : ℕ) → (task < numbers → home_of (homes_of s) task ≡ cpu → slot_of before.own task ≢ Begun) → slot_of after.own task ≡ slot_of before.own task

-- the same of each CPU's part
pub record AreKept (s : Setup) (numbers : ℕ) (before after : List Part) : Type 0 where
  pub all : length after ≡ length before
  pub each : (cpu : ℕ) (part : Part) → cpu < length before → slice_index_or before cpu part ≡ part → IsKept s numbers cpu part (slice_index_or after cpu part)

-- the numbers of a home after one was taken that has begun
abbrev pub kept_as : Slot → List Slot → ℕ → List Slot
kept_as Elsewhere slots task = slots
kept_as Free slots task = slots
kept_as Begun slots task = with_taken slots task
kept_as Taken slots task = slots

abbrev pub kept : List Slot → ℕ → List Slot
kept slots task = kept_as (slot_of slots task) slots task

-- a number is taken from the part of its home, if it has begun there
pub record HasKept (home task : ℕ) (before after : List Part) : Type 0 where
  pub all : length after ≡ length before
  pub here : (part : Part) → home < length before → slice_index_or before home part ≡ part → slice_index_or after home part ≡ record part { own = kept part.own task }
  pub apart : (cpu : ℕ) (part : Part) → cpu ≢ home → slice_index_or after cpu part ≡ slice_index_or before cpu part
