-- A table with a slot for each number, where the sleeping tasks stand.
use Rattle.std.specs.Prelude.{◌≡◌, ℕ, suc, ℤ, ◌<◌, ◌==◌, if◌then◌else◌, List, [], ◌∷◌, Option, Some, None, Box, slice_index_or}
use Rattle.std.specs.Ordering.{nat_cmp}
use Rattle.std.specs.FinMap as map
use Rattle.eevdf_queue.specs.{declared.task.Task.Task, State.Sleeper, State.TasksAsleep, TreeShape.Tree, NodePlaces.place_in}
use Rattle.eevdf_queue.specs.{TaskLists.first_task, TaskLists.sleeper_in, TaskLists.IsLone, Numbers.number_limit}

-- what is kept of the task of a lone node
abbrev pub sleeper_of_node : Tree → Sleeper
sleeper_of_node a = sleeper_in (first_task a.tasks)

-- and its place, where it dozes
abbrev pub place_of_node : Tree → Option ℤ
place_of_node a = place_in (first_task a.tasks)

-- what is read of the node in a slot, if anything
abbrev pub read_slot : {Z V : Type 0} → (Tree → Option V) → Option (Box Tree Z) → Option V
read_slot read None = None
read_slot read (Some b) = read b.value

abbrev pub with_found : {V : Type 0} → ℕ → Option V → List (ℕ × V) → List (ℕ × V)
with_found n None found = found
with_found n (Some a) found = (n, a) ∷ found

-- what is read of the slots from a number on
abbrev pub read_from : {Z V : Type 0} → (Tree → Option V) → ℕ → List (Option (Box Tree Z)) → List (ℕ × V)
read_from read n [] = []
read_from read n (s ∷ ss) = with_found n (read_slot read s) (read_from read (suc n) ss)

-- the map from the places of the slots to what is read of the nodes in them
unfoldable pub found_in : {Z V : Type 0} → (Tree → Option V) → List (Option (Box Tree Z)) → map.FinMap nat_cmp V
found_in read ss = map.from_entries (read_from read 0 ss)

abbrev pub tasks_asleep_in : {Z : Type 0} → List (Option (Box Tree Z)) → TasksAsleep
tasks_asleep_in ss = record { tasks = found_in (λ a. Some (sleeper_of_node a)) ss; places = found_in place_of_node ss }

abbrev pub slot_at : {Z : Type 0} → List (Option (Box Tree Z)) → ℕ → Option (Box Tree Z)
slot_at ss q = slice_index_or ss q None

-- the lone task of a number
pub record IsLoneOf (q : ℕ) (ts : List Task) : Type 0 where
  pub lone : IsLone ts
  pub number : (first_task ts).number ≡ q
  pub below : q < number_limit

-- a slot is empty, or has the lone task of its number
abbrev pub IsSlot : {Z : Type 0} → ℕ → Option (Box Tree Z) → Type 0
IsSlot q None = Unit {0}
IsSlot q (Some b) = IsLoneOf q b.value.tasks

abbrev pub AreSlots : {Z : Type 0} → List (Option (Box Tree Z)) → Type 0
AreSlots ss = (q : ℕ) → IsSlot q (slot_at ss q)

-- the same slots but for one
abbrev pub IsWith : {Z : Type 0} → ℕ → Option (Box Tree Z) → List (Option (Box Tree Z)) → List (Option (Box Tree Z)) → Type 0
IsWith q slot ss rs = (x : ℕ) → slot_at rs x ≡ (if x == q then slot else slot_at ss x)
