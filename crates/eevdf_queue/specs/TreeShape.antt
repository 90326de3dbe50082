-- A tree of boxed nodes, seen as its tasks in order, its height and the depths of its nodes.
use Rattle.std.specs.Prelude.{◌≡◌, ℕ, suc, ◌+◌, ◌/◌, ◌^◌, ◌≤◌, max, List, [], ◌∷◌, Option, Some, None, Box}
use Rattle.eevdf_queue.specs.{declared.task.Task.Task, TaskLists.first_task}

pub record Tree : Type 0 where
  pub tasks : List Task
  pub height : ℕ
  -- for each task in order its number, and how deep its node is: the root's depth is 1
  pub depths : List (ℕ × ℕ)

abbrev pub empty_tree : Tree
empty_tree = record { tasks = []; height = 0; depths = [] }

-- the tasks below a link, in order
abbrev pub tasks_in : {Z : Type 0} → Option (Box Tree Z) → List Task
tasks_in None = []
tasks_in (Some b) = b.value.tasks

abbrev pub height_in : {Z : Type 0} → Option (Box Tree Z) → ℕ
height_in None = 0
height_in (Some b) = b.value.height

abbrev pub depths_in : {Z : Type 0} → Option (Box Tree Z) → List (ℕ × ℕ)
depths_in None = []
depths_in (Some b) = b.value.depths

-- neither height is more than this above the other
abbrev pub DifferByAtMost : ℕ → ℕ → ℕ → Type 0
DifferByAtMost by m n = (m ≤ n + by) × (n ≤ m + by)

-- a tree so high has at least so many tasks
abbrev pub IsFull : ℕ → ℕ → Type 0
IsFull height count = 2 ^ (height / 2) ≤ suc count

-- one task
abbrev pub IsAlone : Tree → Type 0
IsAlone a = a.tasks ≡ first_task a.tasks ∷ []

-- the height of a balanced tree made of sides of these heights
abbrev pub IsHeightOfBalanced : ℕ → ℕ → ℕ → Type 0
IsHeightOfBalanced m n h = (max m n ≤ h) × (h ≤ suc (max m n)) × (DifferByAtMost 1 m n → h ≡ suc (max m n))

-- the tree below a link
abbrev pub tree_in : {Z : Type 0} → Option (Box Tree Z) → Tree
tree_in link = record { tasks = tasks_in link; height = height_in link; depths = depths_in link }
