-- How deep the nodes of a tree are.
use Rattle.std.specs.Prelude.{ℕ, suc, ◌==◌, List, [], ◌∷◌, if◌then◌else◌}
use Rattle.std.specs.Ordering.{nat_cmp}
use Rattle.std.specs.FinMap as map
use Rattle.eevdf_queue.specs.declared.task.Task.{Task}

-- the depth of the node with the task of this number, and 0 where there is none
abbrev pub depth_at : ℕ → List (ℕ × ℕ) → ℕ
depth_at task [] = 0
depth_at task (p ∷ ps) = if p.0 == task then p.1 else depth_at task ps

-- the nodes of the tasks of a side, each one level further from the root than in that side
abbrev pub deeper : List (ℕ × ℕ) → List Task → List (ℕ × ℕ)
deeper side [] = []
deeper side (t ∷ ts) = (t.number, suc (depth_at t.number side)) ∷ deeper side ts

-- the depths by number
abbrev pub depths_by_number : List (ℕ × ℕ) → map.FinMap nat_cmp ℕ
depths_by_number depths = map.from_entries depths
