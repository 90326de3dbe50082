-- The least virtual runtime of some tasks.
use Rattle.std.specs.Prelude.{ℤ, pos, ◌≤ℤ◌, List, [], ◌∷◌}
use Rattle.std.specs.{Int.int_min, List.AllByRecursion}
use Rattle.eevdf_queue.specs.{declared.task.Task.Task, declared.tree.least.Least.Least}

-- the least virtual runtime; of no task the greatest number of 64 bits
abbrev pub least_runtime : List Task → ℤ
least_runtime [] = pos 0x7fff_ffff_ffff_ffff
least_runtime (t ∷ ts) = int_min t.entry.v (least_runtime ts)

abbrev pub least_of : List Task → Least
least_of ts = record { runtime = least_runtime ts }

-- the lesser of two
abbrev pub lesser : Least → Least → Least
lesser a b = record { runtime = int_min a.runtime b.runtime }

-- no virtual runtime is above the greatest number of 64 bits
abbrev pub AreLow : List Task → Type 0
AreLow = AllByRecursion (λ t. t.entry.v ≤ℤ pos 0x7fff_ffff_ffff_ffff)
