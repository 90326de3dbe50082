-- How the node of a sleeping task keeps its place, in the two numbers of an entry that has no use while the task sleeps.
use Rattle.std.specs.Prelude.{ℕ, ℤ, pos, negsuc, ◌^◌, ◌+ℤ◌, ◌*ℤ◌, Option, Some, None, if◌then◌else◌}
use Rattle.std.specs.Ordering.{int_eq}
use Rattle.eevdf_queue.specs.{declared.task.Task.Task}

-- the deadline that stands for no place: none that a node can have with one
abbrev pub no_place : ℤ
no_place = negsuc 0x7fff_ffff_ffff_ffff

abbrev pub place_unit : ℕ
place_unit = 2 ^ 62

-- the place that a node keeps: its deadline in units, and its virtual runtime above them
abbrev pub place_in : Task → Option ℤ
place_in t = if int_eq t.entry.d no_place then None else Some ((t.entry.d *ℤ pos place_unit) +ℤ t.entry.v)
