use Rattle.std.proofs.Common.{◌<◌, length}
use denote.Text.{Utf8}
use denote.Shadow.{shadow}
use Rattle.eevdf_workload.proofs.ReadingPlainArrays.{AreReadSoFar}
use Rattle.eevdf_workload.proofs.reading.plain_arrays.array_at.Given as goal

abbrev pub invariant-elements : goal.invariant-elements
invariant-elements g l = shadow (Utf8 l.left) × (length l.left < length l.text) × AreReadSoFar (g.E.Element.depth l.element) (g.E.Element.reads l.element) l.text l.values.items l.left

abbrev pub decreases-elements : goal.decreases-elements
decreases-elements g l = length l.left
