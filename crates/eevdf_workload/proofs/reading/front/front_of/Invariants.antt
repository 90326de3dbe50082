use Rattle.std.proofs.Common.{length}
use denote.Text.{Utf8}
use denote.Shadow.{shadow}
use Rattle.std.proofs.Common.{ℕ, List, Option}
use Rattle.toml.specs.Data.{Data}
use Rattle.eevdf_workload.specs.Fronts.{Holds}
use Rattle.eevdf_workload.proofs.ReadingFronts.{IsReadUpTo}
use Rattle.eevdf_workload.proofs.reading.front.front_of.Given as goal

abbrev pub invariant-members : goal.invariant-members
invariant-members l = shadow (Utf8 l.front.left.now) × (values : List ℕ → Option Data) × Holds values l.front.version l.front.order l.front.programs l.front.script × IsReadUpTo values l.text l.front.left.now

abbrev pub decreases-members : goal.decreases-members
decreases-members l = length l.front.left.now
