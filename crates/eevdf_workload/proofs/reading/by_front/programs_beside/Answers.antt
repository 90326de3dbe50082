use Rattle.toml.specs.View.{table_view}
use Rattle.eevdf_workload.specs.Fronts.{programs_in}
use Rattle.eevdf_workload.proofs.ReadingByFronts.{programs_behind, programs_found}
use Rattle.eevdf_workload.proofs.reading.by_front.programs_beside.Goals as goal

pub returns-in-Some : goal.returns-in-Some
returns-in-Some c d whole is at = programs_found c.args.limits (programs_in c.in-Some.programs) d _ whole (rw c.in-Some.is at is) at

pub returns-in-None : goal.returns-in-None
returns-in-None c = rw c.in-None.is (programs_behind c.args.limits (table_view c.args.document.now) c.programs.result c.programs.ensures)
