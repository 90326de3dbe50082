use Rattle.toml.specs.View.{table_view}
use Rattle.eevdf_workload.proofs.ReadingByFronts.{script_behind, script_found}
use Rattle.eevdf_workload.proofs.reading.by_front.script_beside.Goals as goal

pub returns-in-Some : goal.returns-in-Some
returns-in-Some c d whole is at = script_found c.args.limits c.in-Some.script.items d _ whole (rw c.in-Some.is at is) at

pub returns-in-None : goal.returns-in-None
returns-in-None c = rw c.in-None.is (script_behind c.args.limits (table_view c.args.document.now) c.script.result c.script.ensures)
