use Rattle.std.proofs.Common.{ap, ◌∙◌}
use Rattle.std.specs.Prelude.{option_map}
use Rattle.toml.specs.View.{view}
use Rattle.toml.proofs.Views.{view-lookup}
use Rattle.eevdf_workload.proofs.reading.document_keys.into_member.Goals as goal

pub returns : goal.returns
returns c = ap (option_map view) c.remove.ensures.value ∙ view-lookup c.args.name.now c.args.table.entries
