use Rattle.eevdf_workload.proofs.VersionMeanings as versions
use Rattle.eevdf_workload.proofs.laws.version_four_keeps_meaning.Goals as goal

pub returns : goal.returns
returns c = versions.version_four_keeps_meaning
