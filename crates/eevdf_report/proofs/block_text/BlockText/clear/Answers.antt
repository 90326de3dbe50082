use Rattle.std.proofs.Common.{arith}
use Rattle.std.proofs.lemmas.List.{drop_all}
use Rattle.eevdf_report.proofs.block_text.BlockText.clear.Goals as goal

pub returns : goal.returns
returns c = drop_all 3024 c.self.inside.bytes (omega arith)
