use Rattle.eevdf_bench.proofs.OperationsPrinted.{operation_is_text}
use Rattle.eevdf_bench.proofs.reading_laws.operation_is_its_text.Goals as goal

pub returns : goal.returns
returns c = operation_is_text c.args.version c.args.text.now c.args.op c.operation_is_in_range.ensures
