use Rattle.std.proofs.Common.{arith}
use Rattle.eevdf_workload.proofs.ReadingWords.{zero_alone, zero_before}
use Rattle.eevdf_workload.proofs.reading.number_text.split_zero.Goals as goal

pub returns-in-empty : goal.returns-in-empty
returns-in-empty c = zero_alone c.args.after.now c.in-empty.len_below

pub returns-in-32 : goal.returns-in-32
returns-in-32 c = zero_before c.args.after.now c.in-32.len_at_least (omega arith)
