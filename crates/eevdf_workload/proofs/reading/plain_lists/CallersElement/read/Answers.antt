use Rattle.std.specs.Prelude.{pos}
use Rattle.toml.specs.Data.{integer}
use Rattle.eevdf_workload.proofs.ReadingPlainLists.{caller_read}
use Rattle.eevdf_workload.proofs.reading.plain_lists.CallersElement.read.Goals as goal

pub returns-clause-value : goal.returns-clause-value
returns-clause-value c =
    let read = rw c.in-Some.is at c.in_ok-caller.ensures.value in
    (integer (pos c.in-Some.caller), read 79, caller_read c.in-Some.caller)
