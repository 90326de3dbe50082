use Rattle.std.proofs.Common.{◌≡◌, ◌∙◌, Some, sym, string_bytes}
use Rattle.toml.specs.Data.{string}
use Rattle.eevdf_workload.specs.Words.{operation, words}
use Rattle.eevdf_workload.proofs.ReadingPlainLists.{operation_read}
use Rattle.eevdf_workload.proofs.reading.plain_lists.OperationsElement.read.Goals as goal

pub returns-clause-value : goal.returns-clause-value
returns-clause-value c =
    let s = string_bytes c.in-Some.string in
    let limits = c.args.self.now.limits in
    let read = rw c.in-Some.is at c.in_ok-string.ensures.value in
    let is : operation limits (words s) ≡ Some c.in-Some-operation.op = rw c.as_str.ensures.value at (sym c.operation.ensures ∙ c.in-Some-operation.is) in
    (string s, read 78, operation_read limits s c.in-Some-operation.op is)
