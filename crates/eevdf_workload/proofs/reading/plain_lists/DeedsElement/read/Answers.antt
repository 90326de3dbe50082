use Rattle.std.proofs.Common.{◌≡◌, ◌∙◌, Some, sym, string_bytes}
use Rattle.toml.specs.Data.{string}
use Rattle.eevdf_workload.specs.Words.{deed_in, words}
use Rattle.eevdf_workload.proofs.ReadingPlainLists.{deed_read}
use Rattle.eevdf_workload.proofs.reading.plain_lists.DeedsElement.read.Goals as goal

pub returns-clause-value : goal.returns-clause-value
returns-clause-value c =
    let s = string_bytes c.in-Some.string in
    let limits = c.args.self.now.limits in
    let read = rw c.in-Some.is at c.in_ok-string.ensures.value in
    let is : deed_in limits (words s) ≡ Some c.in-Some-deed.deed = rw c.as_str.ensures.value at (sym c.deed.ensures ∙ c.in-Some-deed.is) in
    (string s, read 79, deed_read limits s c.in-Some-deed.deed is)
