use Rattle.std.proofs.Common.{◌≡◌, true, rules}
use Rattle.toml_parser.specs.Strings.{starts_string}
use Rattle.eevdf_workload.proofs.ReadingPlainValues.{found_by, string_read}
use Rattle.eevdf_workload.proofs.reading.plain_values.string_at.Goals as goal

pub returns-clause-value : goal.returns-clause-value
returns-clause-value c depth =
    let read = found_by _ _ _ _ _ c.quoted.ensures.value c.in_ok-string.ensures.value c.in-Some.is in
    let delimited : starts_string c.args.text.now ≡ true = search rules in
    string_read depth c.args.text.now _ _ delimited read
