use Rattle.std.proofs.Common.{◌≡◌, true, Some, rules}
use Rattle.std.specs.Char.{is_ascii_digit}
use Rattle.toml_parser.specs.Lexical.{first}
use Rattle.eevdf_workload.specs.MeaningSteps.{natural}
use Rattle.eevdf_workload.proofs.ReadingPlainValues.{found_by, natural_is, number_read}
use Rattle.eevdf_workload.proofs.reading.plain_values.number_at.Goals as goal

pub returns-clause-value : goal.returns-clause-value
returns-clause-value c depth =
    let text = c.args.text.now in
    let read = found_by _ _ _ _ _ c.unquoted.ensures.value c.in_ok-integer.ensures.value c.in-Some-Integer-default.is in
    let digit : is_ascii_digit (first text) ≡ true = search rules in
    let number : natural c.in-Some-Integer-default.integer ≡ Some c.in-Some.number = search rules in
    let whole = number_read depth text c.in-Some-Integer-default.after.now c.in-Some-Integer-default.integer digit (rw c.in-Some-Integer-default.field-0-0-is at read) in
    rw (natural_is c.in-Some-Integer-default.integer c.in-Some.number number) at whole
