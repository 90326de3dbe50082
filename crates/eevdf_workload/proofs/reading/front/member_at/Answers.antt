use Rattle.std.proofs.Common.{◌≡◌, ◌∙◌, true, string_bytes, sym, rules}
use Rattle.toml_parser.specs.Lexical.{skip_ws}
use Rattle.toml.specs.Parse.{ends_line}
use Rattle.eevdf_workload.specs.Fronts.{member_key}
use Rattle.eevdf_workload.proofs.ReadingFronts.{line_read}
use Rattle.eevdf_workload.proofs.reading.front.member_at.Goals as goal

pub returns-then-ends_line-clause-value : goal.returns-then-ends_line-clause-value
returns-then-ends_line-clause-value c =
    let key = rw c.in-Some.is at c.in_ok-key.ensures.value in
    let pair = rw c.in-Some.is at c.in_ok-key.ensures.pair in
    let name = rw c.in-Some-2.is at c.in_ok-member.ensures.key in
    let (d, value, is_member) = rw c.in-Some-2.is at c.in_ok-member.ensures.value in
    let named : string_bytes c.in-Some.key ≡ member_key c.in-Some-2.member = sym c.as_str.ensures.value ∙ name in
    let ends : ends_line (skip_ws c.in-Some-2.after.now) ≡ true = search rules in
    (d, line_read c.args.text.now c.in-Some.value.now c.in-Some-2.after.now (member_key c.in-Some-2.member) d pair (rw named at key) value ends, is_member)
