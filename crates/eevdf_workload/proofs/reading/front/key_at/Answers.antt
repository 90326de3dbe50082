use Rattle.std.proofs.Common.{◌≡◌, ◌==◌, true, length, arith}
use Rattle.std.proofs.lemmas.Grind.{common_steps}
use Rattle.toml_parser.specs.Lexical.{first}
use Rattle.eevdf_workload.proofs.ReadingPlainValues.{found_by, key_read}
use Rattle.eevdf_workload.proofs.reading.front.key_at.Goals as goal

pub returns-clause-value : goal.returns-clause-value
returns-clause-value c =
    let read = found_by _ _ _ _ _ c.dotted_key.ensures.value c.in_ok-key.ensures.value c.in-Some.is in
    let alone : length c.in-Some.key.path.items ≡ 0 = grind (arith, common_steps) in
    let sign : (first c.in-Some.after.now == 61) ≡ true = grind (arith, common_steps) in
    rw (c.skip_ws.ensures.rest, c.skip.ensures.rest) (key_read c.args.text.now c.in-Some.after.now c.in-Some.key read alone sign)
