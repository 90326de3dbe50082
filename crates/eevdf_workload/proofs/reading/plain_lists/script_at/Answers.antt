use Rattle.std.proofs.Common.{◌≤◌, length, arith}
use Rattle.std.proofs.lemmas.Grind.{common_steps}
use Rattle.toml.specs.Data.{array}
use Rattle.eevdf_workload.proofs.ReadingPlainLists.{script_read}
use Rattle.eevdf_workload.proofs.reading.plain_lists.script_at.Goals as goal

pub returns-in-Some-clause-value : goal.returns-in-Some-clause-value
returns-in-Some-clause-value c =
    let (found, value, are) = rw c.in-Some.is at c.in_ok-after.ensures.value in
    let fits : length c.in-Some.script.items ≤ c.args.limits.deeds = grind (arith, common_steps) in
    (array found, value, script_read c.args.limits found c.in-Some.script.items are fits)
