use Rattle.std.proofs.Common.{◌≡◌, ◌∙◌, rules}
use Rattle.std.specs.Str.{IsUtf8}
use Rattle.toml.specs.View.{table_view}
use Rattle.eevdf_workload.proofs.ReadingByFronts.{read_by_front}
use Rattle.eevdf_workload.proofs.ReadingWorkloads.{same_fault}
use Rattle.eevdf_workload.proofs.reading.by_front.workload_by_front.Goals as goal

pub returns-in-Ok-workload_beside-clause-value : goal.returns-in-Ok-workload_beside-clause-value
returns-in-Ok-workload_beside-clause-value c =
    let bytes = c.args.bytes.now in
    let text = c.in-Ok.text.now in
    let front = c.in-Some.front in
    let version = c.in-Some-version.version in
    let document = table_view c.in-Some-2.document in
    let same : text ≡ bytes = search rules in
    let utf8 : IsUtf8 bytes = search rules in
    let (values, holds, begins) = rw (c.in-Some-version.is, same) at (rw c.in-Some.is at c.in_ok-front.ensures.value) in
    let parsed = rw c.in-Some-2.is at c.in_ok-document.ensures.value in
    let no_version = rw c.in-Some-2.is at c.in_ok-document.ensures.version in
    let no_order = rw c.in-Some-2.is at c.in_ok-document.ensures.order in
    let no_programs = rw c.in-Some-2.is at c.in_ok-document.ensures.programs in
    let no_script = rw c.in-Some-2.is at c.in_ok-document.ensures.script in
    let (whole, has, is) = read_by_front values bytes front.left.now version front.order front.programs front.script document utf8 holds begins parsed no_version no_order no_programs no_script in
    is ∙ c.in-Ok-workload_beside.ensures values whole holds has

pub returns-in-Err-clause-fault : goal.returns-in-Err-clause-fault
returns-in-Err-clause-fault c =
    let bytes = c.args.bytes.now in
    let text = c.in-Ok.text.now in
    let front = c.in-Some.front in
    let version = c.in-Some-version.version in
    let document = table_view c.in-Some-2.document in
    let same : text ≡ bytes = search rules in
    let utf8 : IsUtf8 bytes = search rules in
    let (values, holds, begins) = rw (c.in-Some-version.is, same) at (rw c.in-Some.is at c.in_ok-front.ensures.value) in
    let parsed = rw c.in-Some-2.is at c.in_ok-document.ensures.value in
    let no_version = rw c.in-Some-2.is at c.in_ok-document.ensures.version in
    let no_order = rw c.in-Some-2.is at c.in_ok-document.ensures.order in
    let no_programs = rw c.in-Some-2.is at c.in_ok-document.ensures.programs in
    let no_script = rw c.in-Some-2.is at c.in_ok-document.ensures.script in
    let (whole, has, is) = read_by_front values bytes front.left.now version front.order front.programs front.script document utf8 holds begins parsed no_version no_order no_programs no_script in
    same_fault _ _ _ is (c.in-Err.ensures values whole holds has)
