use Rattle.std.proofs.Common.{codes, refl, sym, ap, ◌∙◌, Ok, rules}
use Rattle.toml.specs.View.{table_view}
use Rattle.eevdf_workload.specs.Versions.{limits_of}
use Rattle.eevdf_workload.proofs.ReadingByFronts.{tasks_left}
use Rattle.eevdf_workload.proofs.ReadingWorkloads.{same_fault, tasks_fault, programs_fault, order_fault, script_fault, setup_fault, deed_fault, whole}
use Rattle.eevdf_workload.proofs.reading.by_front.workload_beside.Goals as goal

pub returns-in_err-tasks : goal.returns-in_err-tasks
returns-in_err-tasks c values document holds has =
    let limits = limits_of c.args.version in
    let left = table_view c.args.document in
    let no_tasks = holds.others (codes "task") refl refl refl refl in
    let same = tasks_left limits left document (values (codes "task")) no_tasks (has (codes "task")) in
    let fault = tasks_fault limits document _ (same_fault _ _ _ same (rw c.limits-limits.ensures at c.in_err-tasks.ensures)) in
    search rules

pub returns-in_err-programs : goal.returns-in_err-programs
returns-in_err-programs c values document holds has =
    let limits = limits_of c.args.version in
    let left = table_view c.args.document in
    let no_tasks = holds.others (codes "task") refl refl refl refl in
    let specs = tasks_left limits left document (values (codes "task")) no_tasks (has (codes "task")) ∙ (rw c.limits-limits.ensures at c.in_ok-tasks.ensures) in
    let programs = rw c.limits-limits.ensures at c.in_err-programs.ensures in
    let fault = programs_fault limits document _ specs _ (programs (values (codes "program")) document holds.programs_is (has (codes "program"))) in
    search rules

pub returns-in_err-order : goal.returns-in_err-order
returns-in_err-order c values document holds has =
    let limits = limits_of c.args.version in
    let left = table_view c.args.document in
    let no_tasks = holds.others (codes "task") refl refl refl refl in
    let specs = tasks_left limits left document (values (codes "task")) no_tasks (has (codes "task")) ∙ (rw c.limits-limits.ensures at c.in_ok-tasks.ensures) in
    let programs = rw c.limits-limits.ensures at c.in_ok-programs.ensures in
    let fault = order_fault limits document _ specs _ (programs (values (codes "program")) document holds.programs_is (has (codes "program"))) _
    (c.in_err-order.ensures (values (codes "order")) document holds.order_is (has (codes "order"))) in
    search rules

pub returns-in_err-script : goal.returns-in_err-script
returns-in_err-script c values document holds has =
    let limits = limits_of c.args.version in
    let left = table_view c.args.document in
    let no_tasks = holds.others (codes "task") refl refl refl refl in
    let specs = tasks_left limits left document (values (codes "task")) no_tasks (has (codes "task")) ∙ (rw c.limits-limits.ensures at c.in_ok-tasks.ensures) in
    let programs = rw c.limits-limits.ensures at c.in_ok-programs.ensures in
    let script = rw c.limits-limits.ensures at c.in_err-script.ensures in
    let fault = script_fault limits document _ specs _ (programs (values (codes "program")) document holds.programs_is (has (codes "program"))) _
    (c.in_ok-order.ensures (values (codes "order")) document holds.order_is (has (codes "order"))) _ (script (values (codes "script")) document holds.script_is (has (codes "script"))) in
    search rules

pub returns-in_err-setup : goal.returns-in_err-setup
returns-in_err-setup c values document holds has =
    let limits = limits_of c.args.version in
    let left = table_view c.args.document in
    let no_tasks = holds.others (codes "task") refl refl refl refl in
    let specs = tasks_left limits left document (values (codes "task")) no_tasks (has (codes "task")) ∙ (rw c.limits-limits.ensures at c.in_ok-tasks.ensures) in
    let programs = rw c.limits-limits.ensures at c.in_ok-programs.ensures in
    let script = rw c.limits-limits.ensures at c.in_ok-script.ensures in
    let setup = rw (c.deref.ensures.value, c.deref-2.ensures.value, c.limits-limits.ensures) at c.in_err-setup.ensures in
    let fault = setup_fault limits document _ specs _ (programs (values (codes "program")) document holds.programs_is (has (codes "program"))) _
    (c.in_ok-order.ensures (values (codes "order")) document holds.order_is (has (codes "order"))) _ (script (values (codes "script")) document holds.script_is (has (codes "script"))) _ setup in
    search rules

pub returns-in_err-check_script : goal.returns-in_err-check_script
returns-in_err-check_script c values document holds has =
    let limits = limits_of c.args.version in
    let left = table_view c.args.document in
    let no_tasks = holds.others (codes "task") refl refl refl refl in
    let specs = tasks_left limits left document (values (codes "task")) no_tasks (has (codes "task")) ∙ (rw c.limits-limits.ensures at c.in_ok-tasks.ensures) in
    let programs = rw c.limits-limits.ensures at c.in_ok-programs.ensures in
    let script = rw c.limits-limits.ensures at c.in_ok-script.ensures in
    let setup = rw (c.deref.ensures.value, c.deref-2.ensures.value, c.limits-limits.ensures) at c.in_ok-setup.ensures in
    let fault = deed_fault limits document _ specs _ (programs (values (codes "program")) document holds.programs_is (has (codes "program"))) _
    (c.in_ok-order.ensures (values (codes "order")) document holds.order_is (has (codes "order"))) _ (script (values (codes "script")) document holds.script_is (has (codes "script"))) _ setup _ (sym c.check_script.ensures ∙ c.in_err-check_script.was) in
    search rules

pub new-requires : goal.new-requires
new-requires c = sym c.check_script.ensures ∙ c.in_ok-check_script.was

pub returns : goal.returns
returns c values document holds has =
    let limits = limits_of c.args.version in
    let left = table_view c.args.document in
    let no_tasks = holds.others (codes "task") refl refl refl refl in
    let specs = rw c.limits-limits.ensures at c.in_ok-tasks.ensures in
    let programs = rw c.limits-limits.ensures at c.in_ok-programs.ensures in
    let script = rw c.limits-limits.ensures at c.in_ok-script.ensures in
    let setup = rw (c.deref.ensures.value, c.deref-2.ensures.value, c.limits-limits.ensures) at c.in_ok-setup.ensures in
    whole limits document _ (tasks_left limits left document (values (codes "task")) no_tasks (has (codes "task")) ∙ specs) _ (programs (values (codes "program")) document holds.programs_is (has (codes "program"))) _ _ _
    (c.in_ok-order.ensures (values (codes "order")) document holds.order_is (has (codes "order"))) (script (values (codes "script")) document holds.script_is (has (codes "script"))) setup (sym c.check_script.ensures ∙ c.in_ok-check_script.was)
    ∙ ap Ok (sym c.new.ensures)
