use Rattle.std.proofs.Common.{sym, ap, ◌∙◌, Ok, rules}
use Rattle.toml.specs.View.{table_view}
use Rattle.eevdf_workload.proofs.ReadingWorkloads.{tasks_fault, order_fault, whole}
use Rattle.eevdf_workload.proofs.reading.workload_in.Goals as goal

pub returns-in_err-tasks : goal.returns-in_err-tasks
returns-in_err-tasks c =
    let fault = tasks_fault c.args.limits (table_view c.args.document) _ c.in_err-tasks.ensures in
    search rules

pub returns-in_err-order : goal.returns-in_err-order
returns-in_err-order c =
    let fault = order_fault c.args.limits (table_view c.args.document) _ c.in_ok-tasks.ensures _ c.in_ok-programs.ensures _ c.in_err-order.ensures in
    search rules

pub new-requires : goal.new-requires
new-requires c = sym c.check_script.ensures ∙ c.in_ok-check_script.was

pub returns : goal.returns
returns c =
    let setup = rw (c.deref.ensures.value, c.deref-2.ensures.value) at c.in_ok-setup.ensures in
    whole c.args.limits (table_view c.args.document) _ c.in_ok-tasks.ensures _ c.in_ok-programs.ensures _ _ _ c.in_ok-order.ensures c.in_ok-script.ensures setup (sym c.check_script.ensures ∙ c.in_ok-check_script.was)
    ∙ ap Ok (sym c.new.ensures)
