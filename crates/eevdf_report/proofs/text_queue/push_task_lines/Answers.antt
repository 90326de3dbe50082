use Rattle.std.proofs.Common.{◌≡◌, ℕ, List, ◌++◌, sym, ap, subst, ◌∙◌}
use Rattle.std.specs.List.{flat_map}
use Rattle.std.specs.FinMap as finite
use Rattle.eevdf_queue.specs.declared.entry.Entry.{Entry}
use Rattle.eevdf_report.specs.TextQueue.{runnable_line}
use Rattle.eevdf_report.proofs.FoundEntries.{AreFound, entries_found}
use Rattle.eevdf_report.proofs.text_queue.push_task_lines.Goals as goal

pub loop-task-init : goal.loop-task-init
loop-task-init c =
    let tasks : c.into_iter-task-iterator.result ≡ finite.entries c.args.queue.now.state.runnable =
    c.into_iter-task-iterator.ensures.into_iter_gives ∙ c.runnable_tasks-task-items.ensures in
    record {
      found = subst (AreFound (finite.get c.args.queue.now.state.runnable)) (sym tasks) (entries_found c.args.queue.now.state.runnable);
      text = ap (λ (es : List (ℕ × Entry)). c.args.text.now.items ++ flat_map (runnable_line c.args.queue.now.state) es) tasks;
    }
