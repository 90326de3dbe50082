use Rattle.std.proofs.Common.{◌≡◌, ◌∙◌, Option, Some, None, ap}
use Rattle.std.specs.Option.{option_map}
use Rattle.eevdf_queue.specs.{declared.task.Task.Task, Pick.is_eligible_at, TreeShape.Tree, TreeShape.tasks_in, TreeTasks.first_that}
use Rattle.eevdf_queue.proofs.TreeSorted.{earliest_found}
use Rattle.eevdf_queue.proofs.tree.task_tree.TaskTree.earliest.Goals as goal

-- the number of what is found
number_of : {X : Type 0} (read : X → Task) (o : Option X) (p : Option Task) → option_map read o ≡ p → option_map (λ x. (read x).number) o ≡ option_map (λ (t : Task). t.number) p
number_of read None p h = ap (option_map (λ (t : Task). t.number)) h
number_of read (Some x) p h = ap (option_map (λ (t : Task). t.number)) h

pub returns-clause-number : goal.returns-clause-number
returns-clause-number c =
    number_of (λ f. f.task.now) c.first_eligible.result (first_that (is_eligible_at c.args.totals.now.weight c.args.totals.now.moment) (tasks_in c.self.inside.root)) c.first_eligible.ensures.task
    ∙ earliest_found (is_eligible_at c.args.totals.now.weight c.args.totals.now.moment) (tasks_in c.self.inside.root) c.args.self.now.tasks (ap (λ (w : Tree). w.tasks) c.self.view_is) c.self.invariant.sorted
