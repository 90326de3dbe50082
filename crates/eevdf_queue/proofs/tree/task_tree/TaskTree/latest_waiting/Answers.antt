use Rattle.std.proofs.Common.{◌≡◌, Bor, ℕ, Option, None, Some, ap, ◌∙◌, sym}
use Rattle.std.specs.Option.{option_map}
use Rattle.eevdf_queue.specs.{declared.task.Task.Task, TreeShape.Tree, TreeShape.tasks_in, TreeTasks.last_waiting}
use Rattle.eevdf_queue.proofs.{TreeSorted.latest_found, LastOfAll.last_waits, LastOfAll.none_at_all, LastOfAll.none_found, LastOfAll.other_number, LastOfAll.some_found, LastOfAll.who_runs}
use Rattle.eevdf_queue.proofs.tree.task_tree.TaskTree.latest_waiting.Goals as goal
use Rattle.eevdf_queue.proofs.tree.task_tree.TaskTree.latest_waiting.Goals.{Then-is_running}

pub returns-in_default : goal.returns-in_default
returns-in_default c =
    latest_found (λ (t : Bor Task). t.now) c.args.running (tasks_in c.self.inside.root) c.args.self.now.tasks None (ap (λ (w : Tree). w.tasks) c.self.view_is) c.self.invariant.sorted
    (sym (none_at_all c.args.running (tasks_in c.self.inside.root) (sym c.last_task.ensures ∙ ap (option_map (λ t. t.now)) c.in_default.is)))

-- without the last task's own number, which is that of who runs
behind : (c : Then-is_running) → last_waiting (Some c.in-Some.last.now.number) (tasks_in c.self.inside.root) ≡ last_waiting c.args.running (tasks_in c.self.inside.root)
behind c =
    ap (λ (r : Option ℕ). last_waiting r (tasks_in c.self.inside.root)) (who_runs c.args.running c.in-Some.last.now.number (sym c.is_running.ensures ∙ c.if-is_running.true))

pub returns-then-eq : goal.returns-then-eq
returns-then-eq c =
    latest_found (λ (t : Bor Task). t.now) c.args.running (tasks_in c.self.inside.root) c.args.self.now.tasks None (ap (λ (w : Tree). w.tasks) c.self.view_is) c.self.invariant.sorted
    (none_found c.in-Some.last.now c.last_waiting-found.result.now (last_waiting (Some c.in-Some.last.now.number) (tasks_in c.self.inside.root))
    (other_number c.in-Some.last.now.number (tasks_in c.self.inside.root)) c.last_waiting-found.ensures (sym c.eq.ensures ∙ c.if-eq.true)
    ∙ behind (goal.at.returns-then-eq c).Then-is_running)

pub returns-else-eq : goal.returns-else-eq
returns-else-eq c =
    latest_found (λ (t : Bor Task). t.now) c.args.running (tasks_in c.self.inside.root) c.args.self.now.tasks (Some c.last_waiting-found.result) (ap (λ (w : Tree). w.tasks) c.self.view_is) c.self.invariant.sorted
    (some_found c.in-Some.last.now c.last_waiting-found.result.now (last_waiting (Some c.in-Some.last.now.number) (tasks_in c.self.inside.root))
    c.last_waiting-found.ensures (sym c.eq.ensures ∙ c.if-eq.false)
    ∙ behind (goal.at.returns-else-eq c).Then-is_running)

pub returns-else-is_running : goal.returns-else-is_running
returns-else-is_running c =
    latest_found (λ (t : Bor Task). t.now) c.args.running (tasks_in c.self.inside.root) c.args.self.now.tasks (Some c.in-Some.last) (ap (λ (w : Tree). w.tasks) c.self.view_is) c.self.invariant.sorted
    (sym (last_waits c.args.running c.in-Some.last.now (tasks_in c.self.inside.root) (sym c.last_task.ensures ∙ ap (option_map (λ t. t.now)) c.in-Some.is) (sym c.is_running.ensures ∙ c.if-is_running.false)))
