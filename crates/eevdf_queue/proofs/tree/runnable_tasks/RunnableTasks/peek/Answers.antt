use Rattle.std.proofs.Common.{◌≡◌, ◌∙◌, ℕ, Option, Some, subst}
use Rattle.std.specs.Prelude.{IfSome, IsNone, ◌↔◌}
use Rattle.std.specs.{Option.option_map, FinMap.empty}
use Rattle.eevdf_queue.specs.{declared.tree.node.Found.Found, Pick.IsPick, Pick.pick_of}
use Rattle.eevdf_queue.proofs.Picked.{picked, none_picked, first_is_pick}
use Rattle.eevdf_queue.proofs.tree.runnable_tasks.RunnableTasks.peek.Goals as goal
use Rattle.eevdf_queue.proofs.tree.runnable_tasks.RunnableTasks.peek.Goals.{After-first}

abbrev number_of : Found → ℕ
number_of f = f.task.now.number

-- what is found first is the pick
is_pick : (c : After-first) → option_map number_of c.first.result ≡ pick_of c.args.self.now.tasks
is_pick c =
    first_is_pick c.args.self.now.tasks (option_map number_of c.first.result) c.of.result.weight c.of.result.moment (c.of.ensures.weight ∙ c.totals.ensures.weight) (c.of.ensures.moment ∙ c.totals.ensures.moment) c.first.ensures.number

pub returns-in-Some-clause-none : goal.returns-in-Some-clause-none
returns-in-Some-clause-none c = none_picked c.args.self.now.tasks (Some c.in-Some.known.task) c.in-Some.ensures.number

pub returns-in_default-first-clause-none : goal.returns-in_default-first-clause-none
returns-in_default-first-clause-none c =
    subst (λ (o : Option Found). IsNone (option_map number_of o) ↔ (c.args.self.now.tasks ≡ empty)) c.in_default-first.is
    (none_picked c.args.self.now.tasks (option_map number_of c.first.result) (is_pick (goal.at.returns-in_default-first-clause-none c).After-first))

pub returns-clause-picked : goal.returns-clause-picked
returns-clause-picked c =
    subst (λ (o : Option Found). IfSome (option_map number_of o) (IsPick c.args.self.now.tasks)) c.in-Some-first.is
    (picked c.args.self.now.tasks (option_map number_of c.first.result) (is_pick (goal.at.returns-clause-picked c).After-first))

pub returns-clause-none : goal.returns-clause-none
returns-clause-none c =
    subst (λ (o : Option Found). IsNone (option_map number_of o) ↔ (c.args.self.now.tasks ≡ empty)) c.in-Some-first.is
    (none_picked c.args.self.now.tasks (option_map number_of c.first.result) (is_pick (goal.at.returns-clause-none c).After-first))
