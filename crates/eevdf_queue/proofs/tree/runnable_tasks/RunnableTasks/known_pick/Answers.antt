use Rattle.std.proofs.Common.{◌≡◌, Some, ap}
use Rattle.std.specs.Prelude.{is_some, IfSome}
use Rattle.std.specs.FinMap as map
use Rattle.std.proofs.lemmas.Option.{IfSome_then}
use Rattle.eevdf_queue.specs.{Pick.pick_of, TreeShape.IsFull}
use Rattle.eevdf_queue.proofs.{Picked.picked, PickedTasks.still_picked}
use Rattle.eevdf_queue.proofs.tree.runnable_tasks.RunnableTasks.known_pick.Goals as goal
use Rattle.eevdf_queue.proofs.tree.runnable_tasks.RunnableTasks.known_pick.Goals.{After-known_pick}

known : (c : After-known_pick) → IfSome c.known_pick.result (λ q. (Some q.task ≡ pick_of c.args.self.now.tasks) × IsFull q.depth (map.len c.args.self.now.tasks) × (map.get c.args.self.now.depths q.task ≡ Some q.depth))
known c =
    IfSome_then c.known_pick.result c.known_pick.ensures.known
    (λ q h. still_picked c.self.inside.picked c.self.inside.tree c.args.self.now q c.self.invariant.pick c.self.view_is c.self.invariant.store.runnable h)

pub returns-clause-number : goal.returns-clause-number
returns-clause-number c = IfSome_then c.known_pick.result (known (goal.at.returns-clause-number c).After-known_pick) (λ q h. h.0)

pub returns-clause-picked : goal.returns-clause-picked
returns-clause-picked c =
    IfSome_then c.known_pick.result (known (goal.at.returns-clause-picked c).After-known_pick) (λ q h. picked c.args.self.now.tasks (Some q.task) h.0)

pub returns-clause-here : goal.returns-clause-here
returns-clause-here c =
    IfSome_then c.known_pick.result (known (goal.at.returns-clause-here c).After-known_pick) (λ q h. ap is_some (picked c.args.self.now.tasks (Some q.task) h.0).eligible.here)

pub returns-clause-low : goal.returns-clause-low
returns-clause-low c = IfSome_then c.known_pick.result (known (goal.at.returns-clause-low c).After-known_pick) (λ q h. h.1)

pub returns-clause-depth : goal.returns-clause-depth
returns-clause-depth c = IfSome_then c.known_pick.result (known (goal.at.returns-clause-depth c).After-known_pick) (λ q h. h.2)
