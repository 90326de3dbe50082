use Rattle.std.proofs.Common.{◌^◌, ◌<◌, Some, ap, ◌∙◌, arith}
use Rattle.std.specs.FinMap.{len}
use Rattle.eevdf_queue.specs.{Pick.pick_of, State.View}
use Rattle.eevdf_queue.proofs.{Picked.none_picked, SortedEntries.few_entries, TreeHeights.low}
use Rattle.eevdf_queue.proofs.queue.Queue.pick.Goals as goal

pub run-requires-clause-few : goal.run-requires-clause-few
run-requires-clause-few c =
    let is_low : c.in-Some.known.depth < 2 ^ 16 = low c.in-Some.known.depth (len c.self.inside.runnable.tasks) c.in-Some.ensures.low (few_entries 1024 c.self.inside.runnable.tasks (λ t e h. (c.keeps.ensures t e h).0)) in
    omega (arith, is_low)

pub run-requires-2-clause-few : goal.run-requires-2-clause-few
run-requires-2-clause-few c =
    low c.in-Some-pick.first.depth (len c.self.inside.runnable.tasks) c.in-Some-pick.ensures.low (few_entries 1024 c.self.inside.runnable.tasks (λ t e h. (c.keeps.ensures t e h).0))

pub returns-in-Some-clause-none : goal.returns-in-Some-clause-none
returns-in-Some-clause-none c =
    none_picked c.args.self.now.state.runnable (Some c.in-Some.known.task) (c.in-Some.ensures.number ∙ ap (λ (q : View). pick_of q.state.runnable) c.self.view_is)
