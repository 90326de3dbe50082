use Rattle.std.proofs.Common.{ap, ◌∙◌}
use Rattle.std.specs.FinMap.{get}
use Rattle.eevdf_fair_queue.specs.Fair.{mark_of}
use Rattle.eevdf_fair_queue.proofs.{Keeping.settles_as, Keeping.tried_one, Calls.try_admitted}
use Rattle.eevdf_fair_queue.proofs.bounds.Bounds.try_admit.Goals as goal

pub returns-clause-fair : goal.returns-clause-fair
returns-clause-fair c = λ fair.
    let q = c.args.queue.now.state in
    let r = c.try_admit-result.new.self.state in
    let task = c.args.parcel.task in
    settles_as c.pick_is_first.ensures c.pick_of_nobody.ensures task q r c.args.self.now _ _ _ c.every_queue.ensures
    (tried_one c.try_admit-result.result _ _ task q r c.try_admit-result.ensures.cases (λ x h. try_admitted q r c.args.parcel h) (λ y h. h.2)) fair
    (c.of-mark.ensures ∙ ap (mark_of q) c.task-task.ensures) (c.entry.ensures ∙ ap (get r.runnable) c.task-task.ensures) c.settled.ensures
