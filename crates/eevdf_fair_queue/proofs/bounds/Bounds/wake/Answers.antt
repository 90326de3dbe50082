use Rattle.eevdf_fair_queue.proofs.{Keeping.settles_as, Keeping.of_one_as, Calls.woken}
use Rattle.eevdf_fair_queue.proofs.bounds.Bounds.wake.Goals as goal

pub returns-clause-fair : goal.returns-clause-fair
returns-clause-fair c = λ fair.
    let q = c.args.queue.now.state in
    settles_as c.pick_is_first.ensures c.pick_of_nobody.ensures c.args.task q _ c.args.self.now _ _ _ c.every_queue.ensures
    (of_one_as c.args.task q _ _ c.wake-answer.ensures.after (woken q c.args.task)) fair (c.of-mark.ensures) c.entry.ensures c.settled.ensures
