use Rattle.eevdf_fair_queue.proofs.{Keeping.settles_as, Keeping.of_one_as, Calls.changed_level}
use Rattle.eevdf_fair_queue.proofs.bounds.Bounds.renice.Goals as goal

pub returns-clause-fair : goal.returns-clause-fair
returns-clause-fair c = λ fair.
    let q = c.args.queue.now.state in
    settles_as c.pick_is_first.ensures c.pick_of_nobody.ensures c.args.task q _ c.args.self.now _ _ _ c.every_queue.ensures
    (of_one_as c.args.task q _ _ c.renice-answer.ensures.after (changed_level q c.args.task c.args.nice)) fair (c.of-mark.ensures) c.entry.ensures c.settled.ensures
