use Rattle.eevdf_fair_queue.proofs.{Keeping.fair_of, Running.pick_keeps}
use Rattle.eevdf_fair_queue.proofs.bounds.Bounds.pick.Goals as goal

pub returns-clause-fair : goal.returns-clause-fair
returns-clause-fair c = λ fair.
    fair_of _ _ _ _ c.pick-picked.ensures.after c.picked.ensures
    (pick_keeps c.pick_is_first.ensures c.pick_of_nobody.ensures c.args.queue.now.state c.args.self.now fair)
