use Rattle.eevdf_fair_queue.proofs.Keeping.{fair_of, adopt_keeps}
use Rattle.eevdf_fair_queue.proofs.bounds.Bounds.adopt.Goals as goal

pub returns-clause-fair : goal.returns-clause-fair
returns-clause-fair c = λ fair.
    fair_of _ _ _ _ c.adopt-here.ensures.after c.adopted.ensures
    (adopt_keeps c.args.queue.now.state c.args.self.now c.args.task c.adopt-here.result c.adopt-here.ensures.here fair)
