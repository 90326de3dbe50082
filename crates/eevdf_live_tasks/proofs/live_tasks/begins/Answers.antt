use Rattle.std.proofs.Common.{inr, arith}
use Rattle.eevdf_live_tasks.proofs.Lives.{awake}
use Rattle.eevdf_live_tasks.proofs.live_tasks.begins.Goals as goal

pub returns-then-is_at_home-clause-not : goal.returns-then-is_at_home-clause-not
returns-then-is_at_home-clause-not g c = λ no.
    inr (awake c.args.seat.now.cpu c.args.task c.args.nice c.args.slice c.begin.ensures (λ is. grind (arith, no, c.eq.ensures, is)))
