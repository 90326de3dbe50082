use Rattle.std.proofs.Common.{subst}
use Rattle.eevdf_fleet.specs.Endless.{HasAskedFor, Seat}
use Rattle.eevdf_fleet.proofs.endless.seat.Seat.agree_on_posts.Goals as goal

pub returns-clause-agree : goal.returns-clause-agree
returns-clause-agree g c = subst (λ (s : Seat). HasAskedFor s c.args.seen.now) c.self.view_is c.agree_on_posts.ensures.agree
