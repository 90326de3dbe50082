use Rattle.std.proofs.Common.{subst}
use Rattle.eevdf_fleet.specs.Endless.{EndsWith, SeenLine}
use Rattle.eevdf_uses.proofs.one_history.compare.Goals as goal

pub returns-clause-last : goal.returns-clause-last
returns-clause-last g c = subst (λ (t : SeenLine). EndsWith t.seen t.line) c.told.view_is c.told.invariant
