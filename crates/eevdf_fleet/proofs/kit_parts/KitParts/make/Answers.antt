use Rattle.std.proofs.Common.{ap}
use Rattle.eevdf_fleet.specs.declared.board.claims.Terms.{Terms}
use Rattle.eevdf_fleet.proofs.kit_parts.KitParts.make.Goals as goal

pub returns-clause-quota : goal.returns-clause-quota
returns-clause-quota c = ap (λ (t : Terms). t.quota) c.in_ok-board.ensures.terms
