use Rattle.std.proofs.Common.{[], ◌∷◌, ap, ◌∙◌}
use Rattle.eevdf_fleet.specs.declared.board.claims.PostClaim.TheVariants.{Sent}
use Rattle.eevdf_fleet.specs.{PostClaims.sent_in, Rings.Posts}
use Rattle.eevdf_fleet.proofs.rings.producer_ends.Producers.sent.Goals as goal

pub returns-clause-sent : goal.returns-clause-sent
returns-clause-sent g c =
    c.sent.ensures.sent_posts ∙ ap sent_in c.self.invariant.3 ∙ ap (λ (p : Posts). Sent p.sender p.posted ∷ []) c.self.view_is
