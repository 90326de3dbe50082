use Rattle.std.proofs.Common.{List, [], ◌∷◌, sym, ap, ◌∙◌}
use Rattle.eevdf_fleet.specs.declared.board.claims.PostClaim.{PostClaim}
use Rattle.eevdf_fleet.specs.declared.board.claims.PostClaim.TheVariants.{Sent}
use Rattle.eevdf_fleet.specs.{Fleets.Parts, PostClaims.lists_in, PostClaims.sender_in}
use Rattle.eevdf_fleet.proofs.seat_parts.SeatParts.posted.Goals as goal

pub invariant_of-result : goal.invariant_of-result
invariant_of-result g c =
    (c.sent-token.ensures.token, c.sent-token.ensures.claims, c.sent-token.ensures.sent ∙ ap (λ (ps : List PostClaim). Sent (sender_in ps) (lists_in ps) ∷ []) (sym c.sent-token.ensures.sent))

pub invariant_of-self : goal.invariant_of-self
invariant_of-self g c = rw c.sent-token.ensures.producers c.self.invariant

pub returns-clause-sender : goal.returns-clause-sender
returns-clause-sender g c = ap sender_in c.sent-token.ensures.sent ∙ c.self.invariant.0.posts.sender_is ∙ ap (λ (p : Parts). p.seat.cpu) c.self.view_is

pub returns-clause-posted : goal.returns-clause-posted
returns-clause-posted g c = ap lists_in c.sent-token.ensures.sent ∙ ap (λ (p : Parts). p.seat.posted) c.self.view_is
