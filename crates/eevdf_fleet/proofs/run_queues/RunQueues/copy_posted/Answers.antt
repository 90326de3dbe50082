use Rattle.std.proofs.Common.{◌≡◌, List, [], ◌∷◌, sym, ap, ◌∙◌}
use Rattle.eevdf_fleet.specs.declared.board.claims.PostClaim.{PostClaim}
use Rattle.eevdf_fleet.specs.declared.board.claims.PostClaim.TheVariants.{Sent}
use Rattle.eevdf_fleet.specs.{Board.posts_of, PostClaims.lists_in, PostClaims.sender_in, PostClaims.sent_in}
use Rattle.eevdf_fleet.proofs.run_queues.RunQueues.copy_posted.Goals as goal
use Rattle.eevdf_fleet.proofs.run_queues.RunQueues.copy_posted.Goals.{After-sent-token}

-- what the copy claims
copied : (g : _) (c : After-sent-token g) → posts_of c.sent-token.result ≡ Sent (sender_in (posts_of c.posted.inside.token)) (lists_in (posts_of c.posted.inside.token)) ∷ []
copied g c = c.sent-token.ensures.sent_posts ∙ ap sent_in c.posted.invariant.2

pub invariant_of-result : goal.invariant_of-result
invariant_of-result g c =
    let is = copied g (goal.at.invariant_of-result g c).After-sent-token in
    (c.sent-token.ensures.sent, c.sent-token.ensures.sent_claims, is ∙ ap (λ (ps : List PostClaim). Sent (sender_in ps) (lists_in ps) ∷ []) (sym is))

pub returns-clause-copy : goal.returns-clause-copy
returns-clause-copy g c =
    let is = copied g (goal.at.returns-clause-copy g c).After-sent-token in
    ap (λ (ps : List PostClaim). record { sender = sender_in ps; posted = lists_in ps }) is ∙ c.posted.view_is
