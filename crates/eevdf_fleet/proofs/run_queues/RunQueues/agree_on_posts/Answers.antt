use Rattle.std.proofs.Common.{◌≡◌, List, [], ◌∷◌, ◌++◌, ap, subst, ◌∙◌}
use Rattle.eevdf_ops.specs.declared.deeds.Line.{Line}
use Rattle.eevdf_fleet.specs.declared.board.claims.{Claim.Claim, PostClaim.PostClaim}
use Rattle.eevdf_fleet.specs.declared.board.claims.Claim.TheVariants.{Past}
use Rattle.eevdf_fleet.specs.declared.board.claims.PostClaim.TheVariants.{Sent}
use Rattle.eevdf_fleet.specs.{Board.claims_of, Board.posts_of, Endless.AgreeOnPosts, PostClaims.lists_in, PostClaims.sender_in, Rings.Posted, SeatLogs.seen_in}
use Rattle.eevdf_fleet.proofs.PostsSeen.{posts-agree}
use Rattle.eevdf_fleet.proofs.run_queues.RunQueues.agree_on_posts.Goals as goal

pub returns-clause-agree : goal.returns-clause-agree
returns-clause-agree g c =
    let seen : List Line = seen_in (claims_of c.token.inside.token) in
    let ps : List PostClaim = posts_of c.sent.inside.token in
    let claims : claims_of c.join.result ≡ Past seen ∷ [] = c.join.ensures.claims ∙ ap (λ (cs : List Claim). cs ++ claims_of c.token.inside.token) c.sent.invariant.1 ∙ c.token.invariant.1 in
    let posts : posts_of c.join.result ≡ Sent (sender_in ps) (lists_in ps) ∷ posts_of c.token.inside.token
    = c.join.ensures.posts ∙ ap (λ (qs : List PostClaim). qs ++ posts_of c.token.inside.token) c.sent.invariant.2 in
    subst (λ (ls : List Line). AgreeOnPosts ls c.args.posted.now) (c.token.view_is ∙ c.copy.ensures.copy)
    (subst (λ (p : Posted). AgreeOnPosts seen p) (c.sent.view_is ∙ c.copy_posted.ensures.copy)
    (posts-agree g.N.Names.kit.terms seen (sender_in ps) (lists_in ps) (posts_of c.token.inside.token) (claims_of c.join.result) (posts_of c.join.result) claims posts c.compare-compared.ensures.compared))
