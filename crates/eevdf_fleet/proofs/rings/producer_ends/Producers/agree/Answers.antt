use Rattle.std.proofs.Common.{◌≡◌, ℕ, List, [], ◌∷◌, ◌++◌, map, ap, subst, ◌∙◌}
use mathlib.Core.List.{IsPrefix}
use Rattle.eevdf_ops.specs.{declared.deeds.Line.Line, Programs.lines_by, Programs.wakes_from}
use Rattle.eevdf_fleet.specs.declared.board.claims.{Claim.Claim, PostClaim.PostClaim}
use Rattle.eevdf_fleet.specs.declared.board.claims.Claim.TheVariants.{Past}
use Rattle.eevdf_fleet.specs.declared.board.claims.PostClaim.TheVariants.{Posts}
use Rattle.eevdf_fleet.specs.{Board.claims_of, Board.first_past, Board.posts_of, RingEnds.posted_into, SeatLogs.seen_in}
use Rattle.eevdf_fleet.specs.Rings as rings
use Rattle.eevdf_fleet.proofs.PostsSeen.{own-posts-agree}
use Rattle.eevdf_fleet.proofs.rings.producer_ends.Producers.agree.Goals as goal

pub returns-clause-agree : goal.returns-clause-agree
returns-clause-agree g c =
    let seen : List Line = seen_in (claims_of c.seen.inside.token) in
    let sender : ℕ = c.self.inside.sender in
    let lists : List (List ℕ) = map posted_into c.self.inside.ends.items in
    let more : List Claim = claims_of c.replace-all.result in
    let claims : claims_of c.join.result ≡ Past seen ∷ more
    = c.join.ensures.claims ∙ ap (λ (cs : List Claim). cs ++ more) (c.recall-past.ensures.past_claims ∙ ap first_past c.seen.invariant.1) in
    let posts : posts_of c.join.result ≡ Posts sender lists ∷ []
    = c.join.ensures.posts ∙ ap (λ (ps : List PostClaim). ps ++ posts_of c.replace-all.result) c.recall-past.ensures.past_posts ∙ ap posts_of c.replace-all.ensures.value ∙ c.self.invariant.3 in
    subst (λ (ls : List Line). (home : ℕ) → IsPrefix (wakes_from c.args.self.now.sender (lines_by home ls)) (rings.posted_to c.args.self.now home)) c.seen.view_is
    (subst (λ (p : rings.Posts). (home : ℕ) → IsPrefix (wakes_from p.sender (lines_by home seen)) (rings.posted_to p home)) c.self.view_is
    (own-posts-agree g.N.Names.kit.terms seen sender lists more (claims_of c.join.result) (posts_of c.join.result) claims posts c.compare.ensures.compared))
