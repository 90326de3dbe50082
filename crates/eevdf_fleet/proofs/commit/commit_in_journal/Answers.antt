use Rattle.std.proofs.Common.{◌≡◌, List, [], ◌∷◌, ◌++◌, map, ap, sym, subst, ◌∙◌, arith}
use Rattle.eevdf_fleet.specs.{declared.board.claims.Claim.Claim, declared.board.claims.Claim.TheVariants.Journal, Claims.advanced}
use Rattle.eevdf_fleet.specs.Board.{Known, claims_of, held}
use Rattle.eevdf_fleet.specs.{declared.board.claims.PostClaim.PostClaim, Board.posts_of, PostClaims.IsAsked}
use Rattle.eevdf_fleet.proofs.SentTokens.{asked-right}
use Rattle.eevdf_fleet.proofs.Rooms.{journal-room}
use Rattle.eevdf_fleet.proofs.commit.commit_in_journal.Goals as goal

pub push_reserved-requires : goal.push_reserved-requires
push_reserved-requires g c =
    let t = g.N.Names.kit.terms in
    let l = c.args.said.line in
    let all = c.journal.inside.lines.items in
    let claims : claims_of c.commit-token.result ≡ Journal (all ++ l ∷ []) ∷ held (map (advanced c.args.said) (claims_of c.args.queues)) =
    c.commit-token.ensures.claims ∙ ap (λ (cs : List Claim). held (map (advanced c.args.said) cs))
    (c.join-token.ensures.claims ∙ ap (λ (cs : List Claim). cs ++ claims_of c.args.queues) (ap claims_of c.replace-all.ensures.value ∙ c.journal.invariant.1)) in
    let known : Known t c.commit-token.new.log.seen (Journal (all ++ l ∷ []) ∷ held (map (advanced c.args.said) (claims_of c.args.queues))) =
    subst (λ (cs : List Claim). Known t c.commit-token.new.log.seen cs) claims c.commit-token.ensures.known in
    omega (arith, journal-room t c.commit-token.new.log.seen all l _ known.kept c.journal.invariant.2 known.tell.0, c.journal.inside.lines.ok.0)

pub commit-token-requires-clause-asked : goal.commit-token-requires-clause-asked
commit-token-requires-clause-asked g c =
    subst (λ (ps : List PostClaim). IsAsked c.args.log.now.lines ps c.args.said.line.deed) (sym c.join-token.ensures.posts)
    (asked-right c.args.log.now.lines (posts_of c.replace-all.result) (posts_of c.args.queues) c.args.said.line.deed c.requires.asked)
