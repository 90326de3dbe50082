use Rattle.std.proofs.Common.{ap, sym, subst, ◌∙◌, ◌++◌, List}
use Rattle.eevdf_ops.specs.declared.deeds.Line.{Line}
use Rattle.eevdf_fleet.specs.{declared.board.claims.Claim.Claim, declared.board.claims.PostClaim.PostClaim, Board.claims_of, Board.posts_of, Fleets.SeatLog, PostClaims.IsAsked}
use Rattle.eevdf_fleet.proofs.SentTokens.{owes-asked}
use Rattle.eevdf_fleet.proofs.Commits.{known-after}
use Rattle.eevdf_fleet.proofs.commit.commit.Goals as goal

pub returns-then-log-gt0-clause-known : goal.returns-then-log-gt0-clause-known
returns-then-log-gt0-clause-known g c = known-after _ _ _ _ _ _ c.append-token.ensures.appended c.split_two-own.ensures.first_claims c.split_two-own.ensures.other_claims

pub returns-else-log-gt0-clause-known : goal.returns-else-log-gt0-clause-known
returns-else-log-gt0-clause-known g c = known-after _ _ _ _ _ _ c.append-token.ensures.appended c.split_two-own.ensures.first_claims c.split_two-own.ensures.other_claims

pub append-token-requires-clause-asked : goal.append-token-requires-clause-asked
append-token-requires-clause-asked g c =
    owes-asked g.N.Names.kit.terms c.log.inside.cpu (claims_of c.log.inside.token) (claims_of c.args.token) _ (posts_of c.log.inside.token) (posts_of c.args.token) _ c.args.said.now c.log.invariant.1
    (c.requires.own ∙ ap (λ (s : SeatLog). s.cpu) (sym c.log.view_is))
    (c.join.ensures.claims ∙ ap (λ (cs : List Claim). cs ++ claims_of c.args.token) (ap claims_of c.replace-own.ensures.value))
    (c.join.ensures.posts ∙ ap (λ (ps : List PostClaim). ps ++ posts_of c.args.token) (ap posts_of c.replace-own.ensures.value))
    (subst (λ (l : List Line). IsAsked l (posts_of c.args.token) c.args.said.now.line.deed) (ap (λ (s : SeatLog). s.lines) (sym c.log.view_is)) c.requires.asked)
