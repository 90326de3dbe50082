use Rattle.std.proofs.Common.{◌≡◌, List, [], ◌∷◌, subst, ◌∙◌}
use Rattle.eevdf_ops.specs.declared.deeds.Line.{Line}
use Rattle.eevdf_fleet.specs.declared.board.claims.Claim.{Claim}
use Rattle.eevdf_fleet.specs.declared.board.claims.Claim.TheVariants.{Past}
use Rattle.eevdf_fleet.specs.{Board.HasLooked, Board.claims_of, Endless.Agree, Fleets.setup_of, SeatLogs.seen_in}
use Rattle.eevdf_fleet.proofs.SeenLines.{agreed}
use Rattle.eevdf_fleet.proofs.run_queues.RunQueues.agree.Goals as goal

pub returns-clause-agree : goal.returns-clause-agree
returns-clause-agree g c =
    let k = g.N.Names.kit in
    let first : List Line = seen_in (claims_of c.token.inside.token) in
    let second : List Line = seen_in (claims_of c.others.inside.token) in
    let claims : claims_of c.join.result ≡ Past first ∷ Past second ∷ [] = cc in
    let known : HasLooked k.terms (Past first ∷ Past second ∷ []) (claims_of c.look.result)
    = subst (λ (cs : List Claim). HasLooked k.terms cs (claims_of c.look.result)) claims c.look.ensures.looked in
    subst (λ (ls : List Line). Agree (setup_of k) ls c.args.other.now) (c.token.view_is ∙ c.copy.ensures.copy)
    (subst (λ (ls : List Line). Agree (setup_of k) first ls) (c.others.view_is ∙ c.copy-2.ensures.copy)
    (agreed k.terms first second (claims_of c.look.result) c.token.invariant.2 c.others.invariant.2 known))
