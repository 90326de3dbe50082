use Rattle.std.proofs.Common.{◌≡◌, List, subst}
use Rattle.eevdf_ops.specs.Programs.{lines_by}
use Rattle.eevdf_fleet.specs.{declared.board.claims.Claim.Claim, Claims.AllTell, Claims.IsOnTerms, Board.claims_of, Fleets.SeatLog, SeatLogs.seen_in}
use Rattle.eevdf_fleet.proofs.seat_log.SeatLog.know.Goals as goal

pub returns-clause-kept : goal.returns-clause-kept
returns-clause-kept g c = subst (λ (s : SeatLog). IsOnTerms g.N.Names.kit.terms s.seen) c.self.view_is c.self.invariant.1.known.kept

pub returns-clause-own : goal.returns-clause-own
returns-clause-own g c =
    let claims : List Claim = claims_of c.self.inside.token in
    let told = subst (λ (cs : List Claim). AllTell g.N.Names.kit.terms (seen_in claims) cs) c.self.invariant.1.claims_are c.self.invariant.1.known.tell in
    subst (λ (s : SeatLog). lines_by s.cpu s.seen ≡ s.lines) c.self.view_is told.1.0
