use Rattle.std.proofs.Common.{sym, subst, arith}
use Rattle.eevdf_fleet.specs.{declared.board.claims.Terms.Terms, Board.claims_of, Board.posts_of, Claims.Owes, Claims.OwesAsked}
use Rattle.eevdf_fleet.proofs.BoardCalls.{appends_as}
use Rattle.eevdf_fleet.proofs.board.named_board.NamedBoard.append_as.Goals as goal

pub load-requires : goal.load-requires
load-requires g c = (
  cc,
  omega (arith, c.self.invariant.2),
  appends_as c.self.inside.table.shared.key _ _ c.into_seat-seat.result.me (claims_of c.args.token) (posts_of c.args.token) g.S.Saying.said c.args.said.now c.requires.same (cc) (cc)
      (subst (λ (t : Terms). Owes t (claims_of c.args.token) c.args.said.now × OwesAsked t (claims_of c.args.token) (posts_of c.args.token) c.args.said.now) (sym c.self.invariant.1) (c.requires.owed, c.requires.asked)),
)
