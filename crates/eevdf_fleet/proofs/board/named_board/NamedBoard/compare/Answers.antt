use Rattle.std.proofs.Common.{arith}
use Rattle.eevdf_fleet.specs.Board.{claims_of, posts_of}
use Rattle.eevdf_fleet.proofs.BoardCalls.{compares_as}
use Rattle.eevdf_fleet.proofs.board.named_board.NamedBoard.compare.Goals as goal

pub load-requires : goal.load-requires
load-requires g c = (cc, omega (arith, c.self.invariant.2), compares_as c.self.inside.table.shared.key _ _ c.into_seat-seat.result.me (claims_of c.args.token) (posts_of c.args.token) (cc) (cc))
