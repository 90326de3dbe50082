use Rattle.std.proofs.Common.{arith}
use Rattle.eevdf_fleet.specs.Board.{claims_of, posts_of}
use Rattle.eevdf_fleet.proofs.BoardCalls.{splits_as}
use Rattle.eevdf_fleet.proofs.board.named_board.NamedBoard.split_two.Goals as goal

pub split_seat-first-requires : goal.split_seat-first-requires
split_seat-first-requires g c = (cc, omega (arith, c.self.invariant.2), splits_as c.self.inside.table.shared.key _ 2 c.into_seat-seat.result.me.0 (claims_of c.args.token) (posts_of c.args.token) (cc))
