use Rattle.std.proofs.Common.{arith}
use Rattle.eevdf_fleet.specs.Board.{claims_of, posts_of}
use Rattle.eevdf_fleet.proofs.BoardCalls.{splits_past_as}
use Rattle.eevdf_fleet.proofs.board.named_board.NamedBoard.recall.Goals as goal

pub split_seat-past-requires : goal.split_seat-past-requires
split_seat-past-requires g c = (cc, omega (arith, c.self.invariant.2), splits_past_as c.self.inside.table.shared.key _ c.into_seat-seat.result.me.0 (claims_of c.args.token.now) (posts_of c.args.token.now) (cc))
