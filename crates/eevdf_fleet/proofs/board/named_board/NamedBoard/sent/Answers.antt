use Rattle.std.proofs.Common.{arith}
use Rattle.eevdf_fleet.specs.Board.{claims_of, posts_of}
use Rattle.eevdf_fleet.proofs.BoardCalls.{splits_sent_as}
use Rattle.eevdf_fleet.proofs.board.named_board.NamedBoard.sent.Goals as goal

pub split_seat-sent-requires : goal.split_seat-sent-requires
split_seat-sent-requires g c = (cc, omega (arith, c.self.invariant.2), splits_sent_as c.self.inside.table.shared.key _ c.into_seat-seat.result.me.0 (claims_of c.args.token.now) (posts_of c.args.token.now) (cc))
