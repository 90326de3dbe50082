use Rattle.std.proofs.Common.{◌≡◌, [], arith}
use Rattle.eevdf_fleet.specs.{declared.board.claims.Terms.Terms, Claims.knowing, Board.claims_of, Board.posts_of}
use Rattle.eevdf_fleet.proofs.BoardCalls.{joins_as}
use Rattle.eevdf_fleet.proofs.board.named_board.NamedBoard.join.Goals as goal

pub join_seat-requires : goal.join_seat-requires
join_seat-requires g c =
    let t : Terms = c.self.inside.table.shared.key in
    let view : c.into_seat-seat.result.me.0 ≡ knowing t (claims_of c.args.token) (posts_of c.args.token) = cc in
    let other : c.into_seat.result.me.0 ≡ knowing t (claims_of c.args.other) (posts_of c.args.other) = cc in
    let bare : c.into_seat.result.me.1 ≡ [] = cc in
    let of : c.into_seat-seat.result.table_id ≡ c.self.inside.table.shared.table_id = cc in
    let too : c.into_seat.result.table_id ≡ c.self.inside.table.shared.table_id = cc in
    (of, too, bare, omega (arith, c.self.invariant.2), joins_as t _ _ c.into_seat-seat.result.me.0 c.into_seat.result.me.0 (claims_of c.args.token) (claims_of c.args.other) (posts_of c.args.token) (posts_of c.args.other) view other)
