use Rattle.std.proofs.Common.{◌≡◌, [], ◌∷◌, arith}
use Rattle.eevdf_fleet.specs.{declared.board.claims.Terms.Terms, Claims.knowing, Board.claims_of, Board.posts_of}
use Rattle.eevdf_fleet.specs.declared.board.claims.PostClaim.TheVariants.{Posts}
use Rattle.eevdf_fleet.proofs.BoardCalls.{splits_post_as}
use Rattle.eevdf_fleet.proofs.board.named_board.NamedBoard.post_as.Goals as goal

pub split_seat-sent-requires : goal.split_seat-sent-requires
split_seat-sent-requires g c =
    let t : Terms = c.self.inside.table.shared.key in
    let are : posts_of c.args.token ≡ Posts c.requires.posts.sender c.requires.posts.lists ∷ [] = c.requires.posts.are in
    let view : c.into_seat-seat.result.me.0 ≡ knowing t (claims_of c.args.token) (Posts c.requires.posts.sender c.requires.posts.lists ∷ []) = cc in
    let of : c.into_seat-seat.result.table_id ≡ c.self.inside.table.shared.table_id = cc in
    (of, omega (arith, c.self.invariant.2), splits_post_as t _ g.P.Posting.home g.P.Posting.task c.requires.posts.sender c.requires.posts.lists c.into_seat-seat.result.me.0 (claims_of c.args.token) view)
