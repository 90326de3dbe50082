use Rattle.std.proofs.Common.{◌≡◌, length, map, drop}
use Rattle.std.specs.List.{range_with_len}
use Rattle.eevdf_fleet.specs.{Board.IsToken, Board.posts_of, PostClaims.posts_from, Rings.no_posts}
use Rattle.eevdf_fleet.proofs.rings.named_ends.producers_by_sender.Given as goal

abbrev pub invariant-loop-ends : goal.invariant-loop-ends
invariant-loop-ends g l = record {
  all : l.all.items ≡ map (no_posts l.fn.capacity (length l.fn.rows.items)) (range_with_len 0 (length l.yielded));
  token : IsToken g.N.Names.kit.board g.N.Names.kit.terms l.token;
  posts : posts_of l.token ≡ drop (length l.yielded) (posts_from (length l.fn.rows.items) 0 (length l.fn.rows.items));
}
