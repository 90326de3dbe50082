use Rattle.std.proofs.Common.{◌≡◌, ℕ, suc, ◌+◌, List, [], ◌∷◌, ◌++◌, length, map, take, drop, replicate, ap, sym, ◌∙◌, arith}
use Rattle.std.proofs.lemmas.List.{length-append}
use Rattle.eevdf_fleet.specs.declared.board.claims.PostClaim.TheVariants.{Posts}
use Rattle.eevdf_fleet.specs.{PostClaims.posts_from, RingEnds.posted_into}
use Rattle.eevdf_fleet.specs.Rings as rings
use Rattle.eevdf_fleet.proofs.PostsOpened.{drop-next, posts-at}
use Rattle.std.proofs.{lemmas.Iterator.Adapters.YieldsList-from_vec, lemmas.Iterator.Consumers.YieldsList-turn}
use Rattle.eevdf_fleet.specs.Rings.{no_posts}
use Rattle.eevdf_fleet.proofs.RingNaming.{row-read, next-place, by-place-more}
use Rattle.eevdf_fleet.proofs.rings.named_ends.producers_by_sender.Goals as goal

pub with_token-requires-clause-ends : goal.with_token-requires-clause-ends
with_token-requires-clause-ends g c =
    let turn = YieldsList-turn (YieldsList-from_vec {s = c.into_iter-ends-iterator.result} c.args.rows.items (cc) (cc)) c.loop-ends.yielded c.loop-ends.ends-iterator c.loop-ends.yielded_by c.next.result c.next.new.self c.in-Some.ends c.in-Some.is c.next.ensures.steps in
    let count : c.len-in-loop-ends.result ≡ length c.loop-ends.yielded
    = c.len-in-loop-ends.ensures ∙ c.loop-ends.all.ok.0 ∙ next-place (no_posts c.args.capacity (length c.args.rows.items)) c.loop-ends.all.items (length c.loop-ends.yielded) c.loop-ends.invariant.all in
    rw count (row-read c.args.capacity c.args.rows.items (length c.loop-ends.yielded) c.in-Some.ends c.requires.rows c.requires.capacity turn).0

pub loop-ends-preserved : goal.loop-ends-preserved
loop-ends-preserved g c =
    let turn = YieldsList-turn (YieldsList-from_vec {s = c.into_iter-ends-iterator.result} c.args.rows.items (cc) (cc)) c.loop-ends.yielded c.loop-ends.ends-iterator c.loop-ends.yielded_by c.next.result c.next.new.self c.in-Some.ends c.in-Some.is c.next.ensures.steps in
    let count : c.len-in-loop-ends.result ≡ length c.loop-ends.yielded
    = c.len-in-loop-ends.ensures ∙ c.loop-ends.all.ok.0 ∙ next-place (no_posts c.args.capacity (length c.args.rows.items)) c.loop-ends.all.items (length c.loop-ends.yielded) c.loop-ends.invariant.all in
    record {
      all = by-place-more (no_posts c.args.capacity (length c.args.rows.items)) c.loop-ends.all.items c.push.new.self.items c.in_ok-own.own c.loop-ends.yielded c.in-Some.ends c.loop-ends.invariant.all c.in_ok-push.ensures.items (rw count at c.in_ok-own.ensures.ends ∙ (row-read c.args.capacity c.args.rows.items (length c.loop-ends.yielded) c.in-Some.ends c.requires.rows c.requires.capacity turn).1);
      token = c.in_ok-own.ensures.token;
      posts = c.in_ok-own.ensures.others ∙ ap (λ (l : List _). drop 1 l) c.loop-ends.invariant.posts ∙ drop-next (length c.loop-ends.yielded) (posts_from (length c.args.rows.items) 0 (length c.args.rows.items))
          ∙ ap (λ (n : ℕ). drop n (posts_from (length c.args.rows.items) 0 (length c.args.rows.items))) (let e : suc (length c.loop-ends.yielded) ≡ length (c.loop-ends.yielded ++ c.in-Some.ends ∷ []) = omega (arith, length-append c.loop-ends.yielded (c.in-Some.ends ∷ [])) in e);
    }

pub with_token-requires-clause-first : goal.with_token-requires-clause-first
with_token-requires-clause-first g c =
    let turn = YieldsList-turn (YieldsList-from_vec {s = c.into_iter-ends-iterator.result} c.args.rows.items (cc) (cc)) c.loop-ends.yielded c.loop-ends.ends-iterator c.loop-ends.yielded_by c.next.result c.next.new.self c.in-Some.ends c.in-Some.is c.next.ensures.steps in
    let count : c.len-in-loop-ends.result ≡ length c.loop-ends.yielded
    = c.len-in-loop-ends.ensures ∙ c.loop-ends.all.ok.0 ∙ next-place (no_posts c.args.capacity (length c.args.rows.items)) c.loop-ends.all.items (length c.loop-ends.yielded) c.loop-ends.invariant.all in
    let none : map posted_into c.in-Some.ends.items ≡ replicate (length c.args.rows.items) []
    = ap (λ (p : rings.Posts). p.posted) (row-read c.args.capacity c.args.rows.items (length c.loop-ends.yielded) c.in-Some.ends c.requires.rows c.requires.capacity turn).1 in
    ap (λ (l : List _). take 1 l) c.loop-ends.invariant.posts
    ∙ posts-at (length c.args.rows.items) 0 (length c.args.rows.items) (length c.loop-ends.yielded) turn.0
    ∙ ap (λ (n : ℕ). Posts n (replicate (length c.args.rows.items) []) ∷ []) (let e : 0 + length c.loop-ends.yielded ≡ length c.loop-ends.yielded = omega arith in e)
    ∙ ap (λ (l : List (List ℕ)). Posts (length c.loop-ends.yielded) l ∷ []) (sym none) ∙ ap (λ (n : ℕ). Posts n (map posted_into c.in-Some.ends.items) ∷ []) (sym count)

pub loop-ends-init : goal.loop-ends-init
loop-ends-init g c = record { all = c.in_ok-all.ensures.items; token = c.requires.token; posts = c.requires.posts }
