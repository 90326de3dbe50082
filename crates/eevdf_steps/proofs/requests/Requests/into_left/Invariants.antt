use Rattle.std.proofs.Common.{◌≡◌, ◌+◌, ◌≤◌, drop, map, vec_len, vec_capacity}
use Rattle.std.specs.Vec.Iter.{into_iter_len}
use Rattle.eevdf_steps.specs.PostLists.{PostList}
use Rattle.eevdf_steps.proofs.requests.Requests.into_left.Given as goal

abbrev pub invariant-loop-list : goal.invariant-loop-list
invariant-loop-list l = record {
  left : map (λ p. p.items) l.left.items ≡ map (λ (x : PostList). drop x.taken x.posted) l.yielded;
  room : vec_len l.left + into_iter_len l.list-iterator ≤ vec_capacity l.left;
}
