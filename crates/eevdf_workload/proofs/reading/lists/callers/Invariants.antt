use Rattle.std.proofs.Common.{◌≡◌, ◌+◌, ◌≤◌, vec_len, vec_capacity}
use Rattle.std.specs.Vec.Iter.{into_iter_items, into_iter_len}
use Rattle.toml.specs.View.{items_view}
use Rattle.eevdf_workload.specs.{Meaning.caller_at, MeaningSteps.each}
use Rattle.eevdf_workload.proofs.ReadingLists.{behind}
use Rattle.eevdf_workload.proofs.reading.lists.callers.Given as goal

abbrev pub invariant-loop-member : goal.invariant-loop-member
invariant-loop-member l = record {
  read : each caller_at 0 (items_view l.fn.members.items) ≡ behind l.order.items (each caller_at (vec_len l.order) (items_view (into_iter_items l.member-iterator)));
  room : vec_len l.order + into_iter_len l.member-iterator ≤ vec_capacity l.order;
}
