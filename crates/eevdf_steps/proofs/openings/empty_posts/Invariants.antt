use Rattle.std.proofs.Common.{◌≡◌, ℕ, ◌+◌, ◌*◌, ◌<◌, length}
use Rattle.eevdf_steps.specs.{Plan.callers, PostLists.list_at, Openings.empty_at}
use Rattle.eevdf_steps.proofs.openings.empty_posts.Given as goal

abbrev pub invariant-loop-sender : goal.invariant-loop-sender
invariant-loop-sender l = record {
  each : length l.lists.items ≡ l.sender * callers l.plan;
  empty : (k : ℕ) → k < l.sender * callers l.plan → list_at l.lists.items k ≡ empty_at l.plan k;
}

abbrev pub invariant-loop-room : goal.invariant-loop-room
invariant-loop-room l = record {
  each : length l.lists.items ≡ l.sender * callers l.plan + l.room-index;
  empty : (k : ℕ) → k < l.sender * callers l.plan + l.room-index
      → list_at l.lists.items k ≡ empty_at l.plan k;
}
