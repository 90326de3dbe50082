use Rattle.std.proofs.Common.{◌≡◌, ◌<◌, ℕ, [], length, map, get_or}
use Rattle.rtrb.specs.Ring.{known_items, received}
use Rattle.eevdf_free_tasks.specs.Parts.{HaveCome}
use Rattle.eevdf_free_tasks.proofs.ring_ends.receive_all.Given as goal

abbrev pub invariant-loop-sender : goal.invariant-loop-sender
invariant-loop-sender l = record {
  come : HaveCome l.sender (map received l.initial.consumers.items) (map received l.consumers.items) l.initial.own l.own;
  emptied : (place : ℕ) → place < l.sender → get_or (map known_items l.consumers.items) place [] ≡ [];
  all : length l.consumers.items ≡ length l.initial.consumers.items;
}
