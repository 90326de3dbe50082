use Rattle.std.proofs.Common.{◌≡◌, vec_len}
use Rattle.eevdf_fleet.specs.{OpenedRings.AreOpened, Requests.source_at, Requests.terms_in, RingEnds.lists_of}
use Rattle.eevdf_fleet.proofs.rings.opened_rings.Rings.open.Given as goal

abbrev pub invariant-loop-sender : goal.invariant-loop-sender
invariant-loop-sender l = record {
  count : vec_len l.producers ≡ l.sender;
  opened : AreOpened l.capacity (source_at l.board.table_id (terms_in l.board.views) l.homes.items) l.cpus (lists_of l.producers.items) (lists_of l.consumers.items);
}
