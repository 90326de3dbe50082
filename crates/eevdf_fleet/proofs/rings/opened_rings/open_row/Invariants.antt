use Rattle.eevdf_fleet.specs.{OpenedRings.AreRow, Requests.source_at, Requests.terms_in, RingEnds.lists_of}
use Rattle.eevdf_fleet.proofs.rings.opened_rings.open_row.Given as goal

abbrev pub invariant-loop-home : goal.invariant-loop-home
invariant-loop-home l = AreRow l.capacity (source_at l.board.table_id (terms_in l.board.views) l.homes.items l.sender) l.home l.row.items (lists_of l.initial.columns.items) (lists_of l.columns.items)
