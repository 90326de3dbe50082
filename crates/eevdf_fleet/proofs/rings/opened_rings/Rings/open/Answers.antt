use Rattle.std.proofs.Common.{◌≡◌, ℕ, List, length, sym, ap, subst, arith}
use Rattle.atomic_table.specs.declared.badge.Badge.{Badge}
use Rattle.eevdf_fleet.specs.{declared.board.claims.View.View, OpenedRings.AreOpened, Requests.source_at, Requests.terms_in, RingEnds.lists_of}
use Rattle.eevdf_fleet.proofs.RingOpenings.{opened-more, opened-none}
use Rattle.eevdf_fleet.proofs.rings.opened_rings.Rings.open.Goals as goal

pub loop-sender-init : goal.loop-sender-init
loop-sender-init c = record {
  count = c.in_ok-producers.ensures.len;
  opened = rw (c.in_ok-producers.ensures.items, c.in_ok-consumers.ensures)
      (opened-none c.args.capacity (source_at c.args.board.now.table_id (terms_in c.args.board.now.views) c.args.homes.now.items) c.args.cpus);
}

pub loop-sender-preserved : goal.loop-sender-preserved
loop-sender-preserved c = record {
  count = omega (arith, c.in_ok-push.ensures.len);
  opened = opened-more _ _ _ c.loop-sender.invariant.opened (rw (← c.loop-sender.producers.ok.0, c.loop-sender.invariant.count) c.in_ok-open_row.ensures) c.in_ok-push.ensures.items;
}

pub invariant_of-result : goal.invariant_of-result
invariant_of-result c =
    let all : c.args.cpus ≡ length c.loop-sender.producers.items = omega (arith, c.loop-sender-test.false, c.loop-sender.auto.sender-end, c.loop-sender.invariant.count, c.loop-sender.producers.ok.0) in
    subst (λ (b : Badge View). AreOpened c.args.capacity (source_at b.table_id (terms_in b.views) c.of.result.value.items) (length c.loop-sender.producers.items) (lists_of c.loop-sender.producers.items) (lists_of c.loop-sender.consumers.items)) (sym c.of-2.ensures)
    (subst (λ (hs : List ℕ). AreOpened c.args.capacity (source_at c.args.board.now.table_id (terms_in c.args.board.now.views) hs) (length c.loop-sender.producers.items) (lists_of c.loop-sender.producers.items) (lists_of c.loop-sender.consumers.items)) (ap (λ v. v.items) (sym c.of.ensures))
    (subst (λ (n : ℕ). AreOpened c.args.capacity (source_at c.args.board.now.table_id (terms_in c.args.board.now.views) c.args.homes.now.items) n (lists_of c.loop-sender.producers.items) (lists_of c.loop-sender.consumers.items)) all c.loop-sender.invariant.opened))
