use Rattle.std.proofs.Common.{◌∙◌, map, arith, length-set}
use Rattle.rtrb.specs.Ring.{known_items, received}
use Rattle.std.proofs.lemmas.List.{length-map}
use Rattle.eevdf_free_tasks.proofs.Comings.{ends-empty-more, ends-more}
use Rattle.eevdf_free_tasks.proofs.ring_ends.receive_all.Goals as goal

pub loop-sender-preserved : goal.loop-sender-preserved
loop-sender-preserved c = record {
  come = ends-more received c.loop-sender.sender (map received c.args.consumers.now.items) c.loop-sender.consumers.items c.index_mut.result.now c.receive.new.consumer c.index_mut.ensures.value
      (omega (arith, c.loop-sender-test.true, c.len-sender-end.ensures, c.args.consumers.now.ok.0, c.loop-sender.invariant.all))
      (omega (arith, c.loop-sender-test.true, c.len-sender-end.ensures, c.args.consumers.now.ok.0, length-map c.args.consumers.now.items received))
      c.loop-sender.invariant.come c.receive.ensures.come;
  emptied = ends-empty-more known_items c.loop-sender.sender c.loop-sender.consumers.items c.receive.new.consumer c.loop-sender.invariant.emptied c.receive.ensures.emptied;
  all = length-set c.loop-sender.consumers.items c.loop-sender.sender c.receive.new.consumer ∙ c.loop-sender.invariant.all;
}
