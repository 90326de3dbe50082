use Rattle.std.proofs.Common.{rules, to_z, of_z, w64}
use Rattle.std.specs.Int.{w128}
use Rattle.eevdf_weight.specs.Weight.{weight_of}
use Rattle.eevdf_queue.proofs.Ageing.{aged_sum}
use Rattle.eevdf_queue.proofs.tree.totals_edit.aged_moment.Goals as goal

pub returns : goal.returns
returns c =
    aged_sum c.args.older.now.v c.args.newer.now.v c.args.totals.now.moment (to_z w128 (of_z w128 c.grown.result)) c.product.result (to_z w64 (of_z w64 c.distance.result))
    (weight_of c.args.older.now.nice) c.weight.result
    c.product.ensures.value (search rules) (search rules) (search rules)
