use Rattle.std.proofs.Common.{◌≡◌, ◌*ℤ◌, ℤ, pos, rules, to_z, of_z, w64, SFits, ap, ◌∙◌}
use Rattle.std.specs.Int.{w128}
use Rattle.std.proofs.lemmas.Int.{to_z-of_z, to_z_pos}
use Rattle.eevdf_weight.proofs.Products.{product_fits}
use Rattle.eevdf_weight.proofs.product.wide_product.Goals as goal

time : (c : goal.After-from-2) → to_z w128 (of_z w128 c.from.result) ≡ c.args.time
time c =
    let fits : SFits w128 c.from.result = search rules in
    to_z-of_z w128 c.from.result fits ∙ c.from.ensures ∙ to_z-of_z w64 c.args.time c.ranges.time

weight : (c : goal.After-from-2) → to_z w128 (of_z w128 c.from-2.result) ≡ pos c.args.weight
weight c =
    let fits : SFits w128 c.from-2.result = search rules in
    to_z-of_z w128 c.from-2.result fits ∙ c.from-2.ensures ∙ to_z_pos w64 c.args.weight c.requires

pub overflow_mul-result : goal.overflow_mul-result
overflow_mul-result c = product_fits _ _ _ _ (time c) (weight c) c.ranges.time c.requires

pub returns : goal.returns
returns c = to_z-of_z w128 _ (overflow_mul-result c) ∙ ap (λ (z : ℤ). z *ℤ to_z w128 (of_z w128 c.from-2.result)) (time c) ∙ ap (λ (z : ℤ). c.args.time *ℤ z) (weight c)
