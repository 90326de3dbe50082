use Rattle.std.proofs.Common.{◌≤◌, sym, subst, ℕ}
use Rattle.eevdf_weight.specs.Weight.{weights}
use Rattle.eevdf_weight.proofs.Weighing.{table_weight, weight_of-least, weight_of-greatest}
use Rattle.eevdf_weight.proofs.weight_table.weight.Goals as goal

pub returns-clause-value : goal.returns-clause-value
unfolding weights
returns-clause-value c = table_weight c.args.nice c.place.result c.place.ensures.place c.place.ensures.within

pub returns-clause-least : goal.returns-clause-least
unfolding weights
returns-clause-least c =
    subst (λ (w : ℕ). 15 ≤ w)
    (sym (table_weight c.args.nice c.place.result c.place.ensures.place c.place.ensures.within))
    (weight_of-least c.args.nice)

pub returns-clause-greatest : goal.returns-clause-greatest
unfolding weights
returns-clause-greatest c =
    subst (λ (w : ℕ). w ≤ 88761)
    (sym (table_weight c.args.nice c.place.result c.place.ensures.place c.place.ensures.within))
    (weight_of-greatest c.args.nice)
