use Rattle.std.proofs.{Common.arith, lemmas.Int.ints, lemmas.Bool.Decides.nat_tests}
use Rattle.eevdf_weight.specs.Weight.{weight_of}
use Rattle.eevdf_ops.proofs.Charges.{charge_of-le}
use Rattle.eevdf_ops.proofs.setup_check.first_deadline.Goals as goal

pub overflow_add-result : goal.overflow_add-result
overflow_add-result c =
    let small = charge_of-le c.args.task.slice (weight_of c.args.task.nice) in
    grind (arith, ints, nat_tests)

pub returns : goal.returns
returns c =
    let small = charge_of-le c.args.task.slice (weight_of c.args.task.nice) in
    grind (arith, ints, nat_tests)
