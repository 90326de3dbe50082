use Rattle.std.proofs.Common.{arith}
use Rattle.std.proofs.lemmas.Int.{ints}
use Rattle.eevdf_fair_queue.proofs.Parts.{within}
use Rattle.eevdf_fair_queue.proofs.share_clock.beside.Goals as goal

pub returns-clause-value : goal.returns-clause-value
returns-clause-value c =
    omega (arith, ints, within c.args.settled c.requires.kept, c.requires.few, c.parts_of.ensures.value, c.parts_of.ensures.few)

pub returns-clause-few : goal.returns-clause-few
returns-clause-few c =
    omega (arith, ints, within c.args.settled c.requires.kept, c.requires.few, c.parts_of.ensures.few)
