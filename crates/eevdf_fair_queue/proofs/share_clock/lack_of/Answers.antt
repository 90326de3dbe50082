use Rattle.std.proofs.Common.{◌+◌, ◌-◌, ◌*◌, ◌<◌, ◌≤◌, ◌^◌, arith}
use Rattle.std.proofs.lemmas.Int.{ints}
use Rattle.eevdf_fair_queue.proofs.Parts.{lacking}
use Rattle.eevdf_fair_queue.proofs.share_clock.lack_of.Goals as goal
use Rattle.eevdf_fair_queue.proofs.share_clock.lack_of.Goals.{After-from}

fits : (c : After-from) → c.in-Ok.by * c.from.result + (2 ^ 42 - 1) < 2 ^ 128
fits c =
    let same = c.in-Ok.ensures.1 in
    let few : c.in-Ok.by ≤ 2 ^ 109 = omega (arith, ints, same, c.requires.few) in
    let light : c.from.result ≤ 88761 = omega (arith, c.from.ensures, c.requires.light) in
    lacking c.in-Ok.by c.from.result few light

pub overflow_mul-result : goal.overflow_mul-result
overflow_mul-result c = omega (arith, fits c)

pub overflow_add-result : goal.overflow_add-result
overflow_add-result c = omega (arith, fits (goal.at.overflow_add-result c).After-from)
