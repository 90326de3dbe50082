use Rattle.std.proofs.Common.{rules, ◌≡◌, true, false, SFits, w64, ap, sym}
use Rattle.eevdf_queue.specs.{Offers.offer, Trying.is_here}
use Rattle.eevdf_queue.proofs.Joining.{sleeper_read}
use Rattle.eevdf_c.specs.Codes.{out_of_range}
use Rattle.eevdf_c.specs.Pulls.{Outcome, is_lighter, none_comes, pull}
use Rattle.eevdf_c.proofs.Pulling.{no_room}
use Rattle.eevdf_c.proofs.calls.pulling.pull_candidate.Goals as goal

-- the candidate can't be placed
outcome : (c : goal.Then-not-can_place)
    → none_comes c.args.to.now.state c.args.from.now.state out_of_range ≡ pull c.args.to.now.state c.args.from.now.state
outcome c =
    let q = c.args.to.now.state in let source = c.args.from.now.state in let p = c.in-Some.offer in
    let fits : SFits w64 c.lag.result = search rules in
    let brought =
    sleeper_read p c.lag.result c.nice-2.result c.slice.result fits c.lag.ensures.value c.nice-2.ensures c.slice.ensures in
    let light : is_lighter q p source ≡ true = search rules in
    let absent : is_here q p.task ≡ false = search rules in
    no_room q source (offer source) p _ (record { is_offered = sym c.in-Some.ensures.value; is_light = light; is_absent = absent })
    brought (sym c.if-not-can_place.ensures)

pub returns-then-not-can_place-clause-answer : goal.returns-then-not-can_place-clause-answer
returns-then-not-can_place-clause-answer c = ap (λ (o : Outcome). o.answer) (outcome c)

pub returns-then-not-can_place-clause-to : goal.returns-then-not-can_place-clause-to
returns-then-not-can_place-clause-to c = ap (λ (o : Outcome). o.to) (outcome c)

pub returns-then-not-can_place-clause-from : goal.returns-then-not-can_place-clause-from
returns-then-not-can_place-clause-from c = ap (λ (o : Outcome). o.from) (outcome c)
