use Rattle.std.proofs.Common.{rules, ◌≡◌, ℕ, SFits, w64, sym, ◌∙◌}
use Rattle.std.specs.Int.{w128}
use Rattle.std.proofs.lemmas.Int.{to_z-of_z}
use Rattle.eevdf_queue.proofs.Ascending.{numbered}
use Rattle.eevdf_c.specs.Codes.{done}
use Rattle.eevdf_c.proofs.Shares.{lacks_there}
use Rattle.eevdf_c.proofs.calls.shares.bound.Goals as goal

pub returns-in-Some-share_bound-clause-owed : goal.returns-in-Some-share_bound-clause-owed
returns-in-Some-share_bound-clause-owed c = λ is.
    let fits : SFits w64 c.tell.result = search rules in
    let told : c.tell.result ≡ done = sym (to_z-of_z w64 c.tell.result fits) ∙ is in
    let task : c.in-Some.task ≡ c.args.number = numbered c.args.number c.in-Some.task (sym c.new.ensures ∙ c.in-Some.is) in
    let whole : SFits w128 c.value-standing.result = search rules in
    let mark = to_z-of_z w128 c.value-standing.result whole ∙ c.value-standing.ensures in
    lacks_there c.args.mark.now c.shares.view_is c.opened.view_is task mark (c.tell.ensures.whole told) c.in-Some-share_bound.ensures.owed
