use Rattle.std.proofs.Common.{rules, ◌≡◌}
use Rattle.eevdf_fair_queue.proofs.Keeping.{fair_of}
use Rattle.eevdf_c.specs.Fair as fairs
use Rattle.eevdf_c.proofs.Fair.{kept_as, picked_fair}
use Rattle.eevdf_c.proofs.calls.fair_turns.pick.Goals as goal

pub returns-then-code-ge0-clause-fair : goal.returns-then-code-ge0-clause-fair
returns-then-code-ge0-clause-fair c = λ fair.
    let q = c.args.opened.now in
    let b = c.args.bounds.now in
    let is : c.picked-bounds-inside.result ≡ fairs.pick b q = search rules in
    fair_of _ _ _ _ c.pick-code.ensures.after is
    (picked_fair c.pick_is_first.ensures c.pick_of_nobody.ensures q b
    (kept_as _ _ q _ _ c.pick-code.ensures.answer c.pick-code.ensures.after c.pick-code.ensures.kept) fair)
