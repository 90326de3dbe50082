use Rattle.std.proofs.Common.{rules, ◌≡◌}
use Rattle.eevdf_fair_queue.proofs.Keeping.{fair_of}
use Rattle.eevdf_c.specs.Fair as fairs
use Rattle.eevdf_c.proofs.Fair.{run_fair}
use Rattle.eevdf_c.proofs.calls.fair_turns.run.Goals as goal

pub returns-clause-fair : goal.returns-clause-fair
returns-clause-fair c = λ fair.
    let q = c.args.opened.now in
    let b = c.args.bounds.now in
    let is : c.adopted-bounds-inside.result ≡ fairs.run b q c.args.number = search rules in
    fair_of _ _ _ _ c.run-code.ensures.after is (run_fair q b c.args.number fair)
