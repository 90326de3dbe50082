use Rattle.std.proofs.Common.{rules, ◌≡◌, ℤ, SFits, w64, subst, sym}
use Rattle.std.specs.Prelude.{◌↔◌}
use Rattle.std.proofs.lemmas.Int.{to_z-of_z}
use Rattle.eevdf_queue.specs.{State.State, Candidate.NoneWaits}
use Rattle.eevdf_c.specs.Codes.{absent}
use Rattle.eevdf_c.proofs.calls.pulling.pull.Goals as goal

pub returns-clause-nobody : goal.returns-clause-nobody
returns-clause-nobody c =
    let fits : SFits w64 c.pull_candidate.result = search rules in
    subst (λ (r : ℤ). (r ≡ absent) ↔ NoneWaits c.args.from.now.runnable c.args.from.now.running)
    (sym (to_z-of_z w64 c.pull_candidate.result fits))
    (subst (λ (q : State). (c.pull_candidate.result ≡ absent) ↔ NoneWaits q.runnable q.running) c.from.view_is
    c.pull_candidate.ensures.nobody)
