use Rattle.std.proofs.Common.{◌≡◌, true, subst, sym}
use Rattle.std.specs.List.{list_all}
use Rattle.eevdf_ops.specs.Setup.{Setup, allows}
use Rattle.eevdf_bench.proofs.EngineAnswers.{script_allowed}
use Rattle.eevdf_timeline.proofs.Outcomes.{script_done}
use Rattle.eevdf_timeline.proofs.history.script_outcome.Goals as goal

pub solo-requires : goal.solo-requires
solo-requires c =
    subst (λ (s : Setup). list_all (allows s) c.in-Some.deeds.now ≡ true) (sym c.setup.ensures)
    (script_allowed c.args.workload.now.setup c.args.workload.now.script c.in-Some.deeds.now c.in-Some.ensures.deeds c.in-Some.ensures.allowed)

pub returns : goal.returns
returns c =
    script_done c.args.workload.now c.setup.result.now c.in-Some.deeds.now c.in_ok-outcome.outcome c.in-Some.ensures.deeds c.setup.ensures
    (script_allowed c.args.workload.now.setup c.args.workload.now.script c.in-Some.deeds.now c.in-Some.ensures.deeds c.in-Some.ensures.allowed)
    c.in_ok-outcome.ensures.lines c.in_ok-outcome.ensures.machine
