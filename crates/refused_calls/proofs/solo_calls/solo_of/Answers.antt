use Rattle.std.proofs.Common.{◌≡◌, true, subst, sym}
use Rattle.std.specs.List.{list_all}
use Rattle.eevdf_ops.specs.Setup.{Setup, allows}
use Rattle.eevdf_bench.proofs.EngineAnswers.{script_allowed}
use Rattle.refused_calls.proofs.solo_calls.solo_of.Goals as goal

pub solo-requires : goal.solo-requires
solo-requires c =
    subst (λ (s : Setup). list_all (allows s) c.in-Some.deeds.now ≡ true) (sym c.setup.ensures)
    (script_allowed c.args.workload.now.setup c.args.workload.now.script c.in-Some.deeds.now c.in-Some.ensures.deeds c.in-Some.ensures.allowed)
