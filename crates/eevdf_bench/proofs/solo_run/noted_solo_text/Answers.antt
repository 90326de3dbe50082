use Rattle.std.proofs.Common.{◌≡◌, ◌∙◌, true, subst, sym}
use Rattle.std.specs.List.{list_all}
use Rattle.eevdf_ops.specs.Setup.{Setup, allows}
use Rattle.eevdf_bench.proofs.{EngineAnswers.script_allowed, SoloAnswers.script_refused, SoloAnswers.script_report}
use Rattle.eevdf_bench.proofs.solo_run.noted_solo_text.Goals as goal

pub solo-requires : goal.solo-requires
solo-requires c =
    subst (λ (s : Setup). list_all (allows s) c.in-Some.deeds.now ≡ true) (sym c.setup.ensures)
    (script_allowed c.args.workload.now.setup c.args.workload.now.script c.in-Some.deeds.now c.in-Some.ensures.deeds c.in-Some.ensures.allowed)

pub returns-clause-one_thread : goal.returns-clause-one_thread
returns-clause-one_thread c =
    script_report c.args.workload.now c.args.form c.setup.result.now c.in-Some.deeds.now c.in_ok-text.text.items c.in_ok-outcome.outcome c.in-Some.ensures.deeds c.setup.ensures
    (script_allowed c.args.workload.now.setup c.args.workload.now.script c.in-Some.deeds.now c.in-Some.ensures.deeds c.in-Some.ensures.allowed)
    c.in_ok-outcome.ensures.lines c.in_ok-outcome.ensures.machine c.in_ok-outcome.ensures.places c.in_ok-text.ensures

pub returns-clause-refused : goal.returns-clause-refused
returns-clause-refused c =
    script_refused c.args.workload.now c.setup.result.now c.in-Some.deeds.now _ _ c.in-Some.ensures.deeds c.setup.ensures
    (c.history.ensures ∙ c.in_ok-outcome.ensures.lines) c.of.ensures.first
