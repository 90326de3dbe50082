use Rattle.std.proofs.Common.{List, ◌++◌, ◌∷◌, [], ap, ◌∙◌}
use Rattle.eevdf_clocks.specs.declared.moment.Moment.{Moment}
use Rattle.eevdf_clocks.proofs.MoreLines.{clocks_go_on, moments_go_on}
use Rattle.eevdf_scene.proofs.moments.timed.Goals as goal

pub loop-line-preserved : goal.loop-line-preserved
loop-line-preserved c = record {
  clocks = clocks_go_on c.args.lines.now c.loop-line.line-index c.line-item.result c.loop-line.clocks c.pass-moment.new.self c.loop-line-test.true c.line-item.is c.loop-line.invariant.clocks c.pass-moment.ensures.clocks;
  moments =
      c.in_ok-push.ensures.items
      ∙ ap (λ (ms : List Moment). ms ++ c.pass-moment.result ∷ []) c.loop-line.invariant.moments
      ∙ moments_go_on c.args.lines.now c.loop-line.line-index c.line-item.result c.loop-line.clocks c.pass-moment.result c.loop-line-test.true c.line-item.is c.loop-line.invariant.clocks c.pass-moment.ensures.moment;
}
