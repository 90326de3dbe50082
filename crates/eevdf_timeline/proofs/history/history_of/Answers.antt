use Rattle.std.proofs.Common.{List, ap, sym, ◌∙◌}
use Rattle.eevdf_ops.specs.declared.deeds.Line.{Line}
use Rattle.eevdf_clocks.specs.Times.{moments_of}
use Rattle.eevdf_clocks.proofs.MoreLines.{lines_of-moments_of}
use Rattle.eevdf_timeline.proofs.history.history_of.Goals as goal

pub returns-clause-lines : goal.returns-clause-lines
returns-clause-lines g c = record {
  outcome = c.in_ok-outcome.outcome;
  is = c.in_ok-outcome.ensures;
  lines_are = lines_of-moments_of c.history.result.now c.in_ok-moments.moments.items c.in_ok-moments.ensures ∙ c.history.ensures;
}

pub returns-clause-times : goal.returns-clause-times
returns-clause-times g c =
    c.in_ok-moments.ensures
    ∙ ap (λ (ls : List Line). moments_of ls) (sym (lines_of-moments_of c.history.result.now c.in_ok-moments.moments.items c.in_ok-moments.ensures))
