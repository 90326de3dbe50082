use Rattle.std.proofs.Common.{arith}
use Rattle.eevdf_workload.specs.Meaning.{read_limit}
use Rattle.eevdf_bench.proofs.KnownBytes.{IsReadUpTo, read_front, read_end, within_both}
use Rattle.eevdf_bench.proofs.byte_streams.read_input.Given.{Over}
use Rattle.eevdf_bench.proofs.byte_streams.read_input.Goals as goal
use Rattle.eevdf_bench.proofs.byte_streams.read_input.Goals.{Left-loop-reader, else-loop-reader-test, then-loop-reader-test+in_ok-count+then-count-eq0}

read : (g : Over) (c : Left-loop-reader g)
    → IsReadUpTo read_limit (g.R.Read.remaining c.args.reader.now.end) (g.R.Read.remaining c.loop-reader-test.reader.end) c.loop-reader-test.input.items
read g c =
    elim c.loop-reader-test.branch [
      | else-loop-reader-test w ↦
          rw (w.input-is, w.reader-is)
          (read_front _ _ _ read_limit c.loop-reader.invariant.consumed (omega (arith, c.loop-reader.input.ok.0, c.loop-reader.invariant.within, w.loop-reader-test.false, c.len.ensures)))
      | then-loop-reader-test+in_ok-count+then-count-eq0 w ↦
          rw (w.input-is, w.reader-is)
          (read_end _ _ _ _ _ _ read_limit c.loop-reader.invariant.consumed w.in_ok-count.ensures.piece w.if-count-eq0.true (omega (arith, w.read_more.new.input.ok.0, w.in_ok-count.ensures.limit)))
    ]

pub returns-clause-bytes : goal.returns-clause-bytes
returns-clause-bytes g c = rw c.shrink_to_fit.ensures.items (read g (goal.at.returns-clause-bytes g c).Left-loop-reader).0

pub returns-clause-consumed : goal.returns-clause-consumed
returns-clause-consumed g c = (read g (goal.at.returns-clause-consumed g c).Left-loop-reader).1

pub returns-in_err-count-clause-limit : goal.returns-in_err-count-clause-limit
returns-in_err-count-clause-limit g c =
    within_both _ _ _ c.loop-reader.input.items _ read_limit c.loop-reader.invariant.consumed c.read_more.ensures.within
    (omega (arith, c.loop-reader.input.ok.0, c.loop-reader.invariant.within))
