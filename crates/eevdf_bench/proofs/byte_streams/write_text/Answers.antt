use Rattle.std.proofs.Common.{◌-◌, length, drop, arith}
use Rattle.std.proofs.lemmas.List.{length-drop, length-take}
use Rattle.eevdf_bench.proofs.KnownBytes.{appends_front}
use Rattle.eevdf_bench.proofs.byte_streams.write_text.Goals as goal

pub loop-done-preserved : goal.loop-done-preserved
loop-done-preserved g c = record {
  within = omega (arith, c.in_ok-taken.ensures.within, length-drop c.loop-done.done c.args.text.now, length-take (length c.args.text.now - c.loop-done.done) (drop c.loop-done.done c.args.text.now));
  whole = c.in_ok-taken.ensures.whole;
  written = appends_front _ _ _ _ _ _ c.loop-done.invariant.written c.in_ok-taken.ensures.written;
}
