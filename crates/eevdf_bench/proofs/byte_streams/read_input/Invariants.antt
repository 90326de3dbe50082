use Rattle.std.proofs.Common.{◌≡◌, ◌≤◌, ◌-◌, false, vec_len}
use Rattle.std.specs.Io.KnownBytes.{Consumes}
use Rattle.eevdf_workload.specs.Meaning.{read_limit}
use Rattle.eevdf_bench.proofs.byte_streams.read_input.Given as goal

abbrev pub invariant-loop-reader : goal.invariant-loop-reader
invariant-loop-reader g l = record {
  within : vec_len l.input ≤ read_limit;
  whole : l.reader.failed ≡ false;
  consumed : Consumes (g.R.Read.remaining l.initial.reader.end) (g.R.Read.remaining l.reader.end) l.input.items;
}

abbrev pub decreases-loop-reader : goal.decreases-loop-reader
decreases-loop-reader g l = read_limit - vec_len l.input
