use Rattle.std.proofs.Common.{◌≡◌, length, map, string_bytes}
use Rattle.eevdf_bench.specs.ProgramWords.{is_among}
use Rattle.eevdf_bench.proofs.program_words.is_among.Given as goal

abbrev pub invariant-words : goal.invariant-words
invariant-words l = is_among l.asked (map string_bytes l.words) ≡ is_among l.asked (map string_bytes l.left)

abbrev pub decreases-words : goal.decreases-words
decreases-words l = length l.left
