use Rattle.std.proofs.Common.{◌≡◌, ◌<◌, ◌^◌, drop, length}
use Rattle.eevdf_workload.specs.Words.{number_on, words}
use Rattle.eevdf_workload.proofs.reading.number_text.split_digits.Given as goal

abbrev pub invariant-digits : goal.invariant-digits
invariant-digits l =
    (number_on 0 (words l.text) ≡ number_on l.number (words l.left))
    × (drop 1 (words l.text) ≡ drop 1 (words l.left))
    × (l.number < 2 ^ 64)

abbrev pub decreases-digits : goal.decreases-digits
decreases-digits l = length l.left
