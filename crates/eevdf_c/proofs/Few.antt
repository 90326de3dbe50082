-- How many tasks a queue can have.
use Rattle.std.proofs.Common.{ℕ, ◌^◌, ◌<◌, ◌≤◌, List, [], ◌∷◌, length, arith}
use Rattle.std.specs.FinMap.{len, entries, len-entries}
use Rattle.eevdf_weight.proofs.Weighing.{weight_of-least}
use Rattle.eevdf_queue.specs.{declared.entry.Entry.Entry, Laws.AreSumsSmall, Sums.Tasks, Sums.sum_weights}

few : (es : List (ℕ × Entry)) → length es ≤ sum_weights es
few [] = omega arith
few (e ∷ es) = omega (arith, weight_of-least e.1.nice, few es)

-- each task weighs something, so there are no more than what all weigh together
pub len_small : (tasks : Tasks) → AreSumsSmall tasks → len tasks < 2 ^ 63
len_small tasks h = omega (arith, len-entries tasks, few (entries tasks), h.weight)
