-- The sums over the runnable tasks, and the virtual time that they give.
use Rattle.std.specs.Prelude.{ℕ, ◌+◌, ◌==◌, ℤ, pos, ◌+ℤ◌, ◌*ℤ◌, List, [], ◌∷◌, if◌then◌else◌}
use Rattle.std.specs.Ordering.{nat_cmp}
use Rattle.std.specs.FinMap as map
use Rattle.eevdf_weight.specs.{Weight.weight_of, Placement.floor_div}
use Rattle.eevdf_queue.specs.{declared.entry.Entry.Entry, State.State}

-- runnable tasks by number
abbrev pub Tasks : Type 0
Tasks = map.FinMap nat_cmp Entry

-- the sum of the weights
abbrev pub sum_weights : List (ℕ × Entry) → ℕ
sum_weights [] = 0
sum_weights (e ∷ es) = weight_of e.1.nice + sum_weights es

-- the sum of weight times virtual runtime
abbrev pub sum_moments : List (ℕ × Entry) → ℤ
sum_moments [] = pos 0
sum_moments (e ∷ es) = (e.1.v *ℤ pos (weight_of e.1.nice)) +ℤ sum_moments es

abbrev pub total_weight : Tasks → ℕ
total_weight tasks = sum_weights (map.entries tasks)

abbrev pub total_moment : Tasks → ℤ
total_moment tasks = sum_moments (map.entries tasks)

-- the weighted mean of the virtual runtimes over tasks with these sums, rounded down; over none the time that stands
abbrev pub time_over : ℕ → ℤ → ℤ → ℤ
time_over weight moment base = if weight == 0 then base else floor_div moment weight

-- the virtual time of a queue
abbrev pub virtual_time : State → ℤ
virtual_time q = time_over (total_weight q.runnable) (total_moment q.runnable) q.base
