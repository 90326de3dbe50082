-- How many lines the history can still get.
use Rattle.std.specs.Prelude.{ℕ, zero, suc, ◌+◌, ◌-◌, List, [], ◌∷◌, length, drop, is_some, Option}
use Rattle.std.specs.List.{sum_by}
use Rattle.eevdf_ops.specs.Places.{count}
use Rattle.eevdf_steps.specs.{declared.micro.Micro.Micro, declared.plan.Step.Step}
use Rattle.eevdf_steps.specs.{declared.micro.Micro.TheVariants.Commit, declared.micro.Micro.TheVariants.Post, Plan.Plan}
use Rattle.eevdf_steps.specs.{Plan.callers, MicroSteps.steps_by, Counters.Counters, Counters.count_of, PostLists.PostList}

-- the lines that can come of a step that is still to be done: of a commit its own, of a post that of the wake
abbrev pub lines_of : Micro → ℕ
lines_of Commit = 1
lines_of (Post task) = 1
lines_of _ = 0

abbrev pub lines_in : List Step → ℕ
lines_in [] = 0
lines_in (s ∷ ss) = lines_of s.micro + lines_in ss

-- the same of all the steps that a caller has still to do
abbrev pub lines_left : Plan → Counters → ℕ → ℕ
lines_left plan counters caller = lines_in (drop (count_of counters caller) (steps_by plan caller))

-- the sum of a function over so many numbers from one on
abbrev pub sum_from : (ℕ → ℕ) → ℕ → ℕ → ℕ
sum_from f from zero = 0
sum_from f from (suc n) = f from + sum_from f (from + 1) n

-- and of all the callers' steps
abbrev pub steps_to_come : Plan → Counters → ℕ
steps_to_come plan counters = sum_from (lines_left plan counters) 0 (callers plan)

-- how many requests were posted and not taken
abbrev pub waiting_in : PostList → ℕ
waiting_in l = length l.posted - l.taken

abbrev pub waiting : List PostList → ℕ
waiting lists = sum_by waiting_in lists

-- how many requests were found and not settled
abbrev pub unsettled : List (Option ℕ) → ℕ
unsettled found = sum_by (λ (f : Option ℕ). count (is_some f)) found

-- the lines that can still come: of the steps to be done, of the requests that wait, and of those that were found
abbrev pub lines_to_come : Plan → Counters → List PostList → List (Option ℕ) → ℕ
lines_to_come plan counters lists found = steps_to_come plan counters + waiting lists + unsettled found
