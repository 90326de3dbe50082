-- What a player reserves when it opens.
use Rattle.std.specs.Prelude.{◌≡◌, ℕ, ◌+◌, ◌*◌, ◌/◌, ◌%◌, ◌<◌, List, [], length, slice_index, slice_set}
use Rattle.std.specs.List.{sum_by}
use Rattle.eevdf_ops.specs.{declared.deeds.Op.Op, Programs.posts_in}
use Rattle.eevdf_ops.specs.declared.deeds.Op.TheVariants as op
use Rattle.eevdf_steps.specs.Plan.{Plan, callers, home, program}
use Rattle.eevdf_steps.specs.PostLists.{PostList, list_at}

-- for how many requests there is room at a place: for those that the sender's program posts to the home
abbrev pub room_at : Plan → ℕ → ℕ
room_at plan place = length (posts_in plan.homes (place % callers plan) (program plan (place / callers plan)))

abbrev pub empty_at : Plan → ℕ → PostList
empty_at plan place = record { posted = []; taken = 0; room = room_at plan place }

-- an empty list for each pair of a sender and a home
pub record AreEmpty (plan : Plan) (lists : List PostList) : Type 0 where
  pub each : length lists ≡ callers plan * callers plan
  pub empty : (k : ℕ) → k < callers plan * callers plan → list_at lists k ≡ empty_at plan k

-- for each home how many requests operations post to it
pub record CountPosts (plan : Plan) (ops : List Op) (counts : List ℕ) : Type 0 where
  pub each : length counts ≡ callers plan
  pub count : (cpu : ℕ) → cpu < callers plan → slice_index counts cpu ≡ length (posts_in plan.homes cpu ops)

-- the counts when an operation is counted too
abbrev pub post_counted : Plan → Op → List ℕ → List ℕ
post_counted plan (op.Post task) counts = slice_set counts (home plan task) (slice_index counts (home plan task) + 1)
post_counted plan _ counts = counts

-- the history gets no more lines than the programs have operations
abbrev pub most_lines : Plan → ℕ
most_lines plan = sum_by (λ (ops : List Op). length ops) plan.programs
