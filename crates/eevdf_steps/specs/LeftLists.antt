-- The requests that the callers leave, as a list of one list for each pair.
use Rattle.std.specs.Prelude.{ℕ, ◌*◌, ◌/◌, ◌%◌, List, map}
use Rattle.std.specs.List.{range_with_len}
use Rattle.eevdf_steps.specs.{Plan.Plan, Plan.callers, Requests.Progress, Requests.left}

-- what is left of the pair of a sender and a home, at the place `sender * callers + home`
abbrev pub left_at : Plan → Progress → ℕ → List ℕ
left_at plan g place = left plan g (place / callers plan) (place % callers plan)

abbrev pub left_lists : Plan → Progress → List (List ℕ)
left_lists plan g = map (left_at plan g) (range_with_len 0 (callers plan * callers plan))
