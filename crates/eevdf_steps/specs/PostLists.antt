-- The requests from one CPU to another, as they are kept.
use Rattle.std.specs.Prelude.{◌≡◌, ℕ, ◌+◌, ◌*◌, ◌<◌, ◌≤◌, nat_lt, Bool, true, List, [], ◌∷◌, ◌++◌, map, length, is_some, slice_get, slice_index_or, slice_set, if◌then◌else◌, Option, None}
use Rattle.eevdf_steps.specs.declared.micro.Micro.{Micro}
use Rattle.eevdf_steps.specs.{MicroSteps.steps_by, Counters.Counters, Requests.Progress, Requests.posted, Requests.posts_to}
use Rattle.eevdf_steps.specs.declared.micro.Micro.TheVariants.{Take, Settle, Post}
use Rattle.eevdf_steps.specs.Plan.{Plan, callers, home, pair}

-- the requests that were posted, how many of them were taken, and for how many there is room
pub record PostList : Type 0 where
  pub posted : List ℕ
  pub taken : ℕ
  pub room : ℕ

abbrev pub no_posts : PostList
no_posts = record { posted = []; taken = 0; room = 0 }

abbrev pub posted_more : PostList → ℕ → PostList
posted_more l task = record l { posted = l.posted ++ task ∷ [] }

-- the oldest request that wasn't taken yet
abbrev pub oldest_in : PostList → Option ℕ
oldest_in l = slice_get l.posted l.taken

abbrev pub taken_more : PostList → PostList
taken_more l = if is_some (oldest_in l) then record l { taken = l.taken + 1 } else l

abbrev pub list_at : List PostList → ℕ → PostList
list_at lists place = slice_index_or lists place no_posts

-- the place of the list that a step of a caller reads or adds to
abbrev pub place_of : Plan → ℕ → Micro → ℕ
place_of plan caller (Take sender) = pair plan sender caller
place_of plan caller (Post task) = pair plan caller (home plan task)
place_of plan caller _ = 0

-- a request that a step posts has room in a list
abbrev pub has_room : PostList → Micro → Bool
has_room l (Post task) = nat_lt (length l.posted) l.room
has_room l _ = true

-- the lists after a step that reads or adds to one of them
abbrev pub posts_after : ℕ → Micro → List PostList → List PostList
posts_after place (Take sender) lists = slice_set lists place (taken_more (list_at lists place))
posts_after place (Post task) lists = slice_set lists place (posted_more (list_at lists place) task)
posts_after place _ lists = lists

-- what the caller has found after a step, from what it had found before
abbrev pub request_after : ℕ → Micro → List PostList → Option ℕ → Option ℕ
request_after place (Take sender) lists found = oldest_in (list_at lists place)
request_after place (Settle sender) lists found = None
request_after place _ lists found = found

abbrev pub progress_in : Counters → List PostList → List (Option ℕ) → Progress
progress_in counters lists found = record { counters = counters; taken = map (λ (l : PostList). l.taken) lists; found = found }

-- the lists are those that the steps done have posted, with room for all that will be
pub record ArePosted (plan : Plan) (counters : Counters) (lists : List PostList) : Type 0 where
  pub each : length lists ≡ callers plan * callers plan
  pub posted : (q c : ℕ) → q < callers plan → c < callers plan → (list_at lists (pair plan q c)).posted ≡ posted plan counters q c
  pub room : (q c : ℕ) → q < callers plan → c < callers plan → length (posts_to plan c (steps_by plan q)) ≤ (list_at lists (pair plan q c)).room
