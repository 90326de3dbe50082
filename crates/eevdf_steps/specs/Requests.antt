-- Wakes that are posted from one CPU to another, and those that were taken there.
use Rattle.std.specs.Prelude.{ℕ, ◌+◌, ◌*◌, ◌==◌, List, [], ◌∷◌, ◌++◌, drop, replicate, slice_get, slice_index_or, slice_set, if◌then◌else◌, Option, Some, None}
use Rattle.eevdf_steps.specs.{declared.micro.Micro.Micro, declared.plan.Step.Step, Orders.counters_at_start}
use Rattle.eevdf_steps.specs.declared.micro.Micro.TheVariants.{Take, Settle, Post}
use Rattle.eevdf_steps.specs.Plan.{Plan, callers, home, pair}
use Rattle.eevdf_steps.specs.Counters.{Counters, counted, done_by, step_next}

-- the request that a step posts to a home
abbrev pub post_to : Plan → ℕ → Micro → List ℕ
post_to plan cpu (Post task) = if home plan task == cpu then task ∷ [] else []
post_to plan cpu _ = []

-- the requests that steps post to a home, in order
abbrev pub posts_to : Plan → ℕ → List Step → List ℕ
posts_to plan cpu [] = []
posts_to plan cpu (s ∷ ss) = post_to plan cpu s.micro ++ posts_to plan cpu ss

-- the requests that a sender has posted to a home
abbrev pub posted : Plan → Counters → ℕ → ℕ → List ℕ
posted plan counters sender cpu = posts_to plan cpu (done_by plan counters sender)

-- how far the callers have come, how many requests were taken of each pair of a sender and a home, and the
-- request that each caller has found and not settled
pub record Progress : Type 0 where
  pub counters : Counters
  pub taken : List ℕ
  pub found : List (Option ℕ)

abbrev pub progress_at_start : Plan → Progress
progress_at_start plan = record {
  counters = counters_at_start plan;
  taken = replicate (callers plan * callers plan) 0;
  found = replicate (callers plan) None;
}

abbrev pub taken_of : Plan → Progress → ℕ → ℕ → ℕ
taken_of plan g sender cpu = slice_index_or g.taken (pair plan sender cpu) 0

-- the oldest request from a sender to a home that wasn't taken yet
abbrev pub oldest : Plan → Progress → ℕ → ℕ → Option ℕ
oldest plan g sender cpu = slice_get (posted plan g.counters sender cpu) (taken_of plan g sender cpu)

-- the requests that were posted and not taken
abbrev pub left : Plan → Progress → ℕ → ℕ → List ℕ
left plan g sender cpu = drop (taken_of plan g sender cpu) (posted plan g.counters sender cpu)

abbrev pub found_by : Progress → ℕ → Option ℕ
found_by g caller = slice_index_or g.found caller None

-- a caller takes a request of a sender, where there is one
abbrev pub takes : Plan → Progress → ℕ → ℕ → Option ℕ → Progress
takes plan g caller sender None = record g { found = slice_set g.found caller None }
takes plan g caller sender (Some task) = record g {
  taken = slice_set g.taken (pair plan sender caller) (taken_of plan g sender caller + 1);
  found = slice_set g.found caller (Some task);
}

-- what a step of a caller takes or settles
abbrev pub requested : Plan → Progress → ℕ → Micro → Progress
requested plan g caller (Take sender) = takes plan g caller sender (oldest plan g sender caller)
requested plan g caller (Settle sender) = record g { found = slice_set g.found caller None }
requested plan g caller _ = g

abbrev pub progress_by : Plan → Progress → ℕ → Option Step → Progress
progress_by plan g caller None = g
progress_by plan g caller (Some s) = record (requested plan g caller s.micro) { counters = counted g.counters caller }

-- the progress after the next step of a caller
abbrev pub progress_step : Plan → Progress → ℕ → Progress
progress_step plan g caller = progress_by plan g caller (step_next plan g.counters caller)

-- and after an order
abbrev pub progress_after : Plan → Progress → List ℕ → Progress
progress_after plan g [] = g
progress_after plan g (p ∷ order) = progress_after plan (progress_step plan g p) order
