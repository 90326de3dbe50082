-- Where the tasks stand while the callers are at work.
use Rattle.std.specs.Prelude.{◌≡◌, ℕ, ◌+◌, ◌==◌, Bool, true, false, List, [], ◌∷◌, Option, Some, None, MatchOption}
use Rattle.std.specs.FinMap as map
use Rattle.eevdf_queue.specs.State.{Contents}
use Rattle.eevdf_ops.specs.{Machine.queue_at, Places.count, Places.places}
use Rattle.eevdf_steps.specs.{declared.place.Place.Place, Work.Work, Work.hand}
use Rattle.eevdf_steps.specs.declared.place.Place.TheVariants.{Runnable, Asleep, InHand}

abbrev pub is_in_hand : Option Contents → ℕ → Bool
is_in_hand None task = false
is_in_hand (Some p) task = task == p.task

-- in how many hands a task is
abbrev pub hands_with : List (Option Contents) → ℕ → ℕ
hands_with [] task = 0
hands_with (h ∷ hands) task = count (is_in_hand h task) + hands_with hands task

-- in how many places a task stands: among the runnable and the sleeping tasks of the queues, and in the hands
abbrev pub places_of : Work → ℕ → ℕ
places_of w task = places w.machine task + hands_with w.hands task

-- whether a task stands in a place
abbrev pub stands_at : Work → ℕ → Place → Bool
stands_at w task (Runnable cpu) = map.contains_key (queue_at w.machine cpu).runnable task
stands_at w task (Asleep cpu) = map.contains_key (queue_at w.machine cpu).asleep task
stands_at w task (InHand caller) = is_in_hand (hand w caller) task

-- a place in which the task stands, and none where it is counted nowhere
abbrev pub IsPlaceOf : Work → ℕ → ℕ → Option Place → Type 0
IsPlaceOf w task count place = MatchOption place (count ≡ 0) (λ p. stands_at w task p ≡ true)
