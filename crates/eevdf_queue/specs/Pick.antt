-- Which task is picked: the eligible one of earliest virtual deadline, ties by number.
use Rattle.std.specs.Prelude.{◌≡◌, ℕ, ◌≤◌, ◌⊎◌, Bool, true, ℤ, pos, ◌*ℤ◌, ◌<ℤ◌, int_le, if◌then◌else◌, Option, Some, None, unwrap_or, option_and_then}
use Rattle.std.specs.Option.{option_map}
use Rattle.std.specs.FinMap as map
use Rattle.eevdf_queue.specs.{declared.entry.Entry.Entry, State.State, State.View, Order.earliest}
use Rattle.eevdf_queue.specs.Sums.{Tasks, total_weight, total_moment}

-- the lag isn't negative: the virtual runtime isn't past the weighted mean, compared without rounding
abbrev pub is_eligible_at : ℕ → ℤ → Entry → Bool
is_eligible_at weight moment e = int_le (e.v *ℤ pos weight) moment

abbrev pub is_eligible : Tasks → Entry → Bool
is_eligible tasks e = is_eligible_at (total_weight tasks) (total_moment tasks) e

-- the task stands among the runnable ones with this entry, and is eligible
pub record Eligible (tasks : Tasks) (task : ℕ) (e : Entry) : Type 0 where
  pub here : map.get tasks task ≡ Some e
  pub owed : is_eligible tasks e ≡ true

-- no later deadline, and among equal deadlines no greater number
abbrev pub IsNoLater : ℕ → Entry → ℕ → Entry → Type 0
IsNoLater t e u f = (e.d <ℤ f.d) ⊎ ((e.d ≡ f.d) × (t ≤ u))

-- the pick: an eligible task such that no eligible task is earlier
pub record IsPick (tasks : Tasks) (task : ℕ) : Type 0 where
  pub entry : Entry
  pub eligible : Eligible tasks task entry
  pub first : (u : ℕ) (f : Entry) → Eligible tasks u f → IsNoLater task entry u f

-- the number of the pick, by a scan
abbrev pub pick_of : Tasks → Option ℕ
pick_of tasks = option_map (λ (a : ℕ × Entry). a.0) (earliest (is_eligible tasks) (map.entries tasks))

-- the deed: the pick runs
abbrev pub picked_by : State → Option ℕ → State
picked_by q None = q
picked_by q (Some t) = record q { running = Some t }

abbrev pub after_pick : State → State
after_pick q = picked_by q (pick_of q.runnable)

-- the same deed without a choice: the task runs that is named, where it is runnable
abbrev pub adopted : State → ℕ → State
adopted q task = if map.contains_key q.runnable task then picked_by q (Some task) else q

-- what is seen of the queue after it: the depth is that of the pick's node, and 0 where there is no pick
abbrev pub view_picked_by : View → Option ℕ → View
view_picked_by w pick = record {
  state = picked_by w.state pick;
  pick_depth = unwrap_or (option_and_then (map.get w.depths) pick) 0;
  depths = w.depths;
}

abbrev pub view_after_pick : View → View
view_after_pick w = view_picked_by w (pick_of w.state.runnable)
