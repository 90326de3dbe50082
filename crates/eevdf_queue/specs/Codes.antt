-- How values are told apart.
use Rattle.std.specs.Prelude.{ℕ, ℤ, Option, refl}
use Rattle.std.specs.Ordering.{nat_cmp}
use Rattle.std.specs.FinMap as map
use Rattle.std.specs.Coded.{Coded, code_by, coded×, coded_option, coded_ℕ, coded_ℤ}
use Rattle.eevdf_queue.specs.declared.entry.Entry.{Entry}
use Rattle.eevdf_queue.specs.State.{State, Sleeper, TasksAsleep, TasksInTree, View}

-- an entry is stored as nested pairs of its fields
abbrev pub entry_code : Coded Entry
entry_code =
    code_by (ℤ × (ℤ × (ℤ × ℕ))) (coded× coded_ℤ (coded× coded_ℤ (coded× coded_ℤ coded_ℕ)))
    (λ e. (e.v, (e.d, (e.nice, e.slice)))) (λ p. record { v = p.0; d = p.1.0; nice = p.1.1.0; slice = p.1.1.1 }) (λ _. refl)

-- and so is what is kept of a sleeping task
abbrev pub sleeper_code : Coded Sleeper
sleeper_code =
    code_by (ℤ × (ℤ × ℕ)) (coded× coded_ℤ (coded× coded_ℤ coded_ℕ))
    (λ s. (s.lag, (s.nice, s.slice))) (λ p. record { lag = p.0; nice = p.1.0; slice = p.1.1 }) (λ _. refl)

abbrev pub RunnableMap : Type 0
RunnableMap = map.FinMap nat_cmp Entry

abbrev pub AsleepMap : Type 0
AsleepMap = map.FinMap nat_cmp Sleeper

abbrev pub PlaceMap : Type 0
PlaceMap = map.FinMap nat_cmp ℤ

-- a state is stored as nested pairs too
abbrev pub state_code : Coded State
state_code =
    code_by (RunnableMap × (Option ℕ × (AsleepMap × (ℤ × (PlaceMap × ℤ)))))
    (coded× (map.code coded_ℕ entry_code) (coded× (coded_option coded_ℕ)
    (coded× (map.code coded_ℕ sleeper_code) (coded× coded_ℤ (coded× (map.code coded_ℕ coded_ℤ) coded_ℤ)))))
    (λ q. (q.runnable, (q.running, (q.asleep, (q.base, (q.places, q.shift))))))
    (λ p. record { runnable = p.0; running = p.1.0; asleep = p.1.1.0; base = p.1.1.1.0; places = p.1.1.1.1.0; shift = p.1.1.1.1.1 }) (λ _. refl)

abbrev pub tasks_asleep_code : Coded TasksAsleep
tasks_asleep_code =
    code_by (AsleepMap × PlaceMap) (coded× (map.code coded_ℕ sleeper_code) (map.code coded_ℕ coded_ℤ)) (λ w. (w.tasks, w.places)) (λ p. record { tasks = p.0; places = p.1 }) (λ _. refl)

abbrev pub DepthMap : Type 0
DepthMap = map.FinMap nat_cmp ℕ

abbrev pub tasks_in_tree_code : Coded TasksInTree
tasks_in_tree_code =
    code_by (RunnableMap × DepthMap) (coded× (map.code coded_ℕ entry_code) (map.code coded_ℕ coded_ℕ)) (λ w. (w.tasks, w.depths)) (λ p. record { tasks = p.0; depths = p.1 }) (λ _. refl)

abbrev pub view_code : Coded View
view_code =
    code_by (State × (ℕ × DepthMap)) (coded× state_code (coded× coded_ℕ (map.code coded_ℕ coded_ℕ)))
    (λ w. (w.state, (w.pick_depth, w.depths))) (λ p. record { state = p.0; pick_depth = p.1.0; depths = p.1.1 }) (λ _. refl)
