-- A player whose parts are known by equations.
use Rattle.std.proofs.Common.{◌≡◌, ℕ, List, arith}
use Rattle.std.specs.Prelude.{Option}
use Rattle.eevdf_steps.specs.{Callers.Callers, Counters.Counters, Plan.Plan, PostLists.PostList, Recorded.Recorded}

pub same_callers : (w : Callers) (plan : Plan) (counters : Counters) → w.plan ≡ plan → w.counters ≡ counters → w ≡ record { plan = plan; counters = counters }
same_callers w plan counters e f = grind arith

pub with_parts : {w v : Callers} {lists ls : List PostList} {found fs : List (Option ℕ)} {done d : Recorded}
    (P : Callers → List PostList → List (Option ℕ) → Recorded → Type 0) → w ≡ v → lists ≡ ls → found ≡ fs → done ≡ d → P v ls fs d → P w lists found done
with_parts {w} {v} {lists} {ls} {found} {fs} {done} {d} P e f g h there = grind arith
