-- How deep the descent of a pick goes.
use Rattle.std.specs.Prelude.{◌≡◌, ℕ, ◌+◌, ◌/◌, ◌^◌, ◌≤◌, ⊤, List, map, slice_index_or, MatchOption}
use Rattle.std.specs.FinMap as finite
use Rattle.eevdf_queue.specs.{State.State, State.View, Pick.pick_of}
use Rattle.eevdf_ops.specs.{declared.acts.LocalAct.LocalAct, declared.deeds.Deed.Deed, Machine.Machine, Machine.queue_at}
use Rattle.eevdf_ops.specs.declared.acts.LocalAct.TheVariants as local
use Rattle.eevdf_ops.specs.declared.deeds.Deed.TheVariants.{Pick}

-- none where nobody is runnable, else at least one, and with n runnable tasks k such that 2 ^ (k / 2) is at most n + 1
abbrev pub IsPickDepth : State → ℕ → Type 0
IsPickDepth q depth =
    MatchOption (pick_of q.runnable) (depth ≡ 0) (λ _. (1 ≤ depth) × (2 ^ (depth / 2) ≤ finite.len q.runnable + 1))

-- an act that is a pick has set it; of another one nothing is said
abbrev pub HasActDepth : LocalAct → State → ℕ → Type 0
HasActDepth local.Pick q depth = IsPickDepth q depth
HasActDepth other q depth = ⊤

-- the depth of the last pick of each queue
abbrev pub depths_of : List View → List ℕ
depths_of queues = map (λ (q : View). q.pick_depth) queues

-- and of that of one CPU
abbrev pub depth_at : List View → ℕ → ℕ
depth_at queues cpu = slice_index_or (depths_of queues) cpu 0

-- a pick has set the depth of its CPU's queue; of another deed nothing is said
abbrev pub HasPickDepth : Machine → Deed → List View → Type 0
HasPickDepth m (Pick cpu) queues = IsPickDepth (queue_at m cpu) (depth_at queues cpu)
HasPickDepth m other queues = ⊤
