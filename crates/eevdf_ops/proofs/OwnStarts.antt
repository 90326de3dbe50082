-- The queue of one CPU while the tasks begin at their homes.
use Rattle.std.proofs.Common.{◌≡◌, ℕ, ◌+◌, ◌<◌, ◌≤◌, List, ◌∷◌, drop, length, get_or, replicate, sym, ap, ◌∙◌, arith}
use Rattle.std.proofs.lemmas.List.{drop_all, drop_more, get_or-replicate, get_or-set_same}
use Rattle.eevdf_queue.specs.State.{State, empty_state}
use Rattle.eevdf_ops.specs.declared.task_spec.TaskSpec.{TaskSpec}
use Rattle.eevdf_ops.specs.Machine.{Machine, queue_at, begin, begin_at_homes}
use Rattle.eevdf_ops.proofs.Machines.{length-begun}

-- the queue of a CPU when the tasks from a place of the list on have begun
abbrev pub begun : ℕ → ℕ → List TaskSpec → ℕ → State
begun cpus cpu ts place = queue_at (begin_at_homes place (drop place ts) (replicate cpus empty_state)) cpu

-- no task has begun yet
pub begun-none : (cpus cpu : ℕ) (ts : List TaskSpec) (place : ℕ) → cpu < cpus → length ts ≤ place → begun cpus cpu ts place ≡ empty_state
begun-none cpus cpu ts place here all =
    ap (λ (us : List TaskSpec). queue_at (begin_at_homes place us (replicate cpus empty_state)) cpu) (drop_all place ts all) ∙ get_or-replicate cpus cpu empty_state empty_state here

-- the list from a place on
from-place : (ts : List TaskSpec) (place : ℕ) (t : TaskSpec) → place < length ts → t ≡ get_or ts place t → drop place ts ≡ t ∷ drop (place + 1) ts
from-place ts place t h is = drop_more ts place t h ∙ ap (λ (u : TaskSpec). u ∷ drop (place + 1) ts) (sym is)

-- one task more begins on the CPU
pub begun-here : (cpus cpu : ℕ) (ts : List TaskSpec) (place : ℕ) (t : TaskSpec) → cpu < cpus → place < length ts → t ≡ get_or ts place t → t.home ≡ cpu
    → begun cpus cpu ts place ≡ begin place t (begun cpus cpu ts (place + 1))
begun-here cpus cpu ts place t here h is home =
    let rest : Machine = begin_at_homes (place + 1) (drop (place + 1) ts) (replicate cpus empty_state) in
    let many : length rest ≡ cpus = length-begun cpus (place + 1) (drop (place + 1) ts) in
    ap (λ (us : List TaskSpec). queue_at (begin_at_homes place us (replicate cpus empty_state)) cpu) (from-place ts place t h is)
    ∙ ap (λ (k : ℕ). queue_at (begin_at_homes place (t ∷ drop (place + 1) ts) (replicate cpus empty_state)) k) (sym home)
    ∙ get_or-set_same rest t.home (begin place t (queue_at rest t.home)) empty_state (omega (arith, many, here, home))
    ∙ ap (λ (k : ℕ). begin place t (queue_at rest k)) home
