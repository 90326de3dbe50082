-- The machine, and how it begins.
use Rattle.std.specs.Prelude.{ℕ, Bool, ◌+◌, pos, List, [], ◌∷◌, if◌then◌else◌, replicate, slice_index_or, slice_set}
use Rattle.std.specs.FinMap as finite
use Rattle.eevdf_queue.specs.State.{State, Contents, empty_state}
use Rattle.eevdf_queue.specs.Moves.{fresh_entry, put_asleep}
use Rattle.eevdf_ops.specs.{declared.task_spec.TaskSpec.TaskSpec, Setup.Setup, Setup.cpus_of}

-- the states of the CPUs' queues, by CPU
abbrev pub Machine : Type 0
Machine = List State

abbrev pub queue_at : Machine → ℕ → State
queue_at m cpu = slice_index_or m cpu empty_state

-- a queue with one task more, asleep or runnable at its start
abbrev pub joined : Bool → Contents → State → State
joined asleep p q =
    if asleep then put_asleep q p
    else record q { runnable = finite.insert q.runnable p.task (fresh_entry p.start p.nice p.slice) }

-- a task before it has run: it has the lag 0
abbrev pub beginner : ℕ → TaskSpec → Contents
beginner task t = record { task = task; nice = t.nice; slice = t.slice; start = t.start; lag = pos 0 }

-- a task joins the queue that it begins in
abbrev pub begin : ℕ → TaskSpec → State → State
begin task t q = joined t.asleep (beginner task t) q

-- each task begins at its home, numbered from a number on
abbrev pub begin_at_homes : ℕ → List TaskSpec → Machine → Machine
begin_at_homes task [] m = m
begin_at_homes task (t ∷ ts) m =
    slice_set (begin_at_homes (task + 1) ts m) t.home (begin task t (queue_at (begin_at_homes (task + 1) ts m) t.home))

-- the machine at the start: each task at its home, and nobody runs
abbrev pub start : Setup → Machine
start s = begin_at_homes 0 s.tasks (replicate (cpus_of s) empty_state)
