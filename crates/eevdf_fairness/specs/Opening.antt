-- When the queue of a CPU is fresh at the opening of a machine.
use Rattle.std.specs.Prelude.{◌≡◌, ℕ, false, ℤ, List}
use Rattle.std.specs.List.{AllByRecursion}
use Rattle.eevdf_ops.specs.{declared.task_spec.TaskSpec.TaskSpec, Setup.Setup, Machine.queue_at, Machine.start}
use Rattle.eevdf_fairness.specs.Turns.{IsFresh}

-- of the tasks those that begin runnable on a CPU have this start
abbrev pub StartTogether : ℕ → ℤ → List TaskSpec → Type 0
StartTogether cpu v tasks = AllByRecursion (λ (t : TaskSpec). t.home ≡ cpu → t.asleep ≡ false → t.start ≡ v) tasks

-- then its queue is fresh
abbrev pub OpeningIsFresh : Type 0
OpeningIsFresh =
    (s : Setup) (cpu : ℕ) (v : ℤ) → StartTogether cpu v s.tasks → IsFresh v (queue_at (start s) cpu).runnable
