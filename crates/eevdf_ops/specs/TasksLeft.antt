-- The tasks of a setup that are still to be given, each with its number.
use Rattle.std.specs.{Prelude.ℕ, Prelude.List, List.enumerate_from}
use Rattle.eevdf_ops.specs.{declared.task_spec.TaskSpec.TaskSpec, declared.setup_tasks.SetupTasks.SetupTasks}

abbrev pub tasks_left : SetupTasks → List (ℕ × TaskSpec)
tasks_left s = enumerate_from s.next s.specs.now
