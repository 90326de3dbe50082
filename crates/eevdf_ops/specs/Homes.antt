-- The homes that are looked up, as one list.
use Rattle.std.specs.Prelude.{ℕ, List, map}
use Rattle.eevdf_ops.specs.{declared.homes.Homes.Homes, declared.task_spec.TaskSpec.TaskSpec}
use Rattle.eevdf_ops.specs.declared.homes.Homes.TheVariants.{Alone, Of}

abbrev pub homes_in : Homes → List ℕ
homes_in (Alone homes) = homes.now
homes_in (Of tasks) = map (λ (t : TaskSpec). t.home) tasks.now
