use Rattle.std.proofs.Common.{◌≡◌, List, subst}
use Rattle.std.specs.Prelude.{None}
use Rattle.eevdf_ops.specs.{declared.task_spec.TaskSpec.TaskSpec, Faults.tasks_fault, Setup.cpus_of}
use Rattle.eevdf_ops.proofs.StartingPlaces.{start-placed, homes-cpus}
use Rattle.eevdf_ops.proofs.laws.start_is_placed.Goals as goal
use Rattle.eevdf_ops.proofs.laws.start_is_placed.Goals.{After-task_specs-tasks}

well : (c : After-task_specs-tasks) → tasks_fault (cpus_of c.args.setup.now) 0 c.args.setup.now.tasks ≡ None
well c = subst (λ (ts : List TaskSpec). tasks_fault (cpus_of c.args.setup.now) 0 ts ≡ None) c.task_specs-tasks.ensures.tasks c.task_specs-tasks.ensures.well

pub returns-clause-placed : goal.returns-clause-placed
returns-clause-placed c = start-placed (cpus_of c.args.setup.now) c.args.setup.now.tasks (well c)

pub returns-clause-cpus : goal.returns-clause-cpus
returns-clause-cpus c = homes-cpus (cpus_of c.args.setup.now) 0 c.args.setup.now.tasks (well c)
