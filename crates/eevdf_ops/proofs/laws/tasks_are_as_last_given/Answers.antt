use Rattle.std.proofs.Common.{◌≡◌, List, subst}
use Rattle.std.specs.Prelude.{None}
use Rattle.eevdf_ops.specs.{declared.task_spec.TaskSpec.TaskSpec, Faults.tasks_fault, Setup.cpus_of}
use Rattle.eevdf_ops.proofs.LastGiven as last
use Rattle.eevdf_ops.proofs.laws.tasks_are_as_last_given.Goals as goal

pub returns : goal.returns
returns c =
    last.tasks_are_as_last_given c.args.setup.now
    (subst (λ (ts : List TaskSpec). tasks_fault (cpus_of c.args.setup.now) 0 ts ≡ None) c.task_specs-tasks.ensures.tasks c.task_specs-tasks.ensures.well)
