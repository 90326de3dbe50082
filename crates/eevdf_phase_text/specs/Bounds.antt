-- The bounds of a workload of phases.
use Rattle.std.specs.Prelude.{◌≤◌}
use Rattle.eevdf_closed_loop.specs.{declared.plan.Plan.Plan}
use Rattle.eevdf_ops.specs.{Numbers.most_cpus}
use Rattle.eevdf_time_text.specs.Lengths.{most_ns}

-- the machine has a CPU and no more than there may be, and is driven for a time, of a million seconds at most
pub record IsInBounds (plan : Plan) : Type 0 where
  pub some_cpus : 1 ≤ plan.cpus
  pub few_cpus : plan.cpus ≤ most_cpus
  pub some_time : 1 ≤ plan.lasts
  pub no_longer : plan.lasts ≤ most_ns
  pub tick : plan.tick ≤ most_ns
