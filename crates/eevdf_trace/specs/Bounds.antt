-- The bounds of a plan that is made of a trace.
use Rattle.std.specs.Prelude.{◌≡◌, ◌≤◌}
use Rattle.eevdf_closed_loop.specs.{declared.plan.Plan.Plan}
use Rattle.eevdf_ops.specs.{Numbers.most_cpus}
use Rattle.eevdf_time_text.specs.Lengths.{most_ns}

-- the machine has a CPU and no more than there may be, is driven for a time, of a million seconds at most, and has no clock that ticks
pub record IsTraced (plan : Plan) : Type 0 where
  pub some_cpus : 1 ≤ plan.cpus
  pub few_cpus : plan.cpus ≤ most_cpus
  pub some_time : 1 ≤ plan.lasts
  pub no_longer : plan.lasts ≤ most_ns
  pub no_tick : plan.tick ≡ 0
