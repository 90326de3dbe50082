-- What the program tells of a play.
use Rattle.std.specs.Prelude.{ℕ}
use Rattle.eevdf_closed_loop.specs.declared.stop.Stop.TheVariants as stop
use Rattle.eevdf_closed_loop.specs.{declared.plan.FallAsleep.FallAsleep}
use Rattle.eevdf_closed_loop.specs.declared.plan.FallAsleep.TheVariants as by
use Rattle.eevdf_phases.specs.{declared.ending.Ending.Ending}
use Rattle.eevdf_phases.specs.declared.ending.Ending.TheVariants.{Stopped}
use Rattle.eevdf_workload.specs.{declared.version.Version.Version}
use Rattle.eevdf_workload.specs.declared.version.Version.TheVariants as version

-- the status is 0 where the time is over
abbrev pub status_of : Ending → ℕ
status_of (Stopped stop.Ended) = 0
status_of other = 1

-- dozes are known from version 4 on, and tasks that begin and end from version 3 on
abbrev pub version_with : FallAsleep → Version
version_with by.Sleep = version.Three
version_with by.Doze = version.Four
