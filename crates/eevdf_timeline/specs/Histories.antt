-- The history that is drawn of a workload.
use Rattle.std.specs.List.{list_all}
use Rattle.std.specs.Prelude.{◌≡◌, true, List}
use Rattle.eevdf_ops.specs.{declared.deeds.Line.Line, Histories.IsOneThread, Machine.start, Outcome.Outcome}
use Rattle.eevdf_ops.specs.{Programs.deeds_of, Setup.allows, Setup.homes_of}
use Rattle.eevdf_workload.specs.Meaning.{Workload}
use Rattle.eevdf_bench.specs.{declared.command.Kind.Kind, Reports.DoesWorkload}

-- an outcome of the one thread that does the deeds of its lines one after the other, each of which the setup allows, and which are those
-- that the workload asks for
pub record IsOutcomeOf (kind : Kind) (w : Workload) (o : Outcome) : Type 0 where
  pub one_thread : IsOneThread (homes_of w.setup) (start w.setup) (deeds_of o.lines) o
  pub allowed : list_all (allows w.setup) (deeds_of o.lines) ≡ true
  pub does : DoesWorkload kind w o

-- the lines of such an outcome
pub record IsHistoryOf (kind : Kind) (w : Workload) (lines : List Line) : Type 0 where
  pub outcome : Outcome
  pub is : IsOutcomeOf kind w outcome
  pub lines_are : lines ≡ outcome.lines
