-- What the text of a command says: a history of one thread that does what the workload asks for.
use Rattle.std.specs.{List.list_all, Io.KnownBytes.Appends}
use Rattle.std.specs.Prelude.{◌≡◌, ℕ, Bool, true, List, Option, Some, Ok}
use Rattle.eevdf_ops.specs.{Followed.FollowsPrograms, Histories.IsOneThread, Machine.start, Outcome.Outcome, Outcome.machine_of}
use Rattle.eevdf_ops.specs.{OwnRequests.TakesOwnRequests, Places.IsPlaced, Programs.deeds_of, Setup.allows, Setup.homes_of}
use Rattle.eevdf_steps.specs.{Plan.plan_of, Orders.IsWhole, Orders.counters_at_start, Commits.deeds_committed}
use Rattle.eevdf_bench.specs.{declared.command.Command.Command, declared.command.Kind.Kind}
use Rattle.eevdf_bench.specs.declared.command.Kind.TheVariants.{Solo, Replay, Run}
use Rattle.eevdf_workload.specs.Meaning.{Workload, meaning}
use Rattle.eevdf_report.specs.{TextReport.report_text, declared.form.Form.Form}

-- the workload's order is lawful and complete, the deeds of the lines are those that it commits, and they follow the programs
pub record IsPlayed (w : Workload) (o : Outcome) : Type 0 where
  pub order : List ℕ
  pub listed : w.order ≡ Some order
  pub whole : IsWhole (plan_of w.setup) (counters_at_start (plan_of w.setup)) order
  pub deeds : deeds_of o.lines ≡ deeds_committed w.setup order
  pub programs : FollowsPrograms w.setup o

-- the lines follow the programs, and each drain has taken the oldest request that its program had posted to its own CPU and that
-- waited, if there was one
pub record IsRun (w : Workload) (o : Outcome) : Type 0 where
  pub programs : FollowsPrograms w.setup o
  pub own : TakesOwnRequests w.setup o

-- what the lines have to do with the workload: they do its script, or its order, or else its programs
abbrev pub DoesWorkload : Kind → Workload → Outcome → Type 0
DoesWorkload Solo w o = w.script ≡ Some (deeds_of o.lines)
DoesWorkload Replay w o = IsPlayed w o
DoesWorkload Run w o = IsRun w o

-- the text is the report of an outcome: that of one thread that does the deeds of its lines one after the other, each as a whole
-- operation that the setup allows; after them each task stands in one place, and the lines do what the workload asks for
pub record IsReport (kind : Kind) (w : Workload) (form : Form) (text : List ℕ) : Type 0 where
  pub outcome : Outcome
  pub one_thread : IsOneThread (homes_of w.setup) (start w.setup) (deeds_of outcome.lines) outcome
  pub allowed : list_all (allows w.setup) (deeds_of outcome.lines) ≡ true
  pub places : IsPlaced (homes_of w.setup) (machine_of outcome.queues)
  pub does : DoesWorkload kind w outcome
  pub says : text ≡ report_text outcome.lines (machine_of outcome.queues) outcome.left form

-- the same of the bytes of a workload
pub record IsReportOf (c : Command) (input text : List ℕ) : Type 0 where
  pub workload : Workload
  pub means : meaning input ≡ Ok workload
  pub report : IsReport c.kind workload c.form text

-- and the text was written after what was there
pub record WritesReport (c : Command) (input : List ℕ) (held held' : Option (List ℕ)) : Type 0 where
  pub text : List ℕ
  pub report : IsReportOf c input text
  pub written : Appends held held' text
