-- What the engine answers for a command, and what it leaves of its reader and of its writer.
use Rattle.std.specs.Prelude.{◌≡◌, ◌≢◌, Bool, true, false, List, ℕ, Option, IfSome, Result, Err, IfErr, OnOk}
use Rattle.eevdf_fleet.specs.declared.run_fault.RunFault.TheVariants.{Start}
use Rattle.eevdf_workload.specs.Meaning.{read_limit}
use Rattle.eevdf_bench.specs.{declared.command.Command.Command, declared.command.Kind.TheVariants.Run as ByThreads}
use Rattle.eevdf_bench.specs.declared.workbench_fault.BenchFault.{BenchFault, TheVariants.Run, TheVariants.Read, TheVariants.Write, TheVariants.Memory}
use Rattle.eevdf_bench.specs.{Reports.WritesReport, Runs.Begins, Runs.IsAnswerOf, Runs.Refuses, Runs.Writes}
use Rattle.eevdf_bench.specs.{Streams.ReadsTo, Streams.ReadsWithin, Watch.Watch}

-- a command was carried out on what was left of a reader, for a writer that held something, if they tell what: before and after
pub record CarriesOut {R W : Type 0} (command : Command) (result : Result (Unit {0}) BenchFault) (left left' held held' : Option (List ℕ)) (reader' : Watch R)
    (writer writer' : Watch W) : Type 0 where
  pub report : OnOk result (IfSome left (λ input. Writes (IsAnswerOf command input) held held'))
  pub one_thread : OnOk result (IfSome left (λ input. WritesReport command input held held'))
  pub refused : IfErr result (λ f. IfSome left (λ input. Refuses (IsAnswerOf command input) f))
  pub thread : result ≡ Err (Run Start) → command.kind ≡ ByThreads
  pub begun : result ≡ Err Write → IfSome left (λ input. Begins (IsAnswerOf command input) writer'.flush_failed held held')
  pub consumed : result ≢ Err Read → result ≢ Err Memory → ReadsTo read_limit left left'
  pub limit : ReadsWithin read_limit left left'
  pub read_whole : OnOk result (reader'.failed ≡ false)
  pub written_whole : OnOk result (writer'.failed ≡ false)
  pub flushed : OnOk result (writer'.flushed ≡ true)
  pub read : result ≡ Err Read → reader'.failed ≡ true
  pub unfailed : IfErr result (λ f. f ≢ Read → reader'.failed ≡ false)
  pub write : result ≡ Err Write → writer'.failed ≡ true
  pub unwritten : IfErr result (λ f. f ≢ Write → writer' ≡ writer)
