-- The line and the status of each fault.
use Rattle.std.specs.Prelude.{ℕ, List, ◌++◌, codes}
use Rattle.eevdf_ops.specs.declared.setup_fault.SetupFault.{SetupFault}
use Rattle.eevdf_ops.specs.declared.setup_fault.SetupFault.TheVariants as setup
use Rattle.eevdf_workload.specs.{FaultTexts.load_fault_text, declared.load_fault.LoadFault.LoadFault}
use Rattle.eevdf_workload.specs.declared.load_fault.LoadFault.TheVariants as load
use Rattle.eevdf_bench.specs.declared.workbench_fault.BenchFault.{BenchFault}
use Rattle.eevdf_bench.specs.declared.workbench_fault.BenchFault.TheVariants as bench
use Rattle.eevdf_steps.specs.{Texts.play_fault_text, declared.play_fault.PlayFault.PlayFault}
use Rattle.eevdf_steps.specs.declared.play_fault.PlayFault.TheVariants as play
use Rattle.eevdf_fleet.specs.Texts.{run_fault_text}
use Rattle.eevdf_report.specs.Text.{as_line}

abbrev pub bench_fault_text : BenchFault → List ℕ
bench_fault_text (bench.Load fault) = load_fault_text fault
bench_fault_text (bench.Play fault) = play_fault_text fault
bench_fault_text (bench.Run fault) = run_fault_text fault
bench_fault_text bench.Read = codes "reading"
bench_fault_text bench.Write = codes "writing"
bench_fault_text bench.Memory = codes "memory"

abbrev pub fault_line : BenchFault → List ℕ
fault_line fault = codes "fault: " ++ as_line (bench_fault_text fault)

-- 1 where the workload or its order is refused, 3 where memory, a thread, reading or writing failed
abbrev pub setup_status : SetupFault → ℕ
setup_status setup.Memory = 3
setup_status _ = 1

abbrev pub load_status : LoadFault → ℕ
load_status (load.Setup fault) = setup_status fault
load_status load.Memory = 3
load_status _ = 1

abbrev pub play_status : PlayFault → ℕ
play_status play.Memory = 3
play_status _ = 1

abbrev pub status_of : BenchFault → ℕ
status_of (bench.Load fault) = load_status fault
status_of (bench.Play fault) = play_status fault
status_of _ = 3
