-- What the workbench answers.
use Rattle.std.specs.Prelude.{◌≡◌, ◌≢◌, ◌⊎◌, ◌*◌, ℕ, Bool, List, [], Option, Some, None, Result, Ok, Err, Vec, replicate}
use Rattle.std.specs.{declared.alloc.Global.Global, Io.KnownBytes.Appends}
use Rattle.eevdf_ops.specs.{declared.deeds.Deed.Deed, Machine.start, Whole.lines_of, Whole.machine_after}
use Rattle.eevdf_ops.specs.Setup.{Setup, cpus_of, homes_of}
use Rattle.eevdf_fleet.specs.declared.run_fault.RunFault.{RunFault}
use Rattle.eevdf_fleet.specs.declared.run_fault.RunFault.TheVariants.{Start, Memory as NoSpace}
use Rattle.eevdf_steps.specs.{declared.play_fault.PlayFault.PlayFault, Plan.plan_of, Orders.play_fault, LeftLists.left_lists}
use Rattle.eevdf_steps.specs.{MicroState.MicroState, MicroState.micro}
use Rattle.eevdf_steps.specs.declared.play_fault.PlayFault.TheVariants.{TooLong, Memory as NoRoom}
use Rattle.eevdf_bench.specs.{declared.command.Command.Command, declared.command.Kind.Kind}
use Rattle.eevdf_bench.specs.{declared.workbench_fault.BenchFault.BenchFault, Reports.IsReport, Streams.HasBegun}
use Rattle.eevdf_bench.specs.declared.command.Kind.TheVariants.{Solo, Replay, Run}
use Rattle.eevdf_workload.specs.{declared.load_fault.Key.TheVariants.Orders, declared.load_fault.Key.TheVariants.Scripts}
use Rattle.eevdf_workload.specs.{declared.load_fault.LoadFault.LoadFault, Meaning.Workload, Meaning.meaning}
use Rattle.eevdf_workload.specs.declared.load_fault.LoadFault.TheVariants.{Missing, Memory as NoMemory}
use Rattle.eevdf_bench.specs.declared.workbench_fault.BenchFault.TheVariants.{Load, Play, Run as NotRun, Read, Write, Memory}
use Rattle.eevdf_report.specs.{TextReport.report_text, declared.form.Form.Form}

-- a text, or why there is none
abbrev pub TextOrFault : Type 0
TextOrFault = Result (List ℕ) BenchFault

-- ---- what `solo` answers

-- the report of the history of a list of deeds, of which no request is left
abbrev pub history_report : Setup → List Deed → Form → List ℕ
history_report s deeds form =
    report_text (lines_of (homes_of s) (start s) deeds) (machine_after (homes_of s) (start s) deeds) (replicate (cpus_of s * cpus_of s) []) form

-- the same of a script, which must be there
abbrev pub script_report : Setup → Option (List Deed) → Form → TextOrFault
script_report s (Some deeds) form = Ok (history_report s deeds form)
script_report s None form = Err (Load (Missing Scripts))

abbrev pub solo_report : Workload → Form → TextOrFault
solo_report w form = script_report w.setup w.script form

-- ---- what `replay` answers

-- the report of the state that the callers' steps have come to
abbrev pub state_report : Setup → MicroState → Form → List ℕ
state_report s m form = report_text m.lines m.work.machine (left_lists (plan_of s) m.progress) form

-- the text, or the fault where there is one
abbrev pub text_unless : Option PlayFault → List ℕ → TextOrFault
text_unless None text = Ok text
text_unless (Some f) text = Err (Play f)

-- the report of the state that an order leaves, which must be there
abbrev pub order_report : Setup → Option (List ℕ) → Form → TextOrFault
order_report s (Some order) form = text_unless (play_fault (plan_of s) order) (state_report s (micro s order) form)
order_report s None form = Err (Load (Missing Orders))

abbrev pub replay_report : Workload → Form → TextOrFault
replay_report w form = order_report w.setup w.order form

-- ---- what a command answers

-- `solo` and `replay` have one answer; `run` may give the report of any history of the programs, and no other fault than that a thread wasn't started
abbrev pub IsAnswer : Kind → Workload → Form → TextOrFault → Type 0
IsAnswer Solo w form answer = solo_report w form ≡ answer
IsAnswer Replay w form answer = replay_report w form ≡ answer
IsAnswer Run w form (Ok text) = IsReport Run w form text
IsAnswer Run w form (Err f) = f ≡ NotRun Start

-- a workload that is refused has its fault for the only answer
abbrev pub IsAnswerTo : Result Workload LoadFault → Command → TextOrFault → Type 0
IsAnswerTo (Ok w) c answer = IsAnswer c.kind w c.form answer
IsAnswerTo (Err f) c answer = Err (Load f) ≡ answer

-- for the bytes of a workload
abbrev pub IsAnswerOf : Command → List ℕ → TextOrFault → Type 0
IsAnswerOf c bytes answer = IsAnswerTo (meaning bytes) c answer

-- ---- how what is returned agrees with an answer

-- the fault that is returned for a fault: out of memory may come first where steps are done before the fault is met
abbrev pub IsFault : BenchFault → BenchFault → Type 0
IsFault (Play p) f = (f ≡ Play p) ⊎ ((p ≢ TooLong) × (f ≡ Memory))
IsFault (Load e) f = f ≡ Load e
IsFault _ f = ⊥

-- a fault of an order as the workbench's own
abbrev pub play_refusal : PlayFault → BenchFault
play_refusal NoRoom = Memory
play_refusal f = Play f

-- and why programs weren't run
abbrev pub run_refusal : RunFault → BenchFault
run_refusal NoSpace = Memory
run_refusal Start = NotRun Start

-- the text that is to be made, or its fault; where there is none, out of memory may be answered
abbrev pub Makes : TextOrFault → Result (Vec ℕ Global) BenchFault → Type 0
Makes answer (Ok text) = answer ≡ Ok text.items
Makes (Ok text) (Err f) = f ≡ Memory
Makes (Err e) (Err f) = IsFault e f

-- a workload is refused for its own fault, or when out of memory, and an order and a run for theirs
abbrev pub Refuses : (TextOrFault → Type 0) → BenchFault → Type 0
Refuses Allows (Load e) = (e ≡ NoMemory) ⊎ Allows (Err (Load e))
Refuses Allows (Play p) = Allows (Err (Play p))
Refuses Allows (NotRun r) = Allows (Err (NotRun r))
Refuses Allows Read = Unit {0}
Refuses Allows Write = Unit {0}
Refuses Allows Memory = Unit {0}

-- neither end has failed
abbrev pub IsInside : BenchFault → Type 0
IsInside f = (f ≢ Read) × (f ≢ Write)

-- the text of an allowed answer, or why there is none
abbrev pub Answers : (TextOrFault → Type 0) → Result (Vec ℕ Global) BenchFault → Type 0
Answers Allows (Ok text) = Allows (Ok text.items)
Answers Allows (Err f) = Refuses Allows f × IsInside f

-- the text is an allowed answer, and it was written after what was there
pub record Writes (Allows : TextOrFault → Type 0) (held held' : Option (List ℕ)) : Type 0 where
  pub text : List ℕ
  pub answered : Allows (Ok text)
  pub written : Appends held held' text

-- the text is an allowed answer, of which a call that failed left a beginning after what was there
pub record Begins (Allows : TextOrFault → Type 0) (flush_failed : Bool) (held held' : Option (List ℕ)) : Type 0 where
  pub text : List ℕ
  pub answered : Allows (Ok text)
  pub begun : HasBegun flush_failed held held' text
