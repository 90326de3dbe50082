-- The texts of micro-steps, places and faults.
use Rattle.std.specs.Prelude.{ℕ, List, ◌++◌, Option, Some, None, codes, decimal}
use Rattle.eevdf_steps.specs.declared.{micro.Micro.Micro, place.Place.Place, play_fault.PlayFault.PlayFault}
use Rattle.eevdf_steps.specs.declared.micro.Micro.TheVariants as micro
use Rattle.eevdf_steps.specs.declared.place.Place.TheVariants.{Runnable, Asleep, InHand}
use Rattle.eevdf_steps.specs.declared.play_fault.PlayFault.TheVariants as play
use Rattle.eevdf_steps.specs.declared.step_fault.StepFault.{StepFault}
use Rattle.eevdf_steps.specs.declared.step_fault.StepFault.TheVariants as step
use Rattle.eevdf_steps.specs.Orders.{most_places}

abbrev pub micro_text : Micro → List ℕ
micro_text (micro.Acquire cpu) = codes "acquire " ++ decimal cpu
micro_text micro.Act = codes "act"
micro_text micro.Detach = codes "detach"
micro_text micro.Attach = codes "attach"
micro_text micro.Commit = codes "commit"
micro_text (micro.Take sender) = codes "take " ++ decimal sender
micro_text (micro.Settle sender) = codes "settle " ++ decimal sender
micro_text (micro.Release cpu) = codes "release " ++ decimal cpu
micro_text (micro.Post task) = codes "post " ++ decimal task

-- a name, with a number where there is one
abbrev pub named : List ℕ → Option ℕ → List ℕ
named name None = name
named name (Some number) = name ++ codes " " ++ decimal number

abbrev pub place_text : Place → List ℕ
place_text (Runnable cpu) = codes "runnable on " ++ decimal cpu
place_text (Asleep cpu) = codes "asleep on " ++ decimal cpu
place_text (InHand caller) = codes "in hand of " ++ decimal caller

abbrev pub step_fault_text : StepFault → List ℕ
step_fault_text step.NoCaller = codes "no caller"
step_fault_text step.Done = codes "done"
step_fault_text (step.Blocked cpu holder) = codes "blocked on " ++ decimal cpu ++ codes " by " ++ decimal holder

abbrev pub play_fault_text : PlayFault → List ℕ
play_fault_text play.TooLong = codes "order longer than " ++ decimal most_places
play_fault_text play.Memory = codes "memory"
play_fault_text (play.NoCaller at) = codes "order at " ++ decimal at ++ codes ": no caller"
play_fault_text (play.Done at) = codes "order at " ++ decimal at ++ codes ": done"
play_fault_text (play.Blocked at cpu) = codes "order at " ++ (decimal at ++ (codes ": blocked on " ++ decimal cpu))
play_fault_text (play.Short caller) = codes "order short at " ++ decimal caller
