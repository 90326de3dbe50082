-- The texts of deeds, operations and answers.
use Rattle.std.specs.Prelude.{ℕ, ℤ, List, [], ◌++◌, codes, decimal}
use Rattle.std.specs.Fmt.{signed_decimal}
use Rattle.eevdf_queue.specs.Texts.{charged_text}
use Rattle.eevdf_ops.specs.{declared.deeds.Op.Op, declared.deeds.Deed.Deed, declared.deeds.Answer.Answer, declared.deeds.Line.Line}
use Rattle.eevdf_ops.specs.{declared.origin.Origin.Origin, Origins.decider, Origins.origin_of}
use Rattle.eevdf_ops.specs.{Signatures.signature, declared.signature.Arguments.Arguments}
use Rattle.eevdf_ops.specs.declared.signature.Arguments.TheVariants as arguments
use Rattle.eevdf_ops.specs.declared.origin.Origin.TheVariants.{Operation, Request}
use Rattle.eevdf_ops.specs.declared.deeds.Answer.TheVariants.{Charged, Picked, Idle, Yielded, Slept, NotRunning, Woken, Awake, Pulled, Balanced, Nothing, Range, Reniced, NotHere, Begun, Ended, Rebased}
use Rattle.eevdf_ops.specs.declared.deeds.Answer.TheVariants as answer

-- a task with its level and its slice, each with a space before it
abbrev pub state_text : ℕ → ℤ → ℕ → List ℕ
state_text task nice slice = codes " " ++ decimal task ++ codes " " ++ signed_decimal nice ++ codes " " ++ decimal slice

-- what stands behind the verb of an operation, each with a space before it
abbrev pub arguments_text : Arguments → List ℕ
arguments_text arguments.Nothing = []
arguments_text (arguments.Time ns) = codes " " ++ decimal ns
arguments_text (arguments.Task task) = codes " " ++ decimal task
arguments_text (arguments.Level task nice) = codes " " ++ decimal task ++ codes " " ++ signed_decimal nice
arguments_text (arguments.State task nice slice) = state_text task nice slice
arguments_text (arguments.NewTask task nice slice) = state_text task nice slice
arguments_text (arguments.Source source) = codes " " ++ decimal source

-- an operation as a program lists it
abbrev pub operation_text : Op → List ℕ
operation_text o = (signature o).0 ++ arguments_text (signature o).1

-- an operation or a request as a schedule lists the deed of it
abbrev pub origin_text : Origin → List ℕ
origin_text (Operation o) = operation_text o
origin_text (Request task sender) = codes "wake " ++ decimal task ++ codes " from " ++ decimal sender

-- a deed as a schedule lists it, without its CPU
abbrev pub deed_text : Deed → List ℕ
deed_text d = origin_text (origin_of d)

-- a deed with the CPU that does it, as a script lists it
abbrev pub numbered_deed_text : Deed → List ℕ
numbered_deed_text d = decimal (decider d) ++ codes " " ++ deed_text d

abbrev pub answer_text : Answer → List ℕ
answer_text (Charged task resched) = charged_text task resched
answer_text (Picked task) = codes "picked " ++ decimal task
answer_text Idle = codes "idle"
answer_text Yielded = codes "yielded"
answer_text (Slept lag) = codes "slept " ++ signed_decimal lag
answer_text NotRunning = codes "not running"
answer_text Woken = codes "woken"
answer_text Awake = codes "awake"
answer_text (Pulled task) = codes "pulled " ++ decimal task
answer_text Balanced = codes "balanced"
answer_text Nothing = codes "nothing"
answer_text Range = codes "range"
answer_text Reniced = codes "reniced"
answer_text NotHere = codes "not here"
answer_text Begun = codes "begun"
answer_text Ended = codes "ended"
answer_text answer.Set = codes "set"
answer_text (Rebased by) = codes "rebased " ++ signed_decimal by

-- a deed with its CPU and its answer
abbrev pub line_text : Line → List ℕ
line_text l = numbered_deed_text l.deed ++ codes ": " ++ answer_text l.answer
