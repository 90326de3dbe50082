-- The words of a string, and the operation or the deed that they name.
use Rattle.std.specs.Prelude.{codes, ◌≡◌, MatchOption, ℕ, zero, suc, ◌==◌, ◌^◌, nat_lt, ℤ, pos, negsuc, Bool, false, if◌then◌else◌, List, [], ◌∷◌, length, Option, Some, None, option_map, option_and_then}
use Rattle.std.specs.{Borrow.Bor, List.slice_split, List.list_all, Str.bytes_eq, Char.is_ascii_digit, Str.Parse.digits_value, Str.Parse.digits_value_after}
use Rattle.eevdf_weight.specs.Limits.{checked_level, checked_slice, checked_tick}
use Rattle.eevdf_queue.specs.Numbers.{checked_number}
use Rattle.eevdf_ops.specs.{declared.deeds.Op.Op, Programs.deed_of, declared.deeds.Deed.Deed}
use Rattle.eevdf_ops.specs.declared.deeds.Op.TheVariants as op
use Rattle.eevdf_ops.specs.declared.deeds.Deed.TheVariants as deed
use Rattle.eevdf_workload.specs.{declared.version.Limits.Limits, declared.reading.verb_text.Verb.Verb, Versions.cpu_within}
use Rattle.eevdf_workload.specs.declared.reading.verb_text.Verb.TheVariants as verb

-- what stands between the single spaces of a text
abbrev pub words : List ℕ → List (List ℕ)
words text = slice_split (λ b. b == 32) text

-- the words of a text that stands behind a space, if there is one
abbrev pub words_left : Option (Bor (List ℕ)) → List (List ℕ)
words_left None = []
words_left (Some text) = words text.now

-- `0`, or a digit from 1 to 9 followed by digits
abbrev pub is_number : List ℕ → Bool
is_number [] = false
is_number (c ∷ cs) = if c == 48 then length cs == 0 else list_all is_ascii_digit (c ∷ cs)

-- the number that a word writes
unfoldable pub number : List ℕ → Option ℕ
number word = if is_number word then Some (digits_value 10 word) else None

-- a number that has at most 64 bits
abbrev pub fitting : ℕ → Option ℕ
fitting n = if nat_lt n (2 ^ 64) then Some n else None

-- the number of at most 64 bits that the first word writes
abbrev pub first_number : List (List ℕ) → Option ℕ
first_number [] = None
first_number (word ∷ ws) = option_and_then fitting (number word)

-- the number that the digits of the first word write where they follow those of n
abbrev pub number_on : ℕ → List (List ℕ) → Option ℕ
number_on n [] = None
number_on n (word ∷ ws) = if list_all is_ascii_digit word then fitting (digits_value_after 10 n word) else None

-- what is split off a text: the number of its first word, and the text that the words behind it stand in
abbrev pub IsSplitOff : Option ℕ → List (List ℕ) → Option (ℕ × Option (Bor (List ℕ))) → Type 0
IsSplitOff number behind result = MatchOption result (number ≡ None) (λ r. (number ≡ Some r.0) × (words_left r.1 ≡ behind))

-- the number so far below 0; 0 isn't below itself
abbrev pub below_zero : ℕ → Option ℤ
below_zero zero = None
below_zero (suc n) = Some (negsuc n)

-- the number that a word writes with its sign: none, or `-` before a number from 1 on
abbrev pub signed_number : List ℕ → Option ℤ
signed_number [] = None
signed_number (c ∷ cs) = if c == 45 then option_and_then below_zero (number cs) else option_map pos (number (c ∷ cs))

-- the nice level that a word writes
abbrev pub level_in : List ℕ → Option ℤ
level_in word = option_and_then checked_level (signed_number word)

-- the only word
abbrev pub only_word : List (List ℕ) → Option (List ℕ)
only_word (word ∷ []) = Some word
only_word _ = None

-- the number that is the only word
abbrev pub only_number : List (List ℕ) → Option ℕ
only_number ws = option_and_then number (only_word ws)

-- the time, the task, the CPU, the level and the slice that the only word gives
abbrev pub only_time : List (List ℕ) → Option ℕ
only_time ws = option_and_then checked_tick (only_number ws)

abbrev pub only_task : List (List ℕ) → Option ℕ
only_task ws = option_and_then checked_number (only_number ws)

abbrev pub only_cpu : Limits → List (List ℕ) → Option ℕ
only_cpu limits ws = option_and_then (cpu_within limits) (only_number ws)

abbrev pub only_level : List (List ℕ) → Option ℤ
only_level ws = option_and_then level_in (only_word ws)

abbrev pub only_slice : List (List ℕ) → Option ℕ
only_slice ws = option_and_then checked_slice (only_number ws)

-- the CPU and the task that a word numbers
abbrev pub cpu_in : Limits → List ℕ → Option ℕ
cpu_in limits word = option_and_then (cpu_within limits) (number word)

abbrev pub task_in : List ℕ → Option ℕ
task_in word = option_and_then checked_number (number word)

-- an operation that nothing follows
abbrev pub alone : Op → List (List ℕ) → Option Op
alone o [] = Some o
alone o _ = None

-- the task that the first word numbers gets the level that follows it
abbrev pub renice_of : List (List ℕ) → Option Op
renice_of [] = None
renice_of (word ∷ ws) = option_and_then (λ task. option_map (op.Renice task) (only_level ws)) (task_in word)

-- the level that the first word writes, and the slice that follows it
abbrev pub level_and_slice : List (List ℕ) → Option (ℤ × ℕ)
level_and_slice [] = None
level_and_slice (word ∷ ws) = option_and_then (λ nice. option_map (λ slice. (nice, slice)) (only_slice ws)) (level_in word)

-- the task that the first word numbers, and the level and the slice that follow it
abbrev pub task_level_slice : List (List ℕ) → Option (ℕ × ℤ × ℕ)
task_level_slice [] = None
task_level_slice (word ∷ ws) = option_and_then (λ task. option_map (λ others. (task, others.0, others.1)) (level_and_slice ws)) (task_in word)

abbrev pub begin_of : List (List ℕ) → Option Op
begin_of ws = option_map (λ new. op.Begin new.0 new.1 new.2) (task_level_slice ws)

abbrev pub set_of : List (List ℕ) → Option Op
set_of ws = option_map (λ new. op.Set new.0 new.1 new.2) (task_level_slice ws)

-- what a word says that is done
abbrev pub verb_of : List ℕ → Option Verb
verb_of word =
    if bytes_eq word (codes "tick") then Some verb.Tick
    else if bytes_eq word (codes "pick") then Some verb.Pick
    else if bytes_eq word (codes "yield") then Some verb.Yield
    else if bytes_eq word (codes "sleep") then Some verb.Sleep
    else if bytes_eq word (codes "post") then Some verb.Post
    else if bytes_eq word (codes "drain") then Some verb.Drain
    else if bytes_eq word (codes "pull") then Some verb.Pull
    else if bytes_eq word (codes "renice") then Some verb.Renice
    else if bytes_eq word (codes "begin") then Some verb.Begin
    else if bytes_eq word (codes "end") then Some verb.End
    else if bytes_eq word (codes "set") then Some verb.Set
    else if bytes_eq word (codes "rebase") then Some verb.Rebase
    else if bytes_eq word (codes "doze") then Some verb.Doze
    else None

-- the operation of a verb, with these words as its arguments
abbrev pub operation_by : Limits → List (List ℕ) → Verb → Option Op
operation_by limits arguments verb.Tick = option_map op.Tick (only_time arguments)
operation_by limits arguments verb.Pick = alone op.Pick arguments
operation_by limits arguments verb.Yield = alone op.Yield arguments
operation_by limits arguments verb.Sleep = option_map op.Sleep (only_task arguments)
operation_by limits arguments verb.Post = option_map op.Post (only_task arguments)
operation_by limits arguments verb.Drain = alone op.Drain arguments
operation_by limits arguments verb.Pull = option_map op.Pull (only_cpu limits arguments)
operation_by limits arguments verb.Renice = if limits.renice then renice_of arguments else None
operation_by limits arguments verb.Begin = if limits.begin then begin_of arguments else None
operation_by limits arguments verb.End = if limits.begin then option_map op.End (only_task arguments) else None
operation_by limits arguments verb.Set = if limits.begin then set_of arguments else None
operation_by limits arguments verb.Rebase = if limits.begin then alone op.Rebase arguments else None
operation_by limits arguments verb.Doze = if limits.doze then option_map op.Doze (only_task arguments) else None

-- the operation that the first word names, with the other words as its arguments
abbrev pub operation_of : Limits → List ℕ → List (List ℕ) → Option Op
operation_of limits word arguments = option_and_then (operation_by limits arguments) (verb_of word)

unfoldable pub operation : Limits → List (List ℕ) → Option Op
operation limits [] = None
operation limits (verb ∷ arguments) = operation_of limits verb arguments

-- the CPU that stands after `from`
abbrev pub sender_of : Limits → List (List ℕ) → Option ℕ
sender_of limits [] = None
sender_of limits (word ∷ ws) = if bytes_eq word (codes "from") then only_cpu limits ws else None

-- the wake of the task that the first word numbers, by the sender that follows it
abbrev pub wake_of : Limits → ℕ → List (List ℕ) → Option Deed
wake_of limits cpu [] = None
wake_of limits cpu (word ∷ ws) = option_and_then (λ task. option_map (deed.Wake cpu task) (sender_of limits ws)) (task_in word)

-- the deed on a CPU that the words after its number name
abbrev pub deed_on : Limits → ℕ → List (List ℕ) → Option Deed
deed_on limits cpu [] = None
deed_on limits cpu (verb ∷ arguments) =
    if bytes_eq verb (codes "wake") then wake_of limits cpu arguments
    else option_and_then (deed_of cpu) (operation_of limits verb arguments)

unfoldable pub deed_in : Limits → List (List ℕ) → Option Deed
deed_in limits [] = None
deed_in limits (word ∷ ws) = option_and_then (λ cpu. deed_on limits cpu ws) (cpu_in limits word)
