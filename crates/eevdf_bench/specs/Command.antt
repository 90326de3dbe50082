-- The command for which the program's words ask, by `clap`'s own definition of a parse.
use Rattle.std.specs.Prelude.{◌≡◌, Bool, true, false, Option, Some, None, List, [], if◌then◌else◌, ◌++◌, codes, option_map, option_and_then}
use Rattle.std.specs.{Str.bytes_eq, Option.option_map_or}
use Rattle.clap.specs.Words.{App, Row, Rule, Text, fault_of, first_of, new_app, new_rule, subcommand_of, with_rule, with_subcommand}
use Rattle.clap.specs.{Walk.is_empty, Simple.on_top, declared.builder.action.ArgAction.TheVariants.SetTrue}
use Rattle.clap.specs.{declared.error.kind.ErrorKind.ErrorKind, declared.error.kind.ErrorKind.TheVariants.OutOfMemory}
use Rattle.eevdf_bench.specs.{declared.command.Command.Command, declared.command.Kind.Kind}
use Rattle.eevdf_bench.specs.{declared.command.WordFault.WordFault, declared.command.WordFault.TheVariants.Words}
use Rattle.eevdf_bench.specs.declared.command.WordFault.TheVariants.{Memory}
use Rattle.eevdf_bench.specs.declared.command.Kind.TheVariants.{Solo, Replay, Run}

-- the word that names a kind
abbrev pub word_of : Kind → Text
word_of Solo = codes "solo"
word_of Replay = codes "replay"
word_of Run = codes "run"

-- a flag that takes no value
abbrev pub flag_rule : Text → Rule
flag_rule name = record (new_rule name) { long = Some name; action = Some SetTrue }

-- a subcommand with its flags
abbrev pub subcommand : Text → App
subcommand name = with_rule (with_rule (new_app name) (flag_rule (codes "history"))) (flag_rule (codes "times"))

-- the program without its subcommands: one of them must be there, and there is no flag or subcommand for help
abbrev pub bare_program : App
bare_program = on_top (λ s. record s {
  subcommand_required = true;
  disable_help_flag = true;
  disable_help_subcommand = true;
}) (new_app (codes "eevdf"))

-- the program as `clap` knows it
abbrev pub program : App
program =
    with_subcommand (with_subcommand (with_subcommand bare_program (subcommand (word_of Solo)).top) (subcommand (word_of Replay)).top) (subcommand (word_of Run)).top

-- the parse of the words has no fault
abbrev pub is_taken : List Text → Bool
is_taken words = is_empty (fault_of program words)

-- the subcommand that the words name
abbrev pub subcommand_named : List Text → Option Text
subcommand_named words = option_map (λ p. p.0) (subcommand_of program words)

-- the text that a flag holds says that it was given
abbrev pub is_set : Option Text → Bool
is_set held = option_map_or (λ text. bytes_eq text (codes "true")) held false

-- among the matches of a subcommand a flag of it is given
abbrev pub flag_in : Text → Option (List Row) → Bool
flag_in name matches = is_set (option_and_then (first_of name) matches)

-- a flag of the subcommand is given
abbrev pub has_flag : Text → List Text → Bool
has_flag name words = flag_in name (option_map (λ p. p.1) (subcommand_of program words))

-- the words are taken, their subcommand is the command's kind, and its flags ask for the form
abbrev pub IsAskedBy : List Text → Command → Type 0
IsAskedBy words c = (is_taken words ≡ true)
    × (subcommand_named words ≡ Some (word_of c.kind))
    × (c.form.history ≡ has_flag (codes "history") words) × (c.form.times ≡ has_flag (codes "times") words)

-- the kind that a word names
abbrev pub kind_named : Text → Option Kind
kind_named word = if bytes_eq word (word_of Solo) then Some Solo
    else if bytes_eq word (word_of Replay) then Some Replay
    else if bytes_eq word (word_of Run) then Some Run else None

-- what an error of `clap` comes to
abbrev pub word_fault : ErrorKind → WordFault
word_fault OutOfMemory = Memory
word_fault _ = Words

-- a flag behind the command, where it is given
abbrev pub flag_text : Bool → Text → Text
flag_text given flag = if given then flag else []

-- words that ask for a command
abbrev pub command_text : Command → Text
command_text c = word_of c.kind ++ flag_text c.form.history (codes " --history") ++ flag_text c.form.times (codes " --times")

abbrev pub word_fault_text : WordFault → Text
word_fault_text Words = codes "not a command line of this program"
word_fault_text Memory = codes "memory"
