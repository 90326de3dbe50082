-- The seed that the program's words give, by `clap`'s own definition of a parse.
use Rattle.std.specs.Prelude.{◌≡◌, ◌⊎◌, ℕ, ◌<◌, ◌^◌, Bool, true, false, List, Option, Some, None, codes}
use Rattle.std.specs.Str.Parse.{IsNumeral, digits_value, without_leading_plus}
use Rattle.clap.specs.Words.{App, Rule, Text, fault_of, first_of, matches_of, new_app, new_rule, with_rule}
use Rattle.clap.specs.{Walk.is_empty, Simple.on_top, declared.builder.action.ArgAction.TheVariants.Set}

-- the flag with its value
abbrev pub seed_rule : Rule
seed_rule = record (new_rule (codes "seed")) { long = Some (codes "seed"); action = Some Set }

-- the program as `clap` knows it: one flag, and no flag or subcommand for help
abbrev pub program : App
program = with_rule (on_top (λ s. record s { disable_help_flag = true; disable_help_subcommand = true }) (new_app (codes "eevdf_orders"))) seed_rule

-- the parse of the words has no fault
abbrev pub is_taken : List Text → Bool
is_taken words = is_empty (fault_of program words)

-- the value of the flag, where the words have the flag
abbrev pub value_in : List Text → Option Text
value_in words = first_of (codes "seed") (matches_of program words)

-- a whole number below 2^64 in decimal; a plus may stand before it
abbrev pub IsNumber : Text → Type 0
IsNumber text = IsNumeral 10 (without_leading_plus text) × (digits_value 10 (without_leading_plus text) < 2 ^ 64)

-- what a value of the flag comes to
abbrev pub ReadsAs : Option Text → Option ℕ → Type 0
ReadsAs None seed = seed ≡ None
ReadsAs (Some text) seed = IsNumber text × (seed ≡ Some (digits_value 10 (without_leading_plus text)))

abbrev pub IsNoNumber : Option Text → Type 0
IsNoNumber None = ⊥
IsNoNumber (Some text) = IsNumber text → ⊥

-- the words are taken, and the seed is the value of their flag
abbrev pub IsSeedOf : List Text → Option ℕ → Type 0
IsSeedOf words seed = (is_taken words ≡ true) × ReadsAs (value_in words) seed

-- the words aren't taken, or the value of their flag is no number
abbrev pub AreRefused : List Text → Type 0
AreRefused words = (is_taken words ≡ false) ⊎ IsNoNumber (value_in words)
