use Rattle.std.proofs.Common.{◌≡◌, ◌∙◌, Bool, true, false, refl, sym, ap, List, [], ◌∷◌, Option, Some, None, is_some, true≢false, cond, option_map, map}
use Rattle.std.specs.{List.list_all, Option.option_map_or, Box.box_value}
use Rattle.clap.proofs.WalkLemmas.{both}
use Rattle.std.specs.Prelude.{Box, find, option_and_then}
use Rattle.clap.specs.Words.{App, HasMatchesOf, IsParsedFrom, Row, Text, app_of, fault_of, has_subcommand, is_simple, is_simple_and_free, subcommand_name_of, subcommand_of, subcommand_rows, subcommand_rows_of}
use Rattle.clap.specs.Simple.{Shape, argument_words, built, entered, label_of, names_of, rows_at}
use Rattle.clap.specs.Walk.{answers_to, is_empty, stop_after}
use Rattle.clap.specs.{declared.builder.command.Command.Command, declared.builder.command.Command.TheViews.out-Command}
use Rattle.clap.specs.{declared.parser.matches.ArgMatches.ArgMatches, declared.parser.matches.ArgMatches.TheViews.out-ArgMatches}
use Rattle.clap.specs.{declared.parser.matches.ArgMatches.TheViews.out-SubCommand, declared.parser.matches.SubCommand.SubCommand}
use Rattle.eevdf_bench.specs.Command.{kind_named, program, subcommand_named}
use Rattle.eevdf_bench.proofs.command.matches_of.Goals as goal

-- `clap` tells all of a parse by this command line
program_simple : is_simple_and_free program ≡ true
program_simple = refl

-- a parse that succeeded met a subcommand
subcommand_is_met : (c : Command) (m : ArgMatches) → app_of c ≡ program → (out-Command c).has_globals ≡ false → IsParsedFrom c m → has_subcommand m ≡ true
subcommand_is_met c m is local p =
    let wanted : (out-Command c).subcommand_required ≡ true = ap (λ (a : App). a.top.subcommand_required) is in
    (p.parsed (p.from.globals ∙ local)).checked.subcommand (p.from.needs_subcommand ∙ wanted)

has_name : (m : ArgMatches) → has_subcommand m ≡ true → is_some (subcommand_name_of m) ≡ true
has_name m met = go (out-ArgMatches m).subcommand met
  where
    go : {Z : Type 0} (s : Option (Box SubCommand Z)) → is_some s ≡ true → is_some (option_map (λ b. (out-SubCommand (box_value b)).name.now) s) ≡ true
    go None e = e
    go (Some b) e = refl

-- the name of the subcommand that was met is that of `clap`'s definition
module _ {Z : Type 0} where
  name_of_rows : (s : Option (Box SubCommand Z)) → option_map (λ (p : Text × List Row). p.0) (subcommand_rows s) ≡ option_map (λ b. (out-SubCommand (box_value b)).name.now) s
  name_of_rows None = refl
  name_of_rows (Some b) = refl

name_met : (c : Command) (words : List Text) (m : ArgMatches) → app_of c ≡ program → HasMatchesOf (app_of c) words m → subcommand_named words ≡ subcommand_name_of m
name_met c words m is h =
    let rows : subcommand_rows_of m ≡ subcommand_of (app_of c) words = (h (ap is_simple is)).1 in
    sym (ap (λ a. option_map (λ (p : Text × List Row). p.0) (subcommand_of a words)) is) ∙ sym (ap (option_map (λ (p : Text × List Row). p.0)) rows) ∙ name_of_rows (out-ArgMatches m).subcommand

-- and so are its matches
rows_met : (c : Command) (words : List Text) (m : ArgMatches) → app_of c ≡ program → HasMatchesOf (app_of c) words m → subcommand_rows_of m ≡ subcommand_of program words
rows_met c words m is h = (h (ap is_simple is)).1 ∙ ap (λ a. subcommand_of a words) is

-- and names a kind
module _ (P : Text → Bool) where
  abbrev name_passes : Option (Text × List Row) → Bool
  name_passes o = option_map_or (λ r. P r.0) o true

  each_name : (subs : List Shape) (q : Shape → Bool) (words : List Text) → list_all (λ s. P s.name) subs ≡ true → name_passes (option_map (λ s. rows_at s words) (find q subs)) ≡ true
  each_name [] q words all = refl
  each_name (s ∷ rest) q words all = go (q s) (each_name rest q words (both _ _ all).1)
    where
      go : (b : Bool) → name_passes (option_map (λ t. rows_at t words) (find q rest)) ≡ true → name_passes (option_map (λ t. rows_at t words) (cond b (Some s) (find q rest))) ≡ true
      go true e = (both _ _ all).0
      go false e = e

  entered_name : (a : App) (stop : Option (Text × List Text)) → list_all (λ s. P s.name) a.subs ≡ true → name_passes (entered a stop) ≡ true
  entered_name a None all = refl
  entered_name a (Some p) all = each_name a.subs (λ s. answers_to p.0 (label_of s)) p.1 all

abbrev names_kind : Text → Bool
names_kind word = is_some (kind_named word)

each_names_kind : list_all (λ s. names_kind s.name) (built program).subs ≡ true
each_names_kind = refl

kind_from : (o : Option (Text × List Row)) (n : Option Text) → option_map (λ p. p.0) o ≡ n → is_some n ≡ true → option_map_or (λ r. names_kind r.0) o true ≡ true
    → is_some (option_and_then kind_named n) ≡ true
kind_from None None is some named = some
kind_from None (Some x) is some named = absurd (true≢false (sym (ap is_some is)))
kind_from (Some r) n is some named = rw (← is) named

kind_is_met : (words : List Text) (n : Option Text) → subcommand_named words ≡ n → is_some n ≡ true → is_some (option_and_then kind_named n) ≡ true
kind_is_met words n is some =
    kind_from (subcommand_of program words) n is some (entered_name names_kind (built program) (stop_after (built program).top.rules (names_of (built program)) (argument_words program words)) each_names_kind)

pub returns-clause-ok : goal.returns-clause-ok
returns-clause-ok g c =
    let words : List Text = map g.S.AsStr.text c.args.words.now in
    let known = c.in_ok-whole_program.ensures in
    let parse = c.in_ok-matches.ensures in
    let matches = c.in_ok-matches.matches in
    let is_program = known.model in
    let no_fault = ap (λ a. fault_of a words) (sym is_program) ∙ parse.kinds (ap is_simple_and_free is_program) in
    let name = name_met _ words matches is_program parse.matches in
    let met = subcommand_is_met _ matches is_program known.local parse.parsed in
    (ap is_empty no_fault, kind_is_met words _ name (has_name matches met), name, rows_met _ words matches is_program parse.matches)
