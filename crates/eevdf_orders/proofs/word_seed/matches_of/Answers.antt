use Rattle.std.proofs.Common.{◌≡◌, ◌∙◌, true, codes, List, refl, sym, ap, map}
use Rattle.clap.specs.Words.{Row, Text, fault_of, first_of, is_simple, is_simple_and_free, matches_of}
use Rattle.clap.specs.Walk.{is_empty}
use Rattle.eevdf_orders.specs.SeedWords.{program}
use Rattle.eevdf_orders.proofs.word_seed.matches_of.Goals as goal

-- `clap` tells all of a parse by this command line
program_simple : is_simple_and_free program ≡ true
program_simple = refl

program_plain : is_simple program ≡ true
program_plain = refl

pub returns-clause-ok : goal.returns-clause-ok
returns-clause-ok g c =
    let words : List Text = map g.S.AsStr.text c.args.words.now in
    let is_program = c.in_ok-program.ensures in
    let parse = c.in_ok-matches.ensures in
    let no_fault = ap (λ a. fault_of a words) (sym is_program) ∙ parse.kinds (ap is_simple_and_free is_program ∙ program_simple) in
    let rows = (parse.matches (ap is_simple is_program ∙ program_plain)).0 ∙ ap (λ a. matches_of a words) is_program in
    (ap is_empty no_fault, ap (λ (rs : List Row). first_of (codes "seed") rs) rows)
