use Rattle.std.proofs.Common.{List, Option, option_map, codes, ap, ◌∙◌, rules}
use Rattle.clap.specs.Words.{Row, Text}
use Rattle.eevdf_bench.specs.Command.{flag_in}
use Rattle.eevdf_bench.proofs.command.command_of.Goals as goal

pub returns-in-Some-clause-ok : goal.returns-in-Some-clause-ok
returns-in-Some-clause-ok g c =
    let known = c.in_ok-matches.ensures.ok in
    let given : (name : Text) → _ = λ name. ap (λ (rows : Option (Text × List Row)). flag_in name (option_map (λ p. p.1) rows)) known.3 in
    (known.0, search rules, c.has_flag-history.ensures ∙ given (codes "history"), c.has_flag-times.ensures ∙ given (codes "times"))
