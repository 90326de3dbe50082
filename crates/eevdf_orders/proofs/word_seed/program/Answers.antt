use Rattle.std.proofs.Common.{◌≡◌, ◌∙◌, ap₂, codes, true, rules}
use Rattle.std.proofs.lemmas.Result.{IfOk-weaker}
use Rattle.clap.specs.Words.{App, app_of, new_app, with_rule}
use Rattle.clap.specs.Simple.{on_top}
use Rattle.eevdf_orders.proofs.word_seed.program.Goals as goal

-- the program without its flag
abbrev bare : App
bare = on_top (λ s. record s { disable_help_flag = true; disable_help_subcommand = true }) (new_app (codes "eevdf_orders"))

pub returns : goal.returns
returns c =
    let bare_is : app_of c.disable_help_subcommand.result ≡ bare = search rules in
    IfOk-weaker c.arg.result _ _ (λ m h. h.shape c.seed_flag.ensures.local ∙ ap₂ with_rule bare_is c.seed_flag.ensures.rule) c.arg.ensures
