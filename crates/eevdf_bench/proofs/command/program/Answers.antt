use Rattle.std.proofs.Common.{◌∙◌, true, ap}
use Rattle.clap.specs.Simple.{app_of_fields, on_top}
use Rattle.clap.specs.declared.builder.command.Command.{Command}
use Rattle.clap.specs.declared.builder.command.Command.TheOpen.{Command-F}
use Rattle.eevdf_bench.proofs.command.program.Goals as goal

-- each call sets the one field
pub returns-clause-model : goal.returns-clause-model
returns-clause-model c =
    ap app_of_fields c.disable_help_subcommand.ensures
    ∙ ap (λ (f : Command-F Command). app_of_fields (record f { disable_help_subcommand = true })) c.disable_help_flag.ensures
    ∙ ap (λ (f : Command-F Command). app_of_fields (record f { disable_help_flag = true; disable_help_subcommand = true })) c.subcommand_required.ensures
    ∙ ap (on_top (λ s. record s { subcommand_required = true; disable_help_flag = true; disable_help_subcommand = true })) c.new.ensures.app
