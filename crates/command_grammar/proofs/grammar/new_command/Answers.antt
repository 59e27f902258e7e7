use Rattle.std.proofs.Common.{rules, ap, ◌≡◌, ◌∙◌, true}
use Rattle.clap.specs.Words.{App}
use Rattle.clap.specs.Simple.{app_of_fields, on_top}
use Rattle.clap.specs.declared.builder.command.Command.{Command}
use Rattle.clap.specs.declared.builder.command.Command.TheViews.{out-Command}
use Rattle.clap.specs.declared.builder.command.Command.TheOpen.{Command-F}
use Rattle.command_grammar.proofs.grammar.new_command.Goals as goal

abbrev plain_fields : Command-F Command → Command-F Command
plain_fields f = record (record f { disable_help_flag = true }) { disable_version_flag = true }

abbrev plain : App → App
plain = on_top (λ s. record s { disable_help_flag = true; disable_version_flag = true })

pub returns : goal.returns
returns c =
    let fields_are : out-Command c.disable_version_flag.result ≡ plain_fields (out-Command c.new.result) = search rules in
    ap app_of_fields fields_are ∙ ap plain c.new.ensures.app
