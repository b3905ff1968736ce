use Rattle.clap.specs.Words.{new_app}
use Rattle.hlc_command_line.specs.Subcommand.{IsCommand}
use Rattle.hlc_command_line.proofs.App.Commands.{has_about, has_after_help}
use Rattle.hlc_command_line.proofs.line_command.bare_command.Goals as goal

pub returns : goal.returns
returns c =
    let new : IsCommand c.new.result (new_app c.args.name.now) = (c.new.ensures.app, c.new.ensures.local) in
    let about = has_about c.new.result c.about.result _ new _ c.about.ensures in
    has_after_help c.about.result c.after_help.result _ about _ c.after_help.ensures
