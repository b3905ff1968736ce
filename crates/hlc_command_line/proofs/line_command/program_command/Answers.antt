use Rattle.hlc_command_line.proofs.App.Commands.{has_version, requires_subcommand}
use Rattle.hlc_command_line.proofs.line_command.program_command.Goals as goal

pub returns : goal.returns
returns c =
    let version = has_version c.bare_command.result c.version.result _ c.bare_command.ensures _ c.version.ensures in
    requires_subcommand c.version.result c.subcommand_required.result _ version _ c.subcommand_required.ensures
