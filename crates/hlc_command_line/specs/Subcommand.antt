-- Subcommands.
use Rattle.std.specs.Prelude.{◌≡◌, true, false, List}
use Rattle.clap.specs.Words.{App, Text, app_of, new_app}
use Rattle.clap.specs.declared.builder.command.Command.{Command}
use Rattle.clap.specs.declared.builder.command.Command.TheViews.{out-Command as fields_of}
use Rattle.hlc_command_line.specs.LineOption.{LineOption, with_options}

-- a subcommand, by its name and its options
pub record Subcommand : Type 0 where
  pub name : Text
  pub options : List LineOption

-- what clap is told of a subcommand
abbrev pub app_of_subcommand : Subcommand → App
app_of_subcommand s = with_options s.options (new_app s.name)

-- the same, but a subcommand is required
abbrev pub with_required_subcommand : App → App
with_required_subcommand a = record a { top = record a.top { subcommand_required = true } }

-- the same, which also tells its version
abbrev pub with_version : App → App
with_version a = record a { top = record a.top { has_version = true } }

-- clap was told just this of the command, and of no option for its subcommands too
abbrev pub IsCommand : Command → App → Type 0
IsCommand c a = (app_of c ≡ a) × ((fields_of c).has_globals ≡ false)
