-- The rules of subcommands and of their options.
use Rattle.std.specs.Prelude.{◌≡◌, false, List, Some, codes, fold}
use Rattle.clap.specs.Words.{App, Rule, Text, new_app, new_rule, rule_of, with_rule}
use Rattle.clap.specs.declared.builder.arg.Arg.{Arg}
use Rattle.hlc_command_line.specs.LineOption.{flag_rule, many_rule}
use Rattle.hlc_command_line.specs.NumberOption.{value_rule}
use Rattle.hlc_command_line.specs.Subcommand.{with_required_subcommand, with_version}
use Rattle.hlc_command_line.specs.declared.option_rule.OptionRule.{OptionRule}
use Rattle.hlc_command_line.specs.declared.option_rule.Takes.{Takes}
use Rattle.hlc_command_line.specs.declared.option_rule.Takes.TheVariants as takes
use Rattle.hlc_command_line.specs.declared.subcommand_rule.SubcommandRule.{SubcommandRule}

-- clap was told just this of the argument, and of no subcommand that has it too
abbrev pub IsArgument : Arg → Rule → Type 0
IsArgument a r = (rule_of a ≡ r) × (a.global ≡ false)

-- what clap is told of an option of this name
abbrev pub rule_taking : Text → Takes → Rule
rule_taking name takes.Nothing = flag_rule name
rule_taking name (takes.One value parser required) = value_rule name parser required
rule_taking name (takes.Many value parser) = many_rule name parser

-- the same of an option that isn't told of values yet
abbrev pub bare_rule : Text → Takes → Rule
bare_rule name t =
    record (new_rule name) { long = Some name; required = (rule_taking name t).required; action = (rule_taking name t).action }

-- the same, by the option's rule
abbrev pub rule_of_option : OptionRule → Rule
rule_of_option o = rule_taking o.name.now o.takes

-- the command with the options of these rules as well
abbrev pub with_options_of : List OptionRule → App → App
with_options_of rules a = fold (λ a o. with_rule a (rule_of_option o)) a rules

-- what clap is told of a subcommand
abbrev pub app_of_rule : SubcommandRule → App
app_of_rule s = with_options_of s.options.now (new_app s.name.now)

-- the command `hlc` without its subcommands
abbrev pub program_app : App
program_app = with_version (with_required_subcommand (new_app (codes "hlc")))
