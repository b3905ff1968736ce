use Rattle.std.proofs.Common.{lit<}
use Rattle.clap.specs.Matches.{found_of}
use Rattle.hlc_command_line.specs.Line.{tolerance}
use Rattle.hlc_command_line.proofs.App.Options.{optional_is}
use Rattle.hlc_command_line.proofs.log_options.tolerance_number.Goals as goal

pub returns : goal.returns
returns c =
    optional_is 64 (found_of c.args.options.now) tolerance c.requires (lit< tt) c.get_one.result c.get_one.ensures.none c.get_one.ensures.value
