use Rattle.clap.specs.Matches.{found_of}
use Rattle.hlc_command_line.proofs.App.Options.{text_is}
use Rattle.hlc_command_line.proofs.log_line.given.Goals as goal

pub returns : goal.returns
returns c = text_is (found_of c.args.options.now) c.args.name.now c.get_str.result c.get_str.ensures
