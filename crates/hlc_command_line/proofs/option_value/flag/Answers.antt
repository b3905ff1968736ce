use Rattle.clap.specs.Matches.{found_of}
use Rattle.hlc_command_line.proofs.App.Options.{flag_is}
use Rattle.hlc_command_line.proofs.option_value.flag.Goals as goal

pub returns : goal.returns
returns c =
    flag_is (found_of c.args.options.now) c.args.name.now c.requires c.get_flag.result c.get_flag.ensures.value c.get_flag.ensures.other
