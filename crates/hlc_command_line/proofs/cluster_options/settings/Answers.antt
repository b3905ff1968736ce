use Rattle.std.proofs.Common.{lit<, rules}
use Rattle.clap.specs.Matches.{found_of}
use Rattle.hlc_command_line.specs.Line.{capacity, nodes}
use Rattle.hlc_command_line.proofs.App.Options.{number_is, some_number}
use Rattle.hlc_command_line.proofs.cluster_options.settings.Goals as goal

pub unwrap-requires : goal.unwrap-requires
unwrap-requires c = search (rules, some_number 16 (found_of c.args.options.now) nodes c.requires.0 (lit< tt))

pub unwrap-requires-2 : goal.unwrap-requires-2
unwrap-requires-2 c = search (rules, some_number 32 (found_of c.args.options.now) capacity c.requires.1.0 (lit< tt))

pub returns : goal.returns
returns c = record {
  nodes_is = search (rules, number_is 16 (found_of c.args.options.now) nodes c.requires.0 (lit< tt));
  capacity_is = search (rules, number_is 32 (found_of c.args.options.now) capacity c.requires.1.0 (lit< tt));
  limit_is = c.drift_limit.ensures;
}
