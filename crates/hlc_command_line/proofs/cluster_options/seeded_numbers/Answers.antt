use Rattle.std.proofs.Common.{lit<, rules}
use Rattle.clap.specs.Matches.{found_of}
use Rattle.hlc_command_line.specs.Line.{nodes, seed, steps}
use Rattle.hlc_command_line.proofs.App.Options.{number_is, some_number}
use Rattle.hlc_command_line.proofs.cluster_options.seeded_numbers.Goals as goal

pub unwrap-nodes-requires : goal.unwrap-nodes-requires
unwrap-nodes-requires c = search (rules, some_number 16 (found_of c.args.options.now) nodes c.requires.0 (lit< tt))

pub unwrap-steps-requires : goal.unwrap-steps-requires
unwrap-steps-requires c = search (rules, some_number 32 (found_of c.args.options.now) steps c.requires.1.0 (lit< tt))

pub unwrap-seed-requires : goal.unwrap-seed-requires
unwrap-seed-requires c = search (rules, some_number 64 (found_of c.args.options.now) seed c.requires.1.1.0 (lit< tt))

pub returns : goal.returns
returns c = record {
  nodes_is = search (rules, number_is 16 (found_of c.args.options.now) nodes c.requires.0 (lit< tt));
  steps_is = search (rules, number_is 32 (found_of c.args.options.now) steps c.requires.1.0 (lit< tt));
  seed_is = search (rules, number_is 64 (found_of c.args.options.now) seed c.requires.1.1.0 (lit< tt));
}
