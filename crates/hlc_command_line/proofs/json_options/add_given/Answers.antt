use Rattle.std.proofs.lemmas.Result.{on_ok_weaker}
use Rattle.clap.specs.Matches.{found_of}
use Rattle.clap.specs.Walk.{rows_of}
use Rattle.hlc_command_line.proofs.JsonFacts.{no_kind, rules_are}
use Rattle.hlc_command_line.proofs.LineFacts.{if_err}
use Rattle.hlc_command_line.proofs.json_options.add_given.Goals as goal

pub returns-clause-added : goal.returns-clause-added
returns-clause-added c =
    on_ok_weaker c.add_kinds_given.result
    (λ kinds. rules_are (rows_of (found_of c.args.options.now)) _ _ _ c.requires c.in_ok-add_paths_given.ensures.added kinds) c.add_kinds_given.ensures.added

pub returns-clause-other : goal.returns-clause-other
returns-clause-other c =
    if_err c.add_kinds_given.result c.add_kinds_given.ensures.other (no_kind (rows_of (found_of c.args.options.now)))
