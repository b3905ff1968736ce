use Rattle.hlc_log_commands.proofs.FollowingFacts.{lines-at, lines-one}
use Rattle.hlc_log_commands.proofs.following.first_line.Goals as goal

pub returns-in-Some-clause-lines : goal.returns-in-Some-clause-lines
returns-in-Some-clause-lines c =
    lines-at c.args.text.now c.in-Some.at c.split_at.result.0.now c.split_at.result.1.now c.in-Some.ensures c.split_at.ensures.front c.split_at.ensures.back

pub returns-in-None-clause-lines : goal.returns-in-None-clause-lines
returns-in-None-clause-lines c =
    let split = c.split_at-in-None in
    lines-one c.args.text.now split.result.0.now split.result.1.now c.in-None.ensures split.ensures.front split.ensures.back
