use Rattle.hlc_log_commands.proofs.FollowingFacts.{parts_are}
use Rattle.hlc_log_commands.proofs.following.input_in_parts.Goals as goal

pub returns : goal.returns
returns c = parts_are
