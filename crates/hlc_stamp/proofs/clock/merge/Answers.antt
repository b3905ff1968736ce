use Rattle.std.proofs.Common.{rules}
use Rattle.hlc_stamp.proofs.clock.merge.Goals as goal

pub returns-then-l-message-clause-above_message : goal.returns-then-l-message-clause-above_message
returns-then-l-message-clause-above_message c = search rules

pub returns-then-l-old-2-clause-above_message : goal.returns-then-l-old-2-clause-above_message
returns-then-l-old-2-clause-above_message c = search rules

pub returns-else-l-message-2-clause-above_message : goal.returns-else-l-message-2-clause-above_message
returns-else-l-message-2-clause-above_message c = search rules
