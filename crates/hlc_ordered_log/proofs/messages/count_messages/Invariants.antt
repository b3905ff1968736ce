use Rattle.std.proofs.Common.{◌≡◌}
use Rattle.hlc_ordered_log.specs.Messages.{counts_before}
use Rattle.hlc_ordered_log.proofs.messages.count_messages.Given as goal

-- the messages of the events before the position are counted
abbrev pub invariant-loop-position : goal.invariant-loop-position
invariant-loop-position l = l.counts ≡ counts_before l.log l.position
