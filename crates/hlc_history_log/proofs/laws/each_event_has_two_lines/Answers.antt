use Rattle.hlc_history_log.proofs.LineFeeds.{two_lines_each}
use Rattle.hlc_history_log.proofs.laws.each_event_has_two_lines.Goals as goal

pub returns : goal.returns
returns c = two_lines_each
