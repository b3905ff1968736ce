use Rattle.std.proofs.Common.{◌∙◌, ap}
use Rattle.hlc_ordered_log.specs.Messages.{message_counts}
use Rattle.hlc_log_audit.proofs.audit.push_counted_report.Goals as goal

pub push_report-requires-clause-messages : goal.push_report-requires-clause-messages
push_report-requires-clause-messages g c = c.count_messages-messages.ensures ∙ ap message_counts c.ordered-ordered.ensures.value
