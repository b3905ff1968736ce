use Rattle.hlc_log_text.proofs.NamedLogs.{is_as_read}
use Rattle.hlc_log_text.proofs.laws.named_logs_are_as_read.Goals as goal

pub returns : goal.returns
returns c events text h named = is_as_read events text h named
