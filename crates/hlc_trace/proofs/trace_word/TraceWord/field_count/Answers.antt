use Rattle.std.proofs.Common.{rules}
use Rattle.hlc_trace.proofs.trace_word.TraceWord.field_count.Goals as goal

pub returns-in-Receive : goal.returns-in-Receive
returns-in-Receive c = search rules
