use Rattle.std.proofs.Common.{rules}
use Rattle.hlc_trace.proofs.trace_word.TraceWord.parse.Goals as goal

pub returns-then-eq-3 : goal.returns-then-eq-3
returns-then-eq-3 c = search rules

pub returns-else-eq-4 : goal.returns-else-eq-4
returns-else-eq-4 c = search rules
