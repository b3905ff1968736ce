use Rattle.hlc_log_text.proofs.ReadFacts.{LogSoFar}
use Rattle.hlc_log_text.proofs.read.read_records.Given as goal

abbrev pub invariant-loop-count : goal.invariant-loop-count
invariant-loop-count g l = LogSoFar l.rules g.R.Read.remaining l.initial.input l.input l.reading l._count
