use Rattle.hlc_watched_log.proofs.SoFar.{SoFar}
use Rattle.hlc_watched_log.proofs.watching.watch_records.Given as goal

abbrev pub invariant-loop-count : goal.invariant-loop-count
invariant-loop-count g l =
    SoFar l.rules g.R.Read.remaining l.initial.input l.input l.headers.items l.log (g.W.Write.contents l.initial.writer) (g.W.Write.contents l.writer) l._count
