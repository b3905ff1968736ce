use Rattle.std.specs.Iterator.Adapters.{enumerate_count, enumerate_source}
use Rattle.hlc_trace.proofs.TraceFacts.{HasTold}
use Rattle.hlc_trace.proofs.trace.tell_verdicts.Given as goal

abbrev pub invariant-loop-place : goal.invariant-loop-place
invariant-loop-place g l =
    let contents = g.W.Write.contents in
    let told = enumerate_count l.place-iterator in
    HasTold l.fn.verdicts told (enumerate_source l.place-iterator) (contents l.fn.writer) (contents l.writer) l.rows
