use Rattle.std.specs.Iterator.Adapters.{enumerate_count, enumerate_source}
use Rattle.hlc_verdict.proofs.OneMoreVerdict.{IsWritten}
use Rattle.hlc_verdict.proofs.judging.write_verdicts.Given as goal

abbrev pub invariant-loop-place : goal.invariant-loop-place
invariant-loop-place g l =
    IsWritten g.V.FromVerdict.told l.fn.left (enumerate_source l.place-iterator) (enumerate_count l.place-iterator) l.verdicts
