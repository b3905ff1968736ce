use Rattle.std.proofs.Common.{arith}
use Rattle.hlc_csv.proofs.RunFacts.{plain-more}
use Rattle.hlc_csv.proofs.record_parser.plain_run.Goals as goal

pub loop-place-preserved : goal.loop-place-preserved
loop-place-preserved c = plain-more c.args.bytes.now c.loop-place.place c.loop-place-test.true c.loop-place.invariant (omega arith)
