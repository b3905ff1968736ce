use Rattle.std.proofs.Common.{arith}
use Rattle.std.proofs.lemmas.List.{drop_all}
use Rattle.hlc_log_line.proofs.dotted.end_with_stamp_or_none.Goals as goal

pub returns-then-stamp-eq0-2-clause-text : goal.returns-then-stamp-eq0-2-clause-text
returns-then-stamp-eq0-2-clause-text c =
    rw (c.if-stamp-eq0.true, c.if-stamp-eq0-2.true) (drop_all 31 c.args.text.now (omega (arith, c.told-text)))
