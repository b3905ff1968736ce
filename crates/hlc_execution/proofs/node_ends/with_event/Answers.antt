use Rattle.hlc_execution.proofs.NodeEnds.{ends_begin, ends_overtaken, ends_stay}
use Rattle.hlc_execution.proofs.node_ends.with_event.Goals as goal

pub returns-in_default-clause-right : goal.returns-in_default-clause-right
returns-in_default-clause-right c = rw c.in_default.is (ends_begin c.args.event c.args.drift)

pub returns-then-drift-ends-clause-right : goal.returns-then-drift-ends-clause-right
returns-then-drift-ends-clause-right c = rw c.in-Some.is (ends_overtaken c.in-Some.ends c.args.event c.args.drift c.if-drift-ends.true)

pub returns-else-drift-ends-clause-right : goal.returns-else-drift-ends-clause-right
returns-else-drift-ends-clause-right c = rw c.in-Some.is (ends_stay c.in-Some.ends c.args.event c.args.drift c.if-drift-ends.false)
