use Rattle.hlc_ordered_log.proofs.EventsInOrder.{has_clocks}
use Rattle.hlc_ordered_log.proofs.ordered_log.OrderedLog.execution.Goals as goal

pub returns-clause-clocks : goal.returns-clause-clocks
returns-clause-clocks c = has_clocks _ _ _ _ c.self.invariant _ c.self.view_is

pub returns-clause-least : goal.returns-clause-least
returns-clause-least c = c.self.invariant.execution_is.least
