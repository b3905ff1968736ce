use Rattle.hlc_ordered_log.specs.InOrder.{AreFilled, AreGivenBefore, log_in_order}
use Rattle.hlc_ordered_log.proofs.giving.give_stamps.Given as goal

-- the events before the position have their stamps
abbrev pub invariant-loop-position : goal.invariant-loop-position
invariant-loop-position l = record {
  filled : AreFilled l.initial.log.events l.log.events;
  given : AreGivenBefore (log_in_order l.log l.order l.execution) l.position;
}
