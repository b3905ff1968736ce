use Rattle.hlc_held.specs.Seats.{log_at}
use Rattle.hlc_shared.specs.Close.{EachAgrees}
use Rattle.hlc_shared.proofs.closed.compare_logs.Given as goal

-- the logs of the nodes so far agree
abbrev pub invariant-loop-node : goal.invariant-loop-node
invariant-loop-node l = EachAgrees l.history.events l.node (log_at l.logs)
