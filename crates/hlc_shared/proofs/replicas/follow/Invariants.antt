use Rattle.std.proofs.Common.{◌≡◌, ◌++◌, List, length, map}
use Rattle.hlc_core.specs.Timed.{TimedRequest, timed_request_of}
use Rattle.hlc_shared.specs.Replicas.{HasFollowed}
use Rattle.hlc_shared.proofs.replicas.follow.Given as goal

-- the node is the seat's, and the log has followed the steps that were taken
abbrev pub invariant-loop-step : goal.invariant-loop-step
invariant-loop-step g l = (l.seat.node ≡ l.initial.seat.node)
    × ((taken : List TimedRequest) × (map timed_request_of l.fn.steps.items ≡ taken ++ map timed_request_of l.rest.items) × HasFollowed taken l.initial.seat.log l.seat.log)

abbrev pub decreases-loop-step : goal.decreases-loop-step
decreases-loop-step g l = length l.rest.items
