use Rattle.std.proofs.Common.{◌≡◌}
use Rattle.hlc_held.specs.LogEntry.{log_of}
use Rattle.hlc_table.specs.NodeWalk.{StandsAt}
use Rattle.hlc_held.proofs.LogWalks.{FollowedTo}
use Rattle.hlc_held.proofs.agreement.follow_all.Given as goal

-- the entries so far were followed to the next event
abbrev pub invariant-loop-entry : goal.invariant-loop-entry
invariant-loop-entry l =
    let events = l.history.events in
    record {
      node : l.walk.node ≡ l.fn.walk.node;
      stands : StandsAt events l.walk;
      followed : FollowedTo events l.fn.walk.node (log_of l.log) l.entry-index l.walk.next;
    }
