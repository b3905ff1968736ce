use Rattle.std.proofs.Common.{◌≡◌, ◌-◌, ℕ, Option, Some, None, length}
use Rattle.hlc_stamp.specs.declared.id.EventId.{EventId}
use Rattle.hlc_table.specs.NodeWalk.{StandsAt}
use Rattle.hlc_examples.proofs.rebuilt_tables.rebuild_table.Given as goal

-- how many places are left from the next event on
abbrev pub events_left : ℕ → Option EventId → ℕ
events_left n None = 0
events_left n (Some e) = n - e.0

-- the walk stands at the node's next event
abbrev pub invariant-loop-walk : goal.invariant-loop-walk
invariant-loop-walk l = record {
  node : l.walk.node ≡ l.fn.node.0;
  stands : StandsAt l.history.events l.walk;
}

abbrev pub decreases-loop-walk : goal.decreases-loop-walk
decreases-loop-walk l = events_left (length l.history.events) l.walk.next
