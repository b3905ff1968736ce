use Rattle.std.proofs.Common.{◌≡◌, ◌<◌, ℕ, length, true}
use Rattle.hlc_arena.specs.Known.{cut_at}
use Rattle.hlc_arena.specs.NodeEvents.{IsEventOf}
use Rattle.hlc_table.specs.NodeWalk.{StandsAt, place_of_next}
use Rattle.hlc_table.proofs.SnapshotCuts.{events_left}
use Rattle.hlc_table.proofs.snapshots.snapshot.Given as goal

-- the walk stands at the node's next event, and all that it passed is in the cut
abbrev pub invariant-loop-stamp : goal.invariant-loop-stamp
invariant-loop-stamp l =
    let events = l.history.events in
    record {
      node : l.walk.node ≡ l.fn.node.0;
      stands : StandsAt events l.walk;
      in_cut : (d : ℕ) → IsEventOf events l.fn.node.0 d → d < place_of_next events l.walk.next → cut_at events l.fn.stamp d ≡ true;
    }

abbrev pub decreases-loop-stamp : goal.decreases-loop-stamp
decreases-loop-stamp l = events_left (length l.history.events) l.walk.next
