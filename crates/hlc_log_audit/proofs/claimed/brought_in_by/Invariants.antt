use Rattle.std.proofs.Common.{◌≡◌, ◌<◌, ℕ, List, ◌++◌, length}
use Rattle.hlc_log_audit.specs.ClaimedWay.{claimed_way}
use Rattle.hlc_log_audit.proofs.claimed.brought_in_by.Given as goal

-- the way goes on from the event that was come to
abbrev pub invariant-loop-before : goal.invariant-loop-before
invariant-loop-before g l =
    let s = l.execution.events in
    let claimed = g.C.Claims.claimed l.claims in
    record {
      exists : l.at.0 < length s;
      rest : (rest : List ℕ) × (claimed_way s claimed l.fn.event.0 ≡ claimed_way s claimed l.at.0 ++ rest);
    }

abbrev pub decreases-loop-before : goal.decreases-loop-before
decreases-loop-before g l = l.at.0
