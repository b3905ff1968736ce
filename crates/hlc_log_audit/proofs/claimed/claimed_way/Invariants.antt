use Rattle.std.proofs.Common.{◌≡◌, ◌<◌, List, ◌∷◌, ◌++◌, length, reverse}
use Rattle.hlc_stamp.specs.Ids.{places_of}
use Rattle.hlc_stamp.specs.declared.id.EventId.{EventId}
use Rattle.hlc_log_audit.specs.ClaimedWay.{claimed_way}
use Rattle.hlc_log_audit.proofs.claimed.claimed_way.Given as goal

-- so far the way goes, from its end, to the event at which it came to be at
abbrev pub invariant-loop-before : goal.invariant-loop-before
invariant-loop-before g l =
    let s = l.execution.events in
    let claimed = g.C.Claims.claimed l.claims in
    record {
      exists : l.at.0 < length s;
      rest : (rest : List EventId) × (reverse l.way.items ≡ l.at ∷ rest)
          × (claimed_way s claimed l.fn.event.0 ≡ claimed_way s claimed l.at.0 ++ places_of rest);
    }

abbrev pub decreases-loop-before : goal.decreases-loop-before
decreases-loop-before g l = l.at.0
