-- Claims that are judged one by one are judged as all together.
use Rattle.std.specs.Prelude.{◌≡◌, ℕ, ◌<◌, ◌≤◌, List, length}
use Rattle.hlc_stamp.specs.Order.{Pair}
use Rattle.hlc_causality.specs.Assignment.{IsLeast, pair_at}
use Rattle.hlc_causality.specs.Predecessors.{previous_of, send_of}
use Rattle.hlc_verdict.specs.declared.claim.Claim.{Claim}
use Rattle.hlc_verdict.specs.Trace.{claim_at, trace_skeleton}
use Rattle.hlc_verdict.specs.Verdict.{verdict_of}
use Rattle.hlc_verdict.specs.Judged.{IsLeastAfter, judged_at, verdict_after}
use Rattle.hlc_verdict.specs.declared.judged.Judged.{Judged}

-- what is kept of the event before the one at f of its node, and of the send that this one receives
abbrev pub judged_before : List Claim → List Pair → ℕ → Judged
judged_before claims least f = judged_at claims least (previous_of (trace_skeleton claims) f)

abbrev pub judged_send : List Claim → List Pair → ℕ → Judged
judged_send claims least f = judged_at claims least (send_of (trace_skeleton claims) f)

-- the least pair after those that were kept is that of the least assignment, and the verdict by what was kept is the one on the list
abbrev pub ClaimsAreJudgedOneByOne : Type 0
ClaimsAreJudgedOneByOne = (claims : List Claim) (least : List Pair) (f : ℕ) (p : Pair) → IsLeast (trace_skeleton claims) least → f < length claims →
    1 ≤ (claim_at claims f).reading →
    IsLeastAfter (judged_before claims least f).least (judged_send claims least f).least (claim_at claims f).reading p →
    (p ≡ pair_at least f) × (verdict_after (judged_before claims least f) (judged_send claims least f) (claim_at claims f).reading
    (claim_at claims f).stamp p ≡ verdict_of claims least f)
