-- Verdicts by what was kept of the events directly before.
use Rattle.std.specs.Prelude.{◌≡◌, ℕ, ◌≤◌, Option, Some, None, List, nat_lt, if◌then◌else◌}
use Rattle.std.specs.Option.{option_or}
use Rattle.std.specs.Ordering.{is_le}
use Rattle.hlc_stamp.specs.Order.{IsAtMost, IsBelow, Pair, stamp_cmp, zero_pair}
use Rattle.hlc_causality.specs.Assignment.{pair_at}
use Rattle.hlc_verdict.specs.declared.claim.Claim.{Claim}
use Rattle.hlc_verdict.specs.declared.verdict.Verdict.{Verdict}
use Rattle.hlc_verdict.specs.declared.verdict.Verdict.TheVariants.{Behind}
use Rattle.hlc_verdict.specs.Trace.{claim_at}
use Rattle.hlc_verdict.specs.Verdict.{not_above_or, verdict_by_least}
use Rattle.hlc_verdict.specs.declared.judged.Judged.{Judged}

-- an event, if a stamp is at most the one that was claimed for it
abbrev pub if_not_above_it : (stamp : Pair) → Judged → Option ℕ
if_not_above_it stamp before = if is_le (stamp_cmp stamp before.claimed) then Some before.event.0 else None

-- the verdict on a stamp, by the node's event before, the send that is received, and the least pair
abbrev pub verdict_after : (old sent : Judged) (reading : ℕ) (stamp least : Pair) → Verdict
verdict_after old sent reading stamp least =
    if nat_lt stamp.l reading then Behind
    else not_above_or (option_or (if_not_above_it stamp old) (if_not_above_it stamp sent)) (verdict_by_least least (stamp_cmp stamp least))

-- of all pairs, the least that may come after two others: above both, and not behind the reading
pub record IsLeastAfter (old sent : Pair) (reading : ℕ) (p : Pair) : Type 0 where
  pub above_old : IsBelow old p
  pub above_sent : IsBelow sent p
  pub not_behind : reading ≤ p.l
  pub least : (q : Pair) → IsBelow old q → IsBelow sent q → reading ≤ q.l → IsAtMost p q

-- what is kept of the claim at a place, with its least pair, or of none
abbrev pub judged_at : List Claim → List Pair → Option ℕ → Judged
judged_at claims least None = record { event = record { 0 = 0 }; claimed = zero_pair; least = zero_pair }
judged_at claims least (Some e) = record { event = record { 0 = e }; claimed = (claim_at claims e).stamp; least = pair_at least e }
