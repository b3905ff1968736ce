-- Claims that are judged by what was kept of those directly before them.
use Rattle.std.proofs.Common.{◌≡◌, ◌∙◌, ◌⊎◌, ℕ, ◌<◌, ◌≤◌, ◌==◌, Bool, true, false, cond, List, Option, Some, None, length, inl, inr, refl, sym, ap, subst, arith}
use Rattle.std.specs.Prelude.{nat_lt}
use Rattle.std.specs.Option.{option_or}
use Rattle.std.specs.Ordering.{is_le, nat_cmp, ordering_then}
use Rattle.std.proofs.lemmas.Bool.{cases_Bool, ne_eqb}
use Rattle.std.proofs.lemmas.Bool.Decides.{nat_tests}
use Rattle.hlc_stamp.specs.Order.{IsAtMost, IsBelow, Pair, stamp_cmp, zero_pair}
use Rattle.hlc_causality.specs.Assignment.{IsAllowedAt, IsLeast, IsLeastAbove, pair_at}
use Rattle.hlc_causality.specs.Causality.{IsDirectPredecessor, IsPrevious, IsSendOf, Skeleton, skeleton_at}
use Rattle.hlc_causality.specs.Predecessors.{previous_of, send_of}
use Rattle.hlc_causality.proofs.LeastList.{each_from_least}
use Rattle.hlc_causality.proofs.Predecessors.{previous_is_unique, send_is_unique}
use Rattle.hlc_causality.proofs.PredecessorsFound.{Finds, previous_found, send_found}
use Rattle.hlc_verdict.specs.declared.claim.Claim.{Claim}
use Rattle.hlc_verdict.specs.declared.verdict.Verdict.{Verdict}
use Rattle.hlc_verdict.specs.declared.verdict.Verdict.TheVariants.{Behind}
use Rattle.hlc_verdict.specs.Trace.{claim_at, claimed_event, trace_skeleton}
use Rattle.hlc_verdict.specs.Verdict.{first_not_above, if_not_above, not_above_or, verdict_by_least, verdict_of}
use Rattle.hlc_verdict.proofs.Traces.{event_at_place, length_trace}
use Rattle.hlc_verdict.specs.Judged.{IsLeastAfter, if_not_above_it, judged_at, verdict_after}
use Rattle.hlc_verdict.specs.JudgedLaws.{ClaimsAreJudgedOneByOne, judged_before, judged_send}
use Rattle.hlc_verdict.specs.declared.judged.Judged.{Judged}

-- what is above the pair of an event that is found, and whose l isn't 0, is above what was kept of it, or of none
above_judged : (claims : List Claim) (least : List Pair) (P : ℕ → Type 0) (found : Option ℕ) (q : Pair) → Finds P found → 1 ≤ q.l
    → ((d : ℕ) → P d → IsBelow (pair_at least d) q) → IsBelow (judged_at claims least found).least q
above_judged claims least P None q finds some above = inl (omega (arith, some))
above_judged claims least P (Some d) q finds some above = above d finds

-- and the other way round
judged_above : (claims : List Claim) (least : List Pair) (P : ℕ → Type 0) (found : Option ℕ) (q : Pair) → Finds P found
    → ((d e : ℕ) → P d → P e → d ≡ e) → IsBelow (judged_at claims least found).least q → (d : ℕ) → P d → IsBelow (pair_at least d) q
judged_above claims least P None q finds unique below d is = absurd (finds d is)
judged_above claims least P (Some e) q finds unique below d is = subst (λ (x : ℕ). IsBelow (pair_at least x) q) (unique e d finds is) below

-- the pair of two numbers
abbrev with_parts : ℕ → ℕ → Pair
with_parts l c = record { l = l; c = c }

-- two pairs of which each is at most the other
same_pair : (p q : Pair) → IsAtMost p q → IsAtMost q p → p ≡ q
same_pair p q a b =
    let l : p.l ≡ q.l = grind (arith, a, b) in
    let c : p.c ≡ q.c = grind (arith, a, b) in
    ap (λ (n : ℕ). with_parts n p.c) l ∙ ap (with_parts q.l) c

-- a stamp whose l isn't 0 is above (0, 0)
above_none : (stamp : Pair) → 1 ≤ stamp.l → is_le (stamp_cmp stamp zero_pair) ≡ false
above_none stamp some =
    let not_less : nat_lt stamp.l 0 ≡ false = grind (arith, nat_tests, some) in
    let other : (stamp.l == 0) ≡ false = ne_eqb stamp.l 0 (λ e. absurd (omega arith)) in
    rw (not_less, other) refl

-- so no event stands for one that isn't there
same_not_above : (claims : List Claim) (least : List Pair) (f : ℕ) (found : Option ℕ) → 1 ≤ (claim_at claims f).stamp.l
    → if_not_above_it (claim_at claims f).stamp (judged_at claims least found) ≡ if_not_above claims f found
same_not_above claims least f None some = rw (above_none (claim_at claims f).stamp some) refl
same_not_above claims least f (Some d) some = refl

-- the verdict by what was kept is the one on the list
same_verdict : (claims : List Claim) (least : List Pair) (f : ℕ) → 1 ≤ (claim_at claims f).reading
    → verdict_after (judged_before claims least f) (judged_send claims least f) (claim_at claims f).reading (claim_at claims f).stamp (pair_at least f)
    ≡ verdict_of claims least f
same_verdict claims least f some =
    let claim = claim_at claims f in
    elim (cases_Bool (nat_lt claim.stamp.l claim.reading)) [
      | inl behind ↦ rw behind refl
      | inr not_behind ↦
          let stamped : 1 ≤ claim.stamp.l = grind (arith, nat_tests, not_behind, some) in
          rw not_behind (rw (
            same_not_above claims least f (previous_of (trace_skeleton claims) f) stamped,
            same_not_above claims least f (send_of (trace_skeleton claims) f) stamped,
          ) refl)
    ]

-- the least pair after what was kept is that of the least assignment
same_least : (claims : List Claim) (least : List Pair) (f : ℕ) (p : Pair) → IsLeast (trace_skeleton claims) least → f < length claims
    → 1 ≤ (claim_at claims f).reading
    → IsLeastAfter (judged_before claims least f).least (judged_send claims least f).least (claim_at claims f).reading p → p ≡ pair_at least f
same_least claims least f p is_least within some after =
    let s = trace_skeleton claims in
    let exists : f < length s = omega (arith, length_trace claims, within) in
    let each : IsLeastAbove s least f (pair_at least f) = each_from_least s least is_least f exists in
    let reads : (skeleton_at s f).reading ≡ (claim_at claims f).reading = ap (λ event. event.reading) (event_at_place claims f) in
    let before = previous_found s f exists in
    let send = send_found s f exists in
    let previous = λ (d : ℕ). IsPrevious s d f in
    let sends = λ (d : ℕ). IsSendOf s d f in
    let x = pair_at least f in
    let read : (claim_at claims f).reading ≤ x.l = omega (arith, reads, each.allowed.not_behind) in
    let x_above_old = above_judged claims least previous (previous_of s f) x before (omega (arith, some, read)) (λ d is. each.allowed.above d (inl is)) in
    let x_above_sent = above_judged claims least sends (send_of s f) x send (omega (arith, some, read)) (λ d is. each.allowed.above d (inr is)) in
    let low : IsAtMost p x = after.least x x_above_old x_above_sent read in
    let old_above = judged_above claims least previous (previous_of s f) p before (λ d e is also. previous_is_unique s d e f is also) after.above_old in
    let sent_above = judged_above claims least sends (send_of s f) p send (λ d e is also. send_is_unique s d e f is also) after.above_sent in
    let p_allowed : IsAllowedAt s least f p = record {
      above = λ d is. elim is [ inl is_previous ↦ old_above d is_previous | inr is_send ↦ sent_above d is_send ];
      not_behind = omega (arith, reads, after.not_behind);
    } in
    same_pair p x low (each.least p p_allowed)

pub claims_are_judged_one_by_one : ClaimsAreJudgedOneByOne
claims_are_judged_one_by_one claims least f p is_least within some after =
    let same = same_least claims least f p is_least within some after in
    (same, rw same (same_verdict claims least f some))
