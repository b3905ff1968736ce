-- The verdicts on a trace are those on its claimed stamps and its events, each of which ticks.
use Rattle.std.proofs.Common.{◌≡◌, ◌∙◌, Bool, cond, ℕ, List, Option, Some, None, ap, refl}
use Rattle.std.specs.Prelude.{nat_lt}
use Rattle.std.specs.Option.{option_or}
use Rattle.std.specs.Ordering.{is_le, is_lt}
use Rattle.hlc_stamp.specs.Order.{Pair, stamp_cmp}
use Rattle.hlc_causality.specs.Assignment.{pair_at}
use Rattle.hlc_causality.specs.Causality.{Skeleton}
use Rattle.hlc_causality.specs.ClockEvents.{ClockEvent, ClockEvents, clock_event_at, ticking, ticking_event}
use Rattle.hlc_causality.specs.Predecessors.{previous_of, send_of}
use Rattle.hlc_causality.proofs.ClockEvents.{ticking_at, ticking_has_the_skeleton}
use Rattle.hlc_verdict.specs.declared.claim.Claim.{Claim}
use Rattle.hlc_verdict.specs.declared.verdict.Verdict.{Verdict}
use Rattle.hlc_verdict.specs.declared.verdict.Verdict.TheVariants.{Behind}
use Rattle.hlc_verdict.specs.Trace.{claim_at, claimed_event, claimed_stamps, trace_skeleton}
use Rattle.hlc_verdict.specs.Verdict.{not_above_or, verdict_by_least}
use Rattle.hlc_verdict.specs.Verdict as traces
use Rattle.hlc_verdict.proofs.Traces.{event_at_place, stamp_at_place}
use Rattle.hlc_causes.specs.CauseLaws.{VerdictsAreThoseOfTraces}
use Rattle.hlc_causes.specs.Verdicts.{first_not_above, follows, if_not_above}
use Rattle.hlc_causes.proofs.Tests.{below_reading, unless_above}

module _ (claims : List Claim) (f : ℕ) where
  abbrev s : Skeleton
  s = trace_skeleton claims

  abbrev t : ClockEvents
  t = ticking s

  abbrev claimed : List Pair
  claimed = claimed_stamps claims

  pub event_is : clock_event_at t f ≡ ticking_event (claimed_event (claim_at claims f))
  event_is = ticking_at s f ∙ ap ticking_event (event_at_place claims f)

  same_event : (o : Option ℕ) → if_not_above t claimed f o ≡ traces.if_not_above claims f o
  same_event None = refl
  same_event (Some d) =
      ap (λ (x : ClockEvent). cond (follows x.ticks (pair_at claimed d) (pair_at claimed f)) None (Some d)) event_is
      ∙ unless_above (pair_at claimed d) (pair_at claimed f) d
      ∙ ap (λ (p : Pair). cond (is_le (stamp_cmp p (pair_at claimed d))) (Some d) None) (stamp_at_place claims f)
      ∙ ap (λ (p : Pair). cond (is_le (stamp_cmp (claim_at claims f).stamp p)) (Some d) None) (stamp_at_place claims d)

  pub same_first : first_not_above t claimed f ≡ traces.first_not_above claims f
  same_first =
      ap (λ (u : Skeleton). option_or (if_not_above t claimed f (previous_of u f)) (if_not_above t claimed f (send_of u f)))
      (ticking_has_the_skeleton s)
      ∙ ap (λ (o : Option ℕ). option_or o (if_not_above t claimed f (send_of s f))) (same_event (previous_of s f))
      ∙ ap (λ (o : Option ℕ). option_or (traces.if_not_above claims f (previous_of s f)) o) (same_event (send_of s f))

  -- the verdict by a claimed stamp, whether it is behind, and the first event that the stamp isn't above
  abbrev pub verdict_by : List Pair → Bool → Pair → Option ℕ → Verdict
  verdict_by least behind p first = cond behind Behind (not_above_or first (verdict_by_least (pair_at least f) (stamp_cmp p (pair_at least f))))

pub verdicts_are_those_of_traces : VerdictsAreThoseOfTraces
verdicts_are_those_of_traces claims least f =
    let own = claim_at claims f in
    let here = pair_at (claimed_stamps claims) f in
    let first = first_not_above (ticking (trace_skeleton claims)) (claimed_stamps claims) f in
    ap (λ (x : ClockEvent). verdict_by claims f least (is_lt (stamp_cmp here x.floor)) here first) (event_is claims f)
    ∙ ap (λ (p : Pair). verdict_by claims f least (is_lt (stamp_cmp p (record { l = own.reading; c = 0 }))) p first) (stamp_at_place claims f)
    ∙ ap (λ (behind : Bool). verdict_by claims f least behind own.stamp first) (below_reading own.stamp own.reading)
    ∙ ap (verdict_by claims f least (nat_lt own.stamp.l own.reading) own.stamp) (same_first claims f)
