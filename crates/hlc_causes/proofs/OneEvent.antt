-- Causes are local.
use Rattle.std.proofs.Common.{◌≡◌, ◌∙◌, Bool, true, false, ℕ, ◌<◌, List, length, Option, Some, None, inl, inr, refl, sym, ap}
use Rattle.std.specs.Prelude.{if◌then◌else◌, ◌↔◌, max, nat_le, not, option_map}
use Rattle.std.specs.Ordering.{is_lt}
use Rattle.std.proofs.lemmas.Bool.{cases_Bool}
use Rattle.hlc_stamp.specs.declared.id.EventId.{EventId}
use Rattle.hlc_stamp.specs.Order.{IsBelow, Pair, stamp_cmp}
use Rattle.hlc_causality.specs.Assignment.{pair_at}
use Rattle.hlc_causality.specs.ClockEvents.{ClockEvents, clock_event_at, clock_skeleton}
use Rattle.hlc_causality.specs.Predecessors.{previous_of, send_of}
use Rattle.hlc_causes.specs.CauseLaws.{CausesAreLocal}
use Rattle.hlc_causes.specs.Causes.{IsAheadOf, IsLeastWritten, NamesAhead, top_at}
use Rattle.hlc_causes.specs.Local.{if_below, is_not_after, least_there, local_causes, local_event, named_if, placed_causes}
use Rattle.hlc_causes.specs.Verdicts.{follows, if_not_above}
use Rattle.hlc_causes.proofs.CauseLaws.{ahead_named, behind_tested, event_of, named_is, names_each, none_ahead}
use Rattle.hlc_causes.proofs.Predecessors.{before, written_is}
use Rattle.hlc_causes.proofs.Tests.{below_from_test, below_is_tested}
use Rattle.hlc_causes.proofs.Written.{written_is_unique}

module _ (t : ClockEvents) (claimed : List Pair) (f : ℕ) where
  -- what a rule names is what it isn't above
  named : (o : Option ℕ) → named_if (is_not_after (local_event t claimed f) (option_map (pair_at claimed) o)) o ≡ option_map event_of (if_not_above t claimed f o)
  named None = refl
  named (Some d) = by_test (follows (clock_event_at t f).ticks (pair_at claimed d) (pair_at claimed f))
    where
      by_test : (test : Bool) → named_if (not test) (Some d) ≡ option_map event_of (if test then None else Some d)
      by_test true = refl
      by_test false = refl

  names_direct : (o : Option ℕ) (d : EventId)
      → (named_if (is_not_after (local_event t claimed f) (option_map (pair_at claimed) o)) o ≡ Some d) ↔ (if_not_above t claimed f o ≡ Some d.0)
  names_direct o d = (
    λ is. (named_is (if_not_above t claimed f o) d).0 (sym (named o) ∙ is),
    λ is. named o ∙ (named_is (if_not_above t claimed f o) d).1 is,
  )

module _ (t : ClockEvents) (claimed : List Pair) (full f : ℕ) (exists : f < length t) where
  abbrev own : Pair
  own = pair_at claimed f

  abbrev least : Pair
  least = least_there full (local_event t claimed f)

  least_is_written : IsLeastWritten t claimed (top_at claimed full f) f least
  least_is_written =
      let x = clock_event_at t f in
      written_is t claimed f exists x.ticks (before t claimed f exists) x.floor refl refl refl (top_at claimed full f) least refl

  ahead_is_named : NamesAhead t claimed full f (if_below least own)
  ahead_is_named = elim (cases_Bool (is_lt (stamp_cmp least own))) [
    | inl test ↦ rw test (ahead_named t claimed full f exists least (record { least = least_is_written; ahead = below_from_test least own test }))
    | inr test ↦ rw test (none_ahead t claimed full f exists (λ p ahead.
        let same : p ≡ least = written_is_unique t claimed f (top_at claimed full f) p least ahead.least least_is_written in
        let below : is_lt (stamp_cmp p own) ≡ true = below_is_tested p own ahead.ahead in
        let other : is_lt (stamp_cmp p own) ≡ false = ap (λ (q : Pair). is_lt (stamp_cmp q own)) same ∙ test in
        absurd cc))
  ]

pub causes_are_local : CausesAreLocal
causes_are_local t claimed full f exists =
    let s = clock_skeleton t in
    let x = clock_event_at t f in
    names_each t claimed full f exists (placed_causes (previous_of s f) (send_of s f) (local_causes full (local_event t claimed f)))
    (behind_tested t claimed f (pair_at claimed f) x.floor (is_lt (stamp_cmp (pair_at claimed f) x.floor)) refl refl refl)
    (names_direct t claimed f (previous_of s f)) (names_direct t claimed f (send_of s f)) (ahead_is_named t claimed full f exists)
