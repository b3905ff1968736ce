-- An event keeps the rule exactly if it does so after its own previous event.
use Rattle.std.proofs.Common.{refl, subst, sym}
use Rattle.hlc_stamp.specs.Order.{Pair}
use Rattle.hlc_causality.specs.Assignment.{pair_at}
use Rattle.hlc_causality.specs.ClockEvents.{clock_event_at, clock_skeleton}
use Rattle.hlc_causality.specs.Predecessors.{previous_of}
use Rattle.hlc_causality.proofs.FollowedClockChains.{same_pair_from, same_pair_tested}
use Rattle.hlc_causes.specs.CauseLaws.{KeptAfterPrevious}
use Rattle.hlc_causes.specs.Causes.{IsLeastWritten, top_at}
use Rattle.hlc_causes.specs.Swapped.{least_after}
use Rattle.hlc_causes.proofs.Predecessors.{before, written_is}
use Rattle.hlc_causes.proofs.Written.{written_is_unique}

pub kept_after_previous : KeptAfterPrevious
kept_after_previous t claimed full f exists =
    let x = clock_event_at t f in
    let top = top_at claimed full f in
    let own = pair_at claimed f in
    let least = least_after t claimed top f (previous_of (clock_skeleton t) f) in
    let is : IsLeastWritten t claimed top f least =
    written_is t claimed f exists x.ticks (before t claimed f exists) x.floor refl refl refl top least refl in (
      λ test. subst (λ (p : Pair). IsLeastWritten t claimed top f p) (sym (same_pair_from own least test)) is,
      λ kept. same_pair_tested own least (written_is_unique t claimed f top own least kept is),
    )
