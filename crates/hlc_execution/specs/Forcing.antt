-- Which direct predecessor is the forcing event of an event.
use Rattle.std.specs.Prelude.{◌≡◌, ℕ, ◌<◌, Bool, false, Option, Some, None, List, length, slice_index_or, if◌then◌else◌}
use Rattle.std.specs.Option.{option_map}
use Rattle.hlc_stamp.specs.declared.id.EventId.{EventId}
use Rattle.hlc_stamp.specs.Order.{Pair}
use Rattle.hlc_causality.specs.Assignment.{pair_at}
use Rattle.hlc_causality.specs.Causality.{Skeleton, skeleton_at}
use Rattle.hlc_causality.specs.ClockEvents.{ClockEvent}
use Rattle.hlc_causality.specs.FollowedClockChains.{is_by_itself, is_same_pair}
use Rattle.hlc_causality.specs.LeastFeasible.{next_pair}
use Rattle.hlc_causality.specs.ReceiveEvents.{ClockRules, event_by, own_at}
use Rattle.hlc_execution.specs.declared.slot.Forced.{Forced}
use Rattle.hlc_execution.specs.declared.slot.Forced.TheVariants.{ByPrevious, BySend, Not}
use Rattle.hlc_execution.specs.Links.{link_at}

-- the direct predecessor that is the forcing event
abbrev pub forcing_by : Forced → Option EventId → Option EventId → Option EventId
forcing_by Not previous send = None
forcing_by ByPrevious previous send = previous
forcing_by BySend previous send = send

-- whether there is a previous event, and a pair is next to its
abbrev pub is_after : Bool → Option Pair → Pair → Bool
is_after ticks None p = false
is_after ticks (Some before) p = is_same_pair (next_pair ticks before) p

-- which direct predecessor is the forcing event of an event with a pair, by the pair of the previous event
abbrev pub forced_by : ClockEvent → Pair → Option Pair → Forced
forced_by x p before = if is_by_itself x p then Not else (if is_after x.ticks before p then ByPrevious else BySend)

-- the pair of an event, if there is one
abbrev pub pair_of : List Pair → Option EventId → Option Pair
pair_of pairs event = option_map (λ id. pair_at pairs id.0) event

-- the event at a place as its rule reads it
abbrev pub rule_event : ClockRules → Skeleton → ℕ → ClockEvent
rule_event rules events k = event_by rules.receives (own_at rules k) (skeleton_at events k)

-- what is kept at each place says which direct predecessor is its forcing event
abbrev pub AreForced : ClockRules → Skeleton → List Pair → List (Option EventId) → List Forced → Type 0
AreForced rules events pairs previous kept = (k : ℕ) → k < length pairs →
    slice_index_or kept k Not ≡ forced_by (rule_event rules events k) (pair_at pairs k) (pair_of pairs (link_at previous k))
