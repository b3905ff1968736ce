-- What a clock does at a receive, and what its rule reads of events.
use Rattle.std.specs.Prelude.{◌≡◌, ◌↔◌, ℕ, false, is_some, List, [], ◌∷◌, Option, Some, None, if◌then◌else◌, slice_index_or}
use Rattle.hlc_stamp.specs.Order.{Pair, zero_pair}
use Rattle.hlc_causality.specs.declared.event_rule.EventRule.{EventRule}
use Rattle.hlc_causality.specs.declared.receives.Receives.{Receives}
use Rattle.hlc_causality.specs.declared.receives.Receives.TheVariants.{Merge, MergeClock, Tick}
use Rattle.hlc_causality.specs.Causality.{IsPrevious, IsSendOf, Skeleton, SkeletonEvent}
use Rattle.hlc_causality.specs.ClockEvents.{ClockEvent, ClockEvents, clock_skeleton, ticking, ticking_event}

-- an event that doesn't tick
abbrev pub merging_event : Pair → SkeletonEvent → ClockEvent
merging_event floor x = record { node = x.node; floor = floor; ticks = false; send = x.send }

-- a receive: it ticks, or it merges, and then its floor is its reading only if the clock is read
abbrev pub receive_event : Receives → SkeletonEvent → ClockEvent
receive_event Tick x = ticking_event x
receive_event Merge x = merging_event zero_pair x
receive_event MergeClock x = merging_event (record { l = x.reading; c = 0 }) x

-- an event: each that receives nothing ticks
abbrev pub clock_event : Receives → SkeletonEvent → ClockEvent
clock_event receives x = if is_some x.send then receive_event receives x else ticking_event x

-- an event with a rule of its own
abbrev pub ruled_event : EventRule → SkeletonEvent → ClockEvent
ruled_event rule x = record { node = x.node; floor = rule.floor; ticks = rule.ticks; send = x.send }

-- an event: it has a rule of its own, or that of clocks with such receives
abbrev pub event_by : Receives → Option EventRule → SkeletonEvent → ClockEvent
event_by receives None x = clock_event receives x
event_by receives (Some rule) x = ruled_event rule x

-- the rules of clocks: what they do at receives, and the rules that events have of their own, by their places
pub record ClockRules : Type 0 where
  pub receives : Receives
  pub own : List (Option EventRule)

-- the rule that the event at a place has of its own, if it has one
abbrev pub own_at : ClockRules → ℕ → Option EventRule
own_at rules e = slice_index_or rules.own e None

-- the rules of clocks with such receives, where no event has one of its own
abbrev pub plain_rules : Receives → ClockRules
plain_rules receives = record { receives = receives; own = [] }

-- the events as such clocks read them, each with the next of the rules that events have of their own
abbrev pub ruled_events : Receives → List (Option EventRule) → Skeleton → ClockEvents
ruled_events receives own [] = []
ruled_events receives [] (x ∷ s) = clock_event receives x ∷ ruled_events receives [] s
ruled_events receives (rule ∷ own) (x ∷ s) = event_by receives rule x ∷ ruled_events receives own s

-- the events as the rules of clocks read them
abbrev pub clock_events : ClockRules → Skeleton → ClockEvents
clock_events rules s = ruled_events rules.receives rules.own s

-- where receives tick, each event does, if none has a rule of its own
abbrev pub TickingReceivesTick : Type 0
TickingReceivesTick = (s : Skeleton) → clock_events (plain_rules Tick) s ≡ ticking s

-- whatever the rules, the previous events and the sends are the same
abbrev pub RulesKeepPrevious : Type 0
RulesKeepPrevious = (rules : ClockRules) (s : Skeleton) (e f : ℕ) →
    IsPrevious s e f ↔ IsPrevious (clock_skeleton (clock_events rules s)) e f

abbrev pub RulesKeepSends : Type 0
RulesKeepSends = (rules : ClockRules) (s : Skeleton) (e f : ℕ) →
    IsSendOf s e f ↔ IsSendOf (clock_skeleton (clock_events rules s)) e f
