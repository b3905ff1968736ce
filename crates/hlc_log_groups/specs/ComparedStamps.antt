-- The stamps of a cause: the one that breaks the rule, and the one with which the rule compares it.
use Rattle.std.specs.Prelude.{ℕ, Option, Some, None}
use Rattle.hlc_stamp.specs.Order.{Pair}
use Rattle.hlc_stamp.specs.declared.id.EventId.{EventId}
use Rattle.hlc_causality.specs.Assignment.{pair_at}
use Rattle.hlc_causality.specs.ClockEvents.{clock_event_at}
use Rattle.hlc_log.specs.Events.{event_at}
use Rattle.hlc_log.specs.OrderSkeleton.{index_in}
use Rattle.hlc_ordered_log.specs.InOrder.{LogInOrder, clocks_of, event_in_order, seen_of}
use Rattle.hlc_log_groups.specs.declared.broken_rule.BrokenRule.{BrokenRule}
use Rattle.hlc_log_groups.specs.declared.broken_rule.BrokenRule.TheVariants as rule
use Rattle.hlc_log_groups.specs.declared.cause_place.CausePlace.{CausePlace}

-- what the event at a position saw claimed at another one, if there is one, or else its floor
abbrev pub seen_or_floor : LogInOrder → (k : ℕ) → (compared : Option EventId) → Pair
seen_or_floor log k None = (clock_event_at (clocks_of log) k).floor
seen_or_floor log k (Some d) = pair_at (seen_of log k) d.0

-- what the event of a cause saw where the rule looks
abbrev pub seen_pair : LogInOrder → CausePlace → Pair
seen_pair log place = seen_or_floor log (index_in log.order place.event.0) place.compared

-- the stamp that breaks the rule: the one that the event claims, or that its message carried
abbrev pub told_pair : LogInOrder → BrokenRule → CausePlace → Pair
told_pair log rule.Carried place = seen_pair log place
told_pair log _ place = (event_at log.events place.event.0).stamp

-- what the log claims there
abbrev pub logged_or : LogInOrder → (compared : Option EventId) → (seen : Pair) → Pair
logged_or log None seen = seen
logged_or log (Some d) seen = (event_in_order log.events log.order d.0).stamp

abbrev pub logged_pair : LogInOrder → CausePlace → Pair
logged_pair log place = logged_or log place.compared (seen_pair log place)

-- the stamp with which the rule compares that: what the event saw, or what the send claims whose message carried another one
abbrev pub asked_pair : LogInOrder → BrokenRule → CausePlace → Pair
asked_pair log rule.Carried place = logged_pair log place
asked_pair log _ place = seen_pair log place
