-- The events of a log in order, and those that answers name.
use Rattle.std.proofs.Common.{◌≡◌, ◌∙◌, Bool, true, false, cond, ℕ, ◌<◌, inl, inr, List, length, Option, Some, None, arith, refl, subst, sym, ap}
use Rattle.std.specs.Prelude.{IfSome}
use Rattle.std.proofs.lemmas.Bool.{cases_Bool}
use Rattle.std.proofs.lemmas.List.Elements.{All-get_or}
use Rattle.hlc_stamp.specs.declared.id.EventId.{EventId}
use Rattle.hlc_stamp.specs.Order.{Pair}
use Rattle.hlc_causality.specs.Assignment.{pair_at}
use Rattle.hlc_causality.specs.Causality.{IsPrevious, IsSendOf, Skeleton, SkeletonEvent, skeleton_at}
use Rattle.hlc_causality.specs.ClockEvents.{ClockEvents, clock_event_at, clock_skeleton}
use Rattle.hlc_causality.specs.Predecessors.{previous_of, send_of}
use Rattle.hlc_causality.proofs.ClockEvents.{skeleton_size}
use Rattle.hlc_causality.proofs.PredecessorsFound.{previous_found, send_found}
use Rattle.hlc_causes.specs.Causes.{IsNotAbovePrevious, IsNotAboveSend, no_causes}
use Rattle.hlc_causes.proofs.CauseLaws.{causes_are_named, causes_are_unique}
use Rattle.hlc_causes.specs.declared.answers.Causes.{Causes}
use Rattle.hlc_causes.specs.declared.answers.Cause.TheVariants as cause
use Rattle.hlc_causes.specs.Verdicts.{follows, if_not_above}
use Rattle.hlc_causes.proofs.Disorder.{some_is_so}
use Rattle.hlc_log.specs.CausalOrder.{place_at}
use Rattle.hlc_log.specs.Events.{no_event}
use Rattle.hlc_log.specs.declared.log_event.LogEvent.{LogEvent}
use Rattle.hlc_log.proofs.OrderSkeletons.{place_exists, same_position, skeleton_in_at}
use Rattle.hlc_ordered_log.specs.Found.{NameEvents, NamesCausesAt, NamesCausesIn}
use Rattle.hlc_ordered_log.specs.InOrder.{IsInOrder, LogInOrder, carried_of, claimed_of, clocks_of, reading_told, seen_of, skeleton_of, stamp_told, wrong_of}
use Rattle.hlc_ordered_log.proofs.Found.{all_if_told, none_if_untold, told_has_all, untold_has_none}
use Rattle.hlc_causes.specs.Seen.{wrong_among}
use Rattle.hlc_causality.specs.FollowedClockChains.{is_same_pair}
use Rattle.hlc_ordered_log.specs.Skew.{NamesSkewBefore}
use Rattle.hlc_ordered_log.specs.declared.skew.Skew.{Skew}
use Rattle.hlc_ordered_log.proofs.Ordering.{order_len}
use Rattle.hlc_ordered_log.proofs.EventsInOrder.{length-clocks_of, length-skeleton_of}
use Rattle.hlc_log_audit.specs.Report.{IsSkewOfEvents}

-- each event has its causes, and one answer tells them
module _ (log : LogInOrder) (full k : ℕ) (exists : k < length (clocks_of log)) where
  pub causes_in : (causes : Causes) × NamesCausesIn log full k causes
  causes_in = elim (cases_Bool (stamp_told log k)) [
    | inl told ↦
        let answer = causes_are_named (clocks_of log) (seen_of log k) full k exists in
        (answer.0, told_has_all log full k answer.0 told answer.1)
    | inr untold ↦ (no_causes, untold_has_none log full k no_causes refl untold)
  ]

  pub same_causes : (a b : Causes) → NamesCausesIn log full k a → NamesCausesIn log full k b → a ≡ b
  same_causes a b is other = elim (cases_Bool (stamp_told log k)) [
    | inl told ↦
        causes_are_unique (clocks_of log) (seen_of log k) full k a b exists (all_if_told log full k a told is) (all_if_told log full k b told other)
    | inr untold ↦ none_if_untold log full k a untold is ∙ sym (none_if_untold log full k b untold other)
  ]

module _ (log : LogInOrder) (ordered : IsInOrder log) where
  -- an event is of one of the log's nodes
  pub node_exists : (k : ℕ) → k < length log.events → (skeleton_at (skeleton_of log) k).node < log.nodes
  node_exists k exists =
      let within : k < length log.order = omega (arith, order_len log.events log.order ordered.causal) in
      let place = place_at log.order k in
      subst (λ (event : SkeletonEvent). event.node < log.nodes) (sym (skeleton_in_at log.events log.order ordered.causal k within))
      (All-get_or (λ (event : LogEvent). event.node.0 < log.nodes) log.events place no_event
      (place_exists log.events log.order ordered.causal k within) ordered.of_nodes)

  -- a skew is of events
  pub skew_of_events : (n from to : ℕ) (found : Option Skew) → NamesSkewBefore (skeleton_of log) (reading_told log) n from to found
      → IfSome found (IsSkewOfEvents log)
  skew_of_events n from to None names = tt
  skew_of_events n from to (Some skew) names =
      let size = length-skeleton_of log ordered in
      let earlier = names.message.sent.send.earlier in
      let exists = names.message.sent.send.exists in
      record { send = omega arith; delivery = omega arith }
