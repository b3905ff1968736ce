-- The execution of a log, whose events come one after another in a causal order.
use Rattle.std.proofs.Common.{◌≡◌, ◌∙◌, ℕ, ◌+◌, ◌<◌, inl, inr, List, [], length, Option, arith, refl, subst, sym, ap}
use Rattle.std.specs.Prelude.{slice_index_or}
use Rattle.std.proofs.lemmas.Bool.{cases_eq}
use Rattle.std.proofs.lemmas.List.Elements.{All-get_or}
use Rattle.hlc_stamp.specs.Ids.{places_of}
use Rattle.hlc_stamp.specs.declared.id.EventId.{EventId}
use Rattle.hlc_causality.specs.declared.receives.Receives.{Receives}
use Rattle.hlc_causality.specs.Causality.{Skeleton}
use Rattle.hlc_causality.specs.Feasible.{IsLeastFeasible}
use Rattle.hlc_causality.specs.ReceiveEvents.{clock_events, own_at, plain_rules}
use Rattle.hlc_causality.proofs.ReceiveEvents.{same_clock_events}
use Rattle.hlc_execution.specs.Execution.{MayFollow, StoredExecution}
use Rattle.hlc_log.specs.CausalOrder.{IsCausalOrder}
use Rattle.hlc_log.specs.Events.{event_at, no_event, own_rule}
use Rattle.hlc_log.specs.Messages.{EachIsSentOnce}
use Rattle.hlc_log.specs.OrderSkeleton.{rules_in}
use Rattle.hlc_log.specs.declared.log_event.LogEvent.{LogEvent}
use Rattle.hlc_log.proofs.OrderSkeletons.{own_in}
use Rattle.hlc_stamp.specs.Order.{Pair}
use Rattle.hlc_ordered_log.specs.InOrder.{AreOfNodes, AreSeenAs, HasFirst, HasOneMore, IsExecutionOf, NamesSendIn, event_in_order}
use Rattle.hlc_ordered_log.proofs.Ordering.{may_follow, next_exists, next_seen, next_told, nothing_is_least, seen_is_skeleton}

-- an empty one has no event of it
pub has_none : (receives : Receives) (events : List LogEvent) (order : List ℕ) (x : StoredExecution) → x.rules ≡ plain_rules receives → x.events ≡ []
    → x.stamps ≡ [] → HasFirst events order 0 x
has_none receives events order x rules none stamps = record {
  seen = record { one_each = ap (λ (s : Skeleton). length s) none; each = λ k lt. absurd (omega arith) };
  own = λ k lt. absurd (omega arith);
  ruled = rw rules (omega arith);
  least =
      subst (λ (s : Skeleton). IsLeastFeasible (clock_events x.rules s) x.stamps) (sym none)
      (subst (λ (ps : List Pair). IsLeastFeasible [] ps) (sym stamps) nothing_is_least);
}

module _ (events : List LogEvent) (order : List EventId) (whole : IsCausalOrder events (places_of order)) (k : ℕ) (lt : k < length order) (event : LogEvent)
    (is : event ≡ event_at events (slice_index_or order k (record { 0 = 0 })).0) (x : StoredExecution) (first : HasFirst events (places_of order) k x)
    (send : Option ℕ) (named : NamesSendIn events (places_of order) k send) where
  -- the next event may follow
  pub next_follows : AreOfNodes x.nodes events → MayFollow x.nodes x.events (record { node = event.node.0; reading = event.reading; send = send })
  next_follows nodes =
      let small : event.node.0 < x.nodes =
      subst (λ (e : LogEvent). e.node.0 < x.nodes) (sym is)
      (All-get_or (λ (e : LogEvent). e.node.0 < x.nodes) events _ no_event (next_exists events order 0 k lt whole.causal) nodes) in
      may_follow events (places_of order) k x.nodes x.events event.node.0 event.reading send first.seen small named

  -- and then there is one more
  pub has_next : (y : StoredExecution) → HasOneMore x y event send → HasFirst events (places_of order) (k + 1) y
  has_next y more =
      let size : length x.events ≡ k = first.seen.one_each in
      record {
        seen =
            subst (AreSeenAs events (places_of order) (k + 1)) (sym more.events)
            (next_seen events order 0 k lt whole.causal event is x.events send first.seen named);
        own = λ j within. elim (cases_eq j k) [
          | inl here ↦
              ap (own_at y.rules) (here ∙ sym size) ∙ more.own
              ∙ ap (λ receives. own_rule receives event) (sym more.receives)
              ∙ ap (own_rule y.rules.receives) (sym (next_told events order 0 k lt whole.causal event is))
              ∙ ap (λ (i : ℕ). own_rule y.rules.receives (event_in_order events (places_of order) i)) (sym here)
          | inr ne ↦
              more.others j (omega (arith, within, ne, size)) ∙ first.own j (omega (arith, within, ne))
              ∙ ap (λ receives. own_rule receives (event_in_order events (places_of order) j)) (sym more.receives)
        ];
        ruled = omega (arith, more.ruled, size);
        least = more.least;
      }

-- once all events are there, it is the log's
pub has_all : (events : List LogEvent) (order : List ℕ) (x : StoredExecution) → IsCausalOrder events order → EachIsSentOnce events
    → HasFirst events order (length order) x → IsExecutionOf events order x
has_all events order x whole once first =
    let same = seen_is_skeleton events order whole once x.events first.seen in
    let rules = rules_in x.rules.receives events order in
    record {
      events_are = same;
      clocks_are =
          same_clock_events x.rules rules x.events refl (λ k exists.
          let within : k < length order = omega (arith, exists, first.seen.one_each) in
          first.own k within ∙ sym (own_in events order whole rules.receives k within))
          ∙ ap (clock_events rules) same;
      least = first.least;
    }
