-- Walks along a node's events.
use Rattle.std.proofs.Common.{◌≡◌, ◌∙◌, ℕ, ◌+◌, ◌≤◌, List, length, arith, sym, ap, subst, Option, Some, None}
use Rattle.std.specs.Prelude.{IfSome}
use Rattle.hlc_stamp.specs.declared.id.EventId.{EventId}
use Rattle.hlc_arena.specs.History.{StampedEvent, causality_of, event_at}
use Rattle.hlc_arena.specs.Known.{writes_learnt}
use Rattle.hlc_causality.specs.Neighbours.{NamesNext}
use Rattle.hlc_table.specs.Rows.{Row}
use Rattle.hlc_arena.specs.NodeEvents.{IsEventOf}
use Rattle.hlc_table.specs.NodeEvents.{NamesNextFrom}
use Rattle.hlc_table.specs.NodeWalk.{StandsAt, place_of_next, walk_of}
use Rattle.hlc_table.specs.Tables.{rows_before, rows_with}
use Rattle.hlc_table.proofs.NodeEvents.{next_from}
use Rattle.hlc_table.proofs.RowsBefore.{rows_after_event, rows_stay}

module _ (events : List StampedEvent) (node : ℕ) where
  -- a walk stands at the next event from a place on
  pub stands_from : (low : ℕ) (known : List Row) (next : Option EventId) → NamesNextFrom events node low next → low ≤ length events
      → known ≡ rows_before events node low → StandsAt events (walk_of node known next)
  stands_from low known None names le is = record {
    next_is = tt;
    known_is = is ∙ sym (rows_stay events node low (length events) le (omega arith)
        (λ d event from. let lt = names d event in absurd (omega arith)));
  }
  stands_from low known (Some e) names le is = let exists = names.event.exists in record {
    next_is = names.event;
    known_is = is ∙ sym (rows_stay events node low e.0 names.from (omega arith) names.first);
  }

  -- the next event is one of the node's, and the table has what is known before it
  pub stands_before : (known : List Row) (next : Option EventId) (event : EventId) → StandsAt events (walk_of node known next)
      → next ≡ Some event → IsEventOf events node event.0 × (known ≡ rows_before events node event.0)
  stands_before known next event stands is = (
    subst (λ (o : Option EventId). IfSome o (λ e. IsEventOf events node e.0)) is stands.next_is,
    stands.known_is ∙ ap (λ (o : Option EventId). rows_before events node (place_of_next events o)) is,
  )

  -- when the next event is passed and the table learns what it makes known, the walk stands at the one after it
  pub stands_after : (known learnt : List Row) (next then : Option EventId) (event : EventId)
      → StandsAt events (walk_of node known next) → next ≡ Some event
      → learnt ≡ rows_with events known (writes_learnt events event.0 (event_at events event.0).kind)
      → NamesNext (causality_of events) event.0 then
      → StandsAt events (walk_of node learnt then) × NamesNextFrom events node (event.0 + 1) then
  stands_after known learnt next then event stands is learns names =
      let there = stands_before known next event stands is in
      let exists = there.0.exists in
      let writes = writes_learnt events event.0 (event_at events event.0).kind in
      let after : learnt ≡ rows_before events node (event.0 + 1) =
      learns ∙ ap (λ (rows : List Row). rows_with events rows writes) there.1 ∙ sym (rows_after_event events node event.0 there.0) in
      let from = next_from events node event.0 then there.0 names in
      (stands_from (event.0 + 1) learnt then from (omega arith) after, from)
