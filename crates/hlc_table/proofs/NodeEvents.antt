-- The events of one node, one after another.
use Rattle.std.proofs.Common.{◌≡◌, ℕ, ◌+◌, ◌<◌, ◌≤◌, inl, inr, List, length, Option, Some, None, arith, sym, ap, ◌∙◌}
use Rattle.std.proofs.lemmas.Bool.{cases_lt}
use Rattle.hlc_stamp.specs.declared.id.EventId.{EventId}
use Rattle.hlc_causality.specs.Causality.{IsEarlierAtNode, SkeletonEvent, skeleton_at}
use Rattle.hlc_arena.specs.Arena.{IsWellFormed}
use Rattle.hlc_arena.specs.History.{History, StampedEvent, causality_of, event_at}
use Rattle.hlc_causality.specs.Neighbours.{NamesNext}
use Rattle.hlc_arena.proofs.Histories.{length_skeleton, skeleton_at_place}
use Rattle.hlc_arena.specs.NodeEvents.{IsEventOf}
use Rattle.hlc_causality.specs.NodeEvents.{NamesFirst}
use Rattle.hlc_arena.proofs.NodeEventPlaces.{event_here, event_there}
use Rattle.hlc_table.specs.NodeEvents.{NamesNextFrom}

pub node_at_place : (events : List StampedEvent) (e : ℕ) → (skeleton_at (causality_of events) e).node ≡ (event_at events e).node
node_at_place events e = ap (λ (x : SkeletonEvent). x.node) (skeleton_at_place events e)

module _ (events : List StampedEvent) (node : ℕ) where
  size : length (causality_of events) ≡ length events
  size = length_skeleton events

  earlier_at_node : (d f : ℕ) → IsEventOf events node d → IsEventOf events node f → d < f → IsEarlierAtNode (causality_of events) d f
  earlier_at_node d f a b lt = record {
    earlier = lt;
    exists = let within = b.exists in let n = size in omega arith;
    same_node = node_at_place events d ∙ a.at_node ∙ sym b.at_node ∙ sym (node_at_place events f);
  }

  pub next_is_event : (e : ℕ) (f : EventId) → IsEventOf events node e → NamesNext (causality_of events) e (Some f)
      → IsEventOf events node f.0
  next_is_event e f event h = record {
    exists = let within = h.at_node.exists in let n = size in omega arith;
    at_node = sym (node_at_place events f.0) ∙ sym h.at_node.same_node ∙ node_at_place events e ∙ event.at_node;
  }

  pub next_is_first : (e : ℕ) (f : EventId) → IsEventOf events node e → NamesNext (causality_of events) e (Some f) → (m : ℕ)
      → IsEventOf events node m → e < m → f.0 ≤ m
  next_is_first e f event h m other lt = elim (cases_lt m f.0) [
    | inl before ↦
        let there = next_is_event e f event h in
        let le = h.latest m (earlier_at_node m f.0 other there before) in
        omega arith
    | inr le ↦ le
  ]

  pub none_is_next : (e : ℕ) → IsEventOf events node e → NamesNext (causality_of events) e None → (m : ℕ) → IsEventOf events node m → m ≤ e
  none_is_next e event h m other = elim (cases_lt e m) [ inl lt ↦ absurd (h m (earlier_at_node e m event other lt)) | inr le ↦ le ]

-- after an event the next from there on is the next of its node
pub next_from : (events : List StampedEvent) (node e : ℕ) (next : Option EventId) → IsEventOf events node e
    → NamesNext (causality_of events) e next → NamesNextFrom events node (e + 1) next
next_from events node e None event names = λ d other. let le = none_is_next events node e event names d other in omega arith
next_from events node e (Some f) event names = record {
  event = next_is_event events node e f event names;
  from = let lt = names.at_node.earlier in omega arith;
  first = λ d other from. next_is_first events node e f event names d other (omega arith);
}

-- the first event of a node is the next from the beginning on
pub first_is_next : (events : List StampedEvent) (node : ℕ) (first : Option EventId) → NamesFirst (causality_of events) node first
    → NamesNextFrom events node 0 first
first_is_next events node None none = λ d event. absurd (none d (event_there events node d event))
first_is_next events node (Some e) h = record {
  event = event_here events node e.0 h.event;
  from = omega arith;
  first = λ d event from. h.first d (event_there events node d event);
}

-- the nodes of events exist
pub well_formed_nodes : (h : History) (node : ℕ) → IsWellFormed h → (e : ℕ) → IsEventOf h.events node e → node < h.nodes
well_formed_nodes h node well e event =
    let there = (well.each e event.exists).node in
    let same = event.at_node in
    omega (arith, there, same)
