use Rattle.std.proofs.Common.{◌≡◌, ◌∙◌, ◌∷◌, [], ◌++◌, List, ℕ, sym, ap}
use Rattle.hlc_causality.specs.Causality.{SkeletonEvent}
use Rattle.hlc_causality.specs.Neighbours.{place_of}
use Rattle.hlc_arena.specs.Arena.{StoredHistory, history_of, with_event}
use Rattle.hlc_arena.specs.History.{History, StampedEvent, delivered_send}
use Rattle.hlc_arena.specs.Kinds.{next_kind_of}
use Rattle.hlc_arena.specs.Stored.{events_in, places_in}
use Rattle.hlc_arena.proofs.Following.{well_formed-push}
use Rattle.hlc_arena.proofs.Keeping.{delivers_source, events_in-push, kept-push}
use Rattle.hlc_arena.proofs.StampedEvents.{stamped_event}
use Rattle.hlc_arena.proofs.arena.Arena.push.Goals.{After-push}
use Rattle.hlc_arena.proofs.arena.Arena.push.Goals as goal

pub push-requires-clause-follows : goal.push-requires-clause-follows
push-requires-clause-follows c =
    let x = c.self.inside.execution in
    let follows = rw (← c.self.view_is) at c.requires.follows in
    let delivers : delivered_send (next_kind_of c.args.kind) ≡ place_of c.delivered-send.result =
    ap delivered_send (sym c.as_ref.ensures) ∙ sym c.delivered-send.ensures in
    record {
      node = follows.node;
      send = delivers_source x x.nodes _ _ c.self.invariant.kept.events follows (place_of c.delivered-send.result) delivers;
    }

-- the event as causality sees it
abbrev event_of : After-push → SkeletonEvent
event_of c = record { node = c.args.node.0; reading = c.args.reading; send = place_of c.delivered-send.result }

-- and as it is kept
abbrev pushed : After-push → StampedEvent
pushed c = stamped_event (event_of c) c.args.stamp (next_kind_of c.args.kind)

-- the events that are kept before, and after
abbrev before : After-push → List StampedEvent
before c = events_in c.self.inside.execution c.self.inside.kinds.items c.self.inside.bytes.pages (places_in c.self.inside.lists.items)

abbrev now : After-push → List StampedEvent
now c = events_in c.push.new.self c.push_reserved.new.self.items c.store-stored.new.bytes.pages (places_in c.store-stored.new.lists.items)

abbrev history : After-push → ℕ → List StampedEvent → History
history c nodes events = record { nodes = nodes; capacity = c.self.inside.capacity; events = events }

events_are : (c : After-push) → now c ≡ before c ++ pushed c ∷ []
events_are c =
    let lists = c.store-stored.ensures.more.1 in
    rw (c.push_reserved.ensures.items, lists)
    (events_in-push c.self.invariant.kept c.push.new.self c.store-stored.new.bytes.pages c.store-stored.ensures.more.0
    (event_of c) c.args.stamp c.store-stored.result (next_kind_of c.args.kind)
    c.store-stored.ensures.extends c.push.ensures.events c.push.ensures.stamps
    (rw lists at c.store-stored.ensures.stored) (rw lists at c.store-stored.ensures.kind))

pub invariant_of-self : goal.invariant_of-self
invariant_of-self c =
    let lists = c.store-stored.ensures.more.1 in
    let follows = rw (← c.self.view_is) at c.requires.follows in
    let room = rw (← c.self.view_is) at c.requires.room.below_capacity in
    let delivers : place_of c.delivered-send.result ≡ delivered_send (next_kind_of c.args.kind) =
    c.delivered-send.ensures ∙ ap delivered_send c.as_ref.ensures in
    let well = well_formed-push (history c c.self.inside.execution.nodes (before c)) (pushed c) c.self.invariant.well_formed room follows in
    record {
      ticking = c.push.ensures.rules ∙ c.self.invariant.ticking;
      well_formed = rw (c.push.ensures.nodes, events_are c) well;
      kept = rw (c.push_reserved.ensures.items, lists)
          (kept-push c.self.invariant.kept c.push.new.self c.store-stored.new.bytes.pages c.store-stored.ensures.more.0
          (event_of c) c.args.stamp c.store-stored.result (next_kind_of c.args.kind)
          c.store-stored.ensures.extends c.push.ensures.events c.push.ensures.stamps
          (rw lists at c.store-stored.ensures.stored) (rw lists at c.store-stored.ensures.kind) delivers c.store-stored.ensures.more.2);
    }

pub returns-clause-history : goal.returns-clause-history
returns-clause-history c =
    ap (λ (nodes : ℕ). history c nodes (now c)) c.push.ensures.nodes
    ∙ ap (history c c.self.inside.execution.nodes) (events_are c)
    ∙ ap (λ (a : StoredHistory). with_event (history_of a) (pushed c)) c.self.view_is
