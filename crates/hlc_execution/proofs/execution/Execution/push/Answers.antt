use Rattle.std.proofs.Common.{◌≡◌, ℕ, ◌<◌, Some, None, List, [], ◌∷◌, ◌++◌, length, Option, arith, refl, subst, sym, ap, ◌∙◌}
use Rattle.std.specs.Prelude.{IfSome, is_some}
use Rattle.std.proofs.lemmas.List.{length-map}
use Rattle.hlc_stamp.specs.declared.id.EventId.{EventId}
use Rattle.hlc_stamp.specs.declared.limits.TheConstants.{MAX_CAPACITY}
use Rattle.hlc_causality.specs.Neighbours.{place_of}
use Rattle.hlc_causality.specs.ReceiveEvents.{event_by, own_at}
use Rattle.hlc_causality.proofs.Neighbours.{is_some_place}
use Rattle.hlc_execution.specs.declared.event.Event.{Event}
use Rattle.hlc_execution.specs.declared.slot.Slot.{Slot}
use Rattle.hlc_execution.specs.Events.{skeleton_event_of}
use Rattle.hlc_execution.specs.Execution.{MayFollow, StoredExecution}
use Rattle.hlc_execution.specs.NodeEnds.{last_in, lasts_of}
use Rattle.hlc_execution.specs.Slots.{events_of_slots, execution_in, stamps_of_slots}
use Rattle.hlc_execution.specs.SlotChanges.{with_delivery, with_next}
use Rattle.hlc_execution.proofs.Executions.{execution-push}
use Rattle.hlc_execution.proofs.Linking.{last_delivery_exists, source_after}
use Rattle.hlc_execution.proofs.NodeEnds.{fits_each-push, fits_node, lasts-push}
use Rattle.hlc_execution.proofs.Pushing.{IsNext, events-pushed, forced-pushed, last_exists, linked-push, new_slot, pushed, send_is_labelled, stamps-pushed}
use Rattle.hlc_execution.proofs.SlotEvents.{length-events_of_slots, length-stamps_of_slots}
use Rattle.hlc_execution.proofs.SlotNeighbours.{last_read}
use Rattle.hlc_execution.proofs.execution.Execution.push.Goals.{After-push_reserved}
use Rattle.hlc_execution.proofs.execution.Execution.push.Goals as goal

-- the new event and its place
abbrev place_of_new : After-push_reserved → EventId
place_of_new c = record { 0 = c.len-events.result }

abbrev event_of : After-push_reserved → Event
event_of c = record {
  reading = c.args.reading;
  stamp = c.args.stamp;
  node = c.args.node;
  previous = c.last_of-previous.result;
  send = c.args.send;
}

items_are : (c : After-push_reserved) → c.push_reserved.new.self.items ≡ pushed c.self.inside.rules c.self.inside.slots.items (event_of c) (place_of_new c)
items_are c =
    let slots = c.self.inside.slots.items in
    let e = event_of c in
    let rules = c.self.inside.rules in
    let rule = c.rule_at-rule.ensures in
    let x = skeleton_event_of e in
    let read = event_by rules.receives (own_at rules c.len-events.result) x in
    let is_receive : is_some (place_of e.send) ≡ c.is_some.result = is_some_place e.send ∙ sym c.is_some.ensures in
    let forced = c.forcing_predecessor.ensures read (rule.floor x is_receive refl) (rule.ticks x is_receive refl) in
    let before = c.link_at_node-before.ensures.stamp in
    let last : c.push_reserved.new.self.items ≡ _ ++ new_slot rules slots e (place_of_new c) ∷ [] =
    rw (c.none.ensures, c.none-2.ensures, c.unwrap_or.ensures, c.to_any.ensures, c.new.ensures, forced, before) at c.push_reserved.ensures.items in
    last
    ∙ ap (λ (xs : List Slot). xs ++ new_slot rules slots e (place_of_new c) ∷ [])
    (c.link_delivery.ensures.slots ∙ ap (λ (xs : List Slot). with_delivery xs e.send (place_of_new c)) c.link_at_node-before.ensures.slots)

events_are : (c : After-push_reserved)
    → events_of_slots c.push_reserved.new.self.items ≡ events_of_slots c.self.inside.slots.items ++ skeleton_event_of (event_of c) ∷ []
events_are c = ap events_of_slots (items_are c) ∙ events-pushed c.self.inside.rules c.self.inside.slots.items (event_of c) (place_of_new c)

stamps_are : (c : After-push_reserved)
    → stamps_of_slots c.push_reserved.new.self.items ≡ stamps_of_slots c.self.inside.slots.items ++ c.args.stamp ∷ []
stamps_are c = ap stamps_of_slots (items_are c) ∙ stamps-pushed c.self.inside.rules c.self.inside.slots.items (event_of c) (place_of_new c)

pub link_at_node-before-requires-clause-previous : goal.link_at_node-before-requires-clause-previous
link_at_node-before-requires-clause-previous c =
    let ends = c.self.inside.ends in
    let node = rw (← c.self.view_is) at c.requires.follows.node in
    let exists : c.args.node.0 < length ends.items = omega (arith, node, ends.ok.0) in
    let linked = c.self.invariant.linked in
    let read = c.index_mut-ends in
    rw c.last_of-previous.ensures
    (last_exists c.self.inside.slots.items ends.items c.args.node.0 read.result.now linked exists read.ensures.value)

pub link_delivery-requires-clause-last : goal.link_delivery-requires-clause-last
link_delivery-requires-clause-last c =
    let slots = c.self.inside.slots.items in
    let follows = rw (← c.self.view_is) at c.requires.follows in
    let previous = c.last_of-previous.result in
    let event : EventId = record { 0 = c.len-events.result } in
    let source = send_is_labelled slots c.self.invariant.linked c.args.send follows.send in
    rw c.link_at_node-before.ensures.slots
    (last_delivery_exists (with_next slots previous event) c.args.send (source_after slots previous c.args.send event source))

exists_below : (o : Option EventId) (n m : ℕ) → n < m → IfSome o (λ d. d.0 < n) → IfSome o (λ d. d.0 < m)
exists_below None n m lt h = tt
exists_below (Some d) n m lt h = omega arith

pub to_any-requires : goal.to_any-requires
to_any-requires c =
    let slots = c.self.inside.slots.items in
    let ends = c.self.inside.ends in
    let node = rw (← c.self.view_is) at c.requires.follows.node in
    let exists : c.args.node.0 < length ends.items = omega (arith, node, ends.ok.0) in
    let few = rw (← c.self.view_is) at c.requires.few in
    let below : length slots < MAX_CAPACITY = omega (arith, few, length-events_of_slots slots) in
    let read = c.index_mut-ends in
    let last = last_exists slots ends.items c.args.node.0 read.result.now c.self.invariant.linked exists read.ensures.value in
    rw c.last_of-previous.ensures (exists_below _ (length slots) MAX_CAPACITY below last)

pub invariant_of-self : goal.invariant_of-self
invariant_of-self c =
    let slots = c.self.inside.slots in
    let ends = c.self.inside.ends in
    let place = place_of_new c in
    let e = event_of c in
    let x = skeleton_event_of e in
    let events = events_of_slots slots.items in
    let stamps = stamps_of_slots slots.items in
    let many = length-stamps_of_slots slots.items ∙ sym (length-events_of_slots slots.items) in
    let follows = subst (λ (a : StoredExecution). MayFollow a.nodes a.events x) (sym c.self.view_is) c.requires.follows in
    let few = subst (λ (a : StoredExecution). length a.events < MAX_CAPACITY) (sym c.self.view_is) c.requires.few in
    let exists : c.args.node.0 < length ends.items = omega (arith, follows.node, ends.ok.0) in
    let before = c.index_mut-ends.result.now in
    let next : IsNext slots.items (lasts_of ends.items) e place = record {
      at = c.len-events.ensures;
      node = omega (arith, length-map ends.items last_in);
      previous = c.last_of-previous.ensures ∙ sym (last_read ends.items c.args.node.0 before exists c.index_mut-ends.ensures.value);
      source = send_is_labelled slots.items c.self.invariant.linked e.send follows.send;
    } in
    let fits = fits_node events stamps ends.items c.args.node.0 before c.self.invariant.each_node exists c.index_mut-ends.ensures.value in
    let at = length-events_of_slots slots.items ∙ sym c.len-events.ensures in
    let stays_right = c.with_event.ensures.right events stamps x e.stamp at (many ∙ at) (sym c.saturating_sub-drift.ensures) fits in
    let before = c.self.invariant in
    let stored = execution_in c.self.inside.rules ends.len slots.items slots.room in
    record {
      execution =
          rw (events_are c, stamps_are c)
          (execution-push stored x e.stamp c.push_reserved.new.self.room before.execution few follows);
      linked =
          rw (items_are c, lasts-push, c.with_event.ensures.last)
          (linked-push slots.items (lasts_of ends.items) e place c.self.inside.rules ends.len slots.room before.linked before.execution next);
      forced =
          rw (items_are c)
          (forced-pushed c.self.inside.rules slots.items e place before.linked next before.forced);
      each_node =
          rw (events_are c, stamps_are c)
          (fits_each-push events stamps x e.stamp ends.items c.with_event.result many exists stays_right before.each_node);
    }

pub returns-clause-events : goal.returns-clause-events
returns-clause-events c = events_are c ∙ ap (λ (a : StoredExecution). a.events ++ skeleton_event_of (event_of c) ∷ []) c.self.view_is

pub returns-clause-stamps : goal.returns-clause-stamps
returns-clause-stamps c = stamps_are c ∙ ap (λ (a : StoredExecution). a.stamps ++ c.args.stamp ∷ []) c.self.view_is
