-- The slots of an execution stay exactly linked with one more event.
use Rattle.std.proofs.Common.{◌≡◌, ◌≢◌, ℕ, ◌<◌, ◌≤◌, inl, inr, List, [], ◌∷◌, ◌++◌, length, map, get_or, replicate, Option, Some, None, arith, refl, subst, sym, ap, ◌∙◌}
use Rattle.std.specs.Prelude.{slice_set, unwrap_or, IfSome}
use Rattle.std.proofs.lemmas.List.{get_or-map, get_or-replicate, length-map, length-replicate, length-set, map_push}
use Rattle.hlc_stamp.specs.declared.id.EventId.{EventId}
use Rattle.hlc_stamp.specs.Order.{Pair}
use Rattle.hlc_causality.specs.Causality.{Skeleton, SkeletonEvent, skeleton_at}
use Rattle.hlc_causality.specs.Neighbours.{place_of}
use Rattle.hlc_causality.specs.ReceiveEvents.{ClockRules, event_by, own_at}
use Rattle.hlc_execution.specs.declared.event.Event.{Event}
use Rattle.hlc_execution.specs.declared.node_ends.NodeEnds.{NodeEnds}
use Rattle.hlc_execution.specs.declared.slot.Slot.{Slot}
use Rattle.hlc_execution.specs.Events.{skeleton_event_of}
use Rattle.hlc_execution.specs.Execution.{IsExecution, IsSource}
use Rattle.hlc_execution.specs.Links.{AreFollowed, AreLasts, AreNexts, ArePrevious, LinksToLast, label_at, link_at}
use Rattle.hlc_execution.specs.NodeEnds.{last_in, lasts_of}
use Rattle.hlc_execution.specs.Role.{last_delivery_by, new_role, send_by}
use Rattle.hlc_execution.specs.Forcing.{AreForced, forced_by, pair_of}
use Rattle.hlc_execution.specs.Slots.{AreLinked, AreSlotsForced, events_of_slots, execution_in, forced_of, last_deliveries_of, last_delivery_in, next_deliveries_of, nexts_of, nodes_of, previous_of_slots, send_labels, stamps_of_slots}
use Rattle.hlc_execution.specs.SlotChanges.{with_delivery, with_next}
use Rattle.hlc_execution.proofs.Forced.{forced-push}
use Rattle.hlc_execution.proofs.Linking.{Fixed, IsSendLabelled, IsSourceLabelled, column, fixed-linked, fixed_in, lasts-linked, lasts_with, next_deliveries-linked, nexts-linked, nexts_with}
use Rattle.hlc_execution.proofs.Links.{LinksToLastOf, followed-push, followed-push_none, label_cases, lasts-more, lasts-push, lasts-push_none, nexts-push, previous-push, some≢none}
use Rattle.hlc_execution.proofs.SlotEvents.{are_nodes, label_is_source, length-events_of_slots, length-nodes_of, length-send_labels, length-stamps_of_slots, next_delivery_of, send_at}
use Rattle.hlc_execution.proofs.SlotNeighbours.{last_links}

-- the links of sends and their deliveries
record AreDeliveryLinks (labels : List (Option ℕ)) (lasts nexts : List (Option EventId)) : Type 0 where
  last : AreLasts labels lasts
  next : AreFollowed labels nexts

delivery_links-push : (labels : List (Option ℕ)) (lasts nexts : List (Option EventId)) (send : Option EventId) (event : EventId)
    → event.0 ≡ length labels → length lasts ≡ length labels → length nexts ≡ length labels
    → IfSome send (IsSourceLabelled labels lasts)
    → ((k d : ℕ) → label_at labels k ≡ Some d → d < k)
    → ((k : ℕ) → label_at (labels ++ place_of send ∷ []) k ≢ Some (length labels))
    → AreDeliveryLinks labels lasts nexts
    → AreDeliveryLinks (labels ++ place_of send ∷ [])
    (lasts_with lasts send event ++ None ∷ []) (nexts_with nexts lasts send event ++ None ∷ [])
delivery_links-push labels lasts nexts None event at size_l size_n source earlier unused h = record {
  last =
      lasts-more (labels ++ None ∷ []) lasts (λ k is. unused k (is ∙ ap (λ (n : ℕ). Some n) size_l))
      (lasts-push_none labels lasts h.last);
  next = followed-push_none labels nexts size_n h.next;
}
delivery_links-push labels lasts nexts (Some sent) event at size_l size_n source earlier unused h =
    let a = sent.0 in
    let exists : a < length labels = source.0 in
    let last = link_at lasts a in
    let is_last = h.last a (omega arith) in
    let changed = slice_set lasts a (Some event) in
    let size : length changed ≡ length labels = length-set lasts a (Some event) ∙ size_l in
    record {
      last =
          lasts-more (labels ++ Some a ∷ []) changed (λ k is. unused k (is ∙ ap (λ (n : ℕ). Some n) size))
          (lasts-push labels lasts a event at (omega arith) h.last);
      next = followed-push labels sent event at earlier exists source.1 nexts last is_last size_n h.next;
    }

-- the pair of an event's previous event
abbrev pub pair_before : List Slot → Option EventId → Option Pair
pair_before slots previous = pair_of (stamps_of_slots slots) previous

-- the slot of a new event
abbrev pub new_slot : ClockRules → List Slot → Event → EventId → Slot
new_slot rules slots e event = record {
  reading = e.reading;
  l = e.stamp.l;
  c = e.stamp.c;
  previous = e.previous;
  next_at_node = None;
  next_delivery = None;
  counterpart = unwrap_or e.send event;
  node = e.node;
  forced = forced_by (event_by rules.receives (own_at rules event.0) (skeleton_event_of e)) e.stamp (pair_before slots e.previous);
  role = new_role e.send;
}

send_by-new_role : (send : Option EventId) (event : EventId) → send_by (new_role send) (unwrap_or send event) ≡ send
send_by-new_role None event = refl
send_by-new_role (Some sent) event = refl

last_delivery-new_role : (send : Option EventId) (event : EventId) → last_delivery_by (new_role send) (unwrap_or send event) ≡ None
last_delivery-new_role None event = refl
last_delivery-new_role (Some sent) event = refl

-- a new event, whose links to earlier ones are right
pub record IsNext (slots : List Slot) (lasts : List (Option EventId)) (e : Event) (event : EventId) : Type 0 where
  pub at : event.0 ≡ length slots
  pub node : e.node.0 < length lasts
  pub previous : e.previous ≡ link_at lasts e.node.0
  pub source : IsSendLabelled slots e.send

along : {A B : Type 0} (R : A → B → Type 0) {a a' : A} {b b' : B} → a ≡ a' → b ≡ b' → R a' b' → R a b
along R {a} {a'} {b} {b'} p q h = subst (λ x. R x b) (sym p) (subst (λ y. R a' y) (sym q) h)

-- the slots with one more event
module _ (rules : ClockRules) (slots : List Slot) (e : Event) (event : EventId) where
  abbrev linked : List Slot
  linked = with_delivery (with_next slots e.previous event) e.send event

  abbrev pub pushed : List Slot
  pushed = linked ++ new_slot rules slots e event ∷ []

  abbrev fixed_with : Option EventId → Fixed
  fixed_with send = record (fixed_in (new_slot rules slots e event)) { send = send }

  read_pushed : {Y : Type 0} (read : Fixed → Y) → column read pushed ≡ column read slots ++ read (fixed_with e.send) ∷ []
  read_pushed read =
      map_push (λ (slot : Slot). read (fixed_in slot)) linked (new_slot rules slots e event)
      ∙ ap (λ ys. ys ++ read (fixed_in (new_slot rules slots e event)) ∷ []) (fixed-linked read slots e.previous e.send event)
      ∙ ap (λ (send : Option EventId). column read slots ++ read (fixed_with send) ∷ []) (send_by-new_role e.send event)

  pub events-pushed : events_of_slots pushed ≡ events_of_slots slots ++ skeleton_event_of e ∷ []
  events-pushed = read_pushed event_by
    where
      event_by : Fixed → SkeletonEvent
      event_by f = record { node = f.node; reading = f.reading; send = place_of f.send }

  pub stamps-pushed : stamps_of_slots pushed ≡ stamps_of_slots slots ++ e.stamp ∷ []
  stamps-pushed = read_pushed (λ (f : Fixed). f.stamp)

  column_pushed : (view : Slot → Option EventId) {links : List (Option EventId)}
      → map view linked ≡ links → view (new_slot rules slots e event) ≡ None → map view pushed ≡ links ++ None ∷ []
  column_pushed view {links} is none =
      let new = new_slot rules slots e event in
      map_push view linked new ∙ ap (λ ls. ls ++ view new ∷ []) is ∙ ap (λ (o : Option EventId). links ++ o ∷ []) none

exists_below : (labels : List (Option ℕ)) (a high : ℕ) (o : Option EventId) (n : ℕ) → high ≤ n → LinksToLast labels a high o
    → IfSome o (λ d. d.0 < n)
exists_below labels a high None n le h = tt
exists_below labels a high (Some d) n le h = let lt = h.below in omega arith

-- the last event of a node is one of the events
pub last_exists : (slots : List Slot) (kept : List (Option NodeEnds)) (node : ℕ) (ends : Option NodeEnds)
    → AreLinked slots (lasts_of kept) → node < length kept → ends ≡ get_or kept node ends
    → IfSome (last_in ends) (λ d. d.0 < length slots)
last_exists slots kept node ends linked lt is =
    exists_below (nodes_of slots) node (length (nodes_of slots)) (last_in ends) (length slots) (omega (arith, length-nodes_of slots))
    (last_links slots kept node ends linked lt is)

last_is_labelled : (labels : List (Option ℕ)) (a high : ℕ) (o : Option EventId) → LinksToLast labels a high o
    → IfSome o (λ last. label_at labels last.0 ≡ Some a)
last_is_labelled labels a high None h = tt
last_is_labelled labels a high (Some last) h = h.labelled

-- the send of an event that may follow is no delivery
pub send_is_labelled : (slots : List Slot) {lasts : List (Option EventId)} → AreLinked slots lasts
    → (send : Option EventId) → IfSome (place_of send) (IsSource (events_of_slots slots)) → IsSendLabelled slots send
send_is_labelled slots linked None source = tt
send_is_labelled slots linked (Some sent) source =
    let labels = send_labels slots in
    let lasts = last_deliveries_of slots in
    let exists : sent.0 < length slots = omega (arith, source.0, length-events_of_slots slots) in
    let has_last : sent.0 < length lasts = omega (arith, length-map slots last_delivery_in) in (
      omega (arith, length-send_labels slots),
      send_at slots sent.0 ∙ source.1,
      last_is_labelled labels sent.0 (length labels) (link_at lasts sent.0) (linked.last_delivery sent.0 has_last),
    )

-- a label is an earlier place, and so no new one
no_new_label : (labels : List (Option ℕ)) (lasts : List (Option EventId)) (send : Option EventId)
    → ((k d : ℕ) → label_at labels k ≡ Some d → d < k) → IfSome send (IsSourceLabelled labels lasts)
    → (k : ℕ) → label_at (labels ++ place_of send ∷ []) k ≢ Some (length labels)
no_new_label labels lasts send earlier source k is = elim (label_cases labels (place_of send) k (length labels) is) [
  | inl old ↦ absurd (omega (arith, old.0, earlier k (length labels) old.1))
  | inr new ↦ of_new send source new.1
]
  where
    of_new : (o : Option EventId) → IfSome o (IsSourceLabelled labels lasts) → place_of o ≡ Some (length labels) → ⊥
    of_new None h named = cc
    of_new (Some sent) h named =
        let same : sent.0 ≡ length labels = cc in
        omega (arith, h.0)

-- the previous event of each is one of the events
previous_exist : (slots : List Slot) {lasts : List (Option EventId)} → AreLinked slots lasts
    → (k : ℕ) → k < length slots → IfSome (link_at (previous_of_slots slots) k) (λ d. d.0 < length slots)
previous_exist slots linked k lt =
    let node = (skeleton_at (events_of_slots slots) k).node in
    exists_below (nodes_of slots) node k (link_at (previous_of_slots slots) k) (length slots) (omega arith)
    (linked.previous k node ((are_nodes slots).each k (omega (arith, length-events_of_slots slots))))

-- so what is kept of forcing events stays right
pub forced-pushed : (rules : ClockRules) (slots : List Slot) {lasts : List (Option EventId)} (e : Event) (event : EventId)
    → AreLinked slots lasts → IsNext slots lasts e event → AreSlotsForced rules slots → AreSlotsForced rules (pushed rules slots e event)
forced-pushed rules slots {lasts} e event linked next kept =
    let is_last = subst (LinksToLastOf (nodes_of slots) e.node.0) (sym next.previous) (linked.last_at_node e.node.0 next.node) in
    let events = events_of_slots slots in
    let pairs = stamps_of_slots slots in
    let previous = previous_of_slots slots in
    let x = skeleton_event_of e in
    let after = pushed rules slots e event in
    let size : length pairs ≡ length slots = length-stamps_of_slots slots in
    let size_e = length-events_of_slots slots ∙ sym size in
    let size_p = length-map slots (λ (slot : Slot). slot.previous) ∙ sym size in
    let size_f = length-map slots (λ (slot : Slot). slot.forced) ∙ sym size in
    let within : length (nodes_of slots) ≤ length pairs = omega (arith, length-nodes_of slots) in
    let new = forced-push rules events pairs previous (forced_of slots) x e.stamp e.previous size_e size_p size_f
    (λ k lt. subst (λ (n : ℕ). IfSome (link_at previous k) (λ d. d.0 < n)) (sym size) (previous_exist slots linked k (omega arith)))
    (exists_below (nodes_of slots) e.node.0 (length (nodes_of slots)) e.previous (length pairs) within is_last)
    kept in
    subst (λ (es : Skeleton). AreForced rules es (stamps_of_slots after) (previous_of_slots after) (forced_of after))
    (sym (events-pushed rules slots e event))
    (along (λ (ps : List Pair) (ls : List (Option EventId)). AreForced rules (events ++ x ∷ []) ps ls (forced_of after))
    (stamps-pushed rules slots e event) (read_pushed rules slots e event (λ (f : Fixed). f.previous))
    (subst (AreForced rules (events ++ x ∷ []) (pairs ++ e.stamp ∷ []) (previous ++ e.previous ∷ []))
    (sym (read_pushed rules slots e event (λ (f : Fixed). f.forced)))
    (subst (λ (n : ℕ). AreForced rules (events ++ x ∷ []) (pairs ++ e.stamp ∷ []) (previous ++ e.previous ∷ [])
    (forced_of slots ++ forced_by (event_by rules.receives (own_at rules n) x) e.stamp (pair_of pairs e.previous) ∷ [])) (size ∙ sym next.at) new)))

pub linked-push : (slots : List Slot) (lasts : List (Option EventId)) (e : Event) (event : EventId) (rules : ClockRules) (nodes room : ℕ)
    → AreLinked slots lasts → IsExecution (execution_in rules nodes slots room) → IsNext slots lasts e event
    → AreLinked (pushed rules slots e event) (slice_set lasts e.node.0 (Some event))
linked-push slots lasts e event rules nodes room linked execution next =
    let labels = nodes_of slots in
    let size = length-nodes_of slots in
    let at : event.0 ≡ length labels = next.at ∙ sym size in
    let is_last = subst (LinksToLastOf labels e.node.0) (sym next.previous) (linked.last_at_node e.node.0 next.node) in
    let nodes_are = read_pushed rules slots e event (λ (f : Fixed). Some f.node) in
    let send_links = send_labels slots in
    let sends_are = read_pushed rules slots e event (λ (f : Fixed). place_of f.send) in
    let many = length-send_labels slots in
    let earlier = λ (k d : ℕ) (is : label_at send_links k ≡ Some d). (label_is_source slots rules nodes room execution k d is).0 in
    let size_p = length-map slots (λ (slot : Slot). slot.previous) ∙ sym size in
    let size_n = length-map slots (λ (slot : Slot). slot.next_at_node) ∙ sym size in
    let many_lasts = length-map slots last_delivery_in ∙ sym many in
    let many_nexts = length-map slots next_delivery_of ∙ sym many in
    let previous_are = read_pushed rules slots e event (λ (f : Fixed). f.previous) in
    let at_node = nexts-linked slots e.previous e.send event in
    let nexts_are = column_pushed rules slots e event (λ (slot : Slot). slot.next_at_node) at_node refl in
    let to_lasts = lasts-linked slots e.previous e.send event next.source in
    let last_deliveries_are = column_pushed rules slots e event last_delivery_in to_lasts (last_delivery-new_role e.send event) in
    let to_nexts = next_deliveries-linked slots e.previous e.send event next.source in
    let next_deliveries_are = column_pushed rules slots e event next_delivery_of to_nexts refl in
    let deliveries = delivery_links-push send_links (last_deliveries_of slots) (next_deliveries_of slots) e.send event (next.at ∙ sym many)
    many_lasts many_nexts next.source earlier (no_new_label send_links (last_deliveries_of slots) e.send earlier next.source)
    (record { last = linked.last_delivery; next = linked.next_delivery }) in
    record {
      previous =
          along ArePrevious nodes_are previous_are
          (previous-push labels (previous_of_slots slots) e.node.0 event at e.previous is_last size_p linked.previous);
      next_at_node =
          along AreNexts nodes_are nexts_are
          (nexts-push labels (nexts_of slots) e.node.0 event at e.previous is_last size_n linked.next_at_node);
      last_at_node = along AreLasts nodes_are refl (lasts-push labels lasts e.node.0 event at next.node linked.last_at_node);
      last_delivery = along AreLasts sends_are last_deliveries_are deliveries.last;
      next_delivery = along AreFollowed sends_are next_deliveries_are deliveries.next;
    }

no_last_at_first : (nodes a : ℕ) → a < length (lasts_of (replicate nodes None)) → link_at (lasts_of (replicate nodes None)) a ≡ None
no_last_at_first nodes a lt =
    let kept = replicate {A = Option NodeEnds} nodes None in
    let within : a < length kept = omega (arith, length-map kept last_in) in
    let below : a < nodes = omega (arith, length-replicate {A = Option NodeEnds} nodes None) in
    get_or-map last_in kept a None None within ∙ ap last_in (get_or-replicate nodes a None None below)

-- an execution with no event is exactly linked
pub linked_at_first : (nodes : ℕ) → AreLinked [] (lasts_of (replicate nodes None))
linked_at_first nodes = record {
  previous = λ f a is. absurd (some≢none a is);
  next_at_node = λ f a is. absurd (some≢none a is);
  last_at_node = λ a lt. subst (LinksToLast [] a 0) (sym (no_last_at_first nodes a lt)) (λ k before. absurd (omega arith));
  next_delivery = λ k lt. absurd (omega arith);
  last_delivery = λ a lt. absurd (omega arith);
}

-- and so does each of its slots say which is the forcing event
pub forced_at_first : (rules : ClockRules) → AreSlotsForced rules []
forced_at_first rules k lt = absurd (omega arith)
