-- What the links to a new event change in each column of the slots.
use Rattle.std.proofs.Common.{◌≡◌, ℕ, zero, suc, ◌<◌, List, [], ◌∷◌, length, map, get_or, Option, Some, None, arith, refl, subst, sym, ap, ◌∙◌}
use Rattle.std.specs.Prelude.{slice_set, unwrap_or, IfSome}
use Rattle.std.proofs.lemmas.List.{set-get_or}
use Rattle.hlc_stamp.specs.declared.id.EventId.{EventId}
use Rattle.hlc_stamp.specs.Order.{Pair}
use Rattle.hlc_causality.specs.Neighbours.{place_of}
use Rattle.hlc_execution.specs.declared.role.Role.{Role}
use Rattle.hlc_execution.specs.declared.role.Role.TheVariants.{Alone, Delivery, Send}
use Rattle.hlc_execution.specs.declared.slot.Forced.{Forced}
use Rattle.hlc_execution.specs.declared.slot.Slot.{Slot}
use Rattle.hlc_execution.specs.Links.{label_at, link_at}
use Rattle.hlc_execution.specs.Role.{counterpart_with_last, last_delivery_by, next_with_last, role_with_last, send_by}
use Rattle.hlc_execution.specs.Slots.{last_deliveries_of, last_delivery_in, next_deliveries_of, nexts_of, send_in, send_labels, stamp_in}
use Rattle.hlc_execution.specs.SlotChanges.{linked_to_following, linked_to_last, linked_to_next, with_delivery, with_last_delivery, with_next, with_next_delivery}
use Rattle.hlc_execution.proofs.Changes.{map-changed_at, map-changed_to, map-changed_unseen}
use Rattle.hlc_execution.proofs.Links.{labelled_within, with_link}
use Rattle.hlc_execution.proofs.SlotEvents.{length-send_labels, next_delivery_of, send_label}
use Rattle.hlc_execution.proofs.SlotNeighbours.{label_read, link_read}

-- what of a slot never changes
pub record Fixed : Type 0 where
  pub reading : ℕ
  pub stamp : Pair
  pub node : ℕ
  pub forced : Forced
  pub previous : Option EventId
  pub send : Option EventId

abbrev pub fixed_in : Slot → Fixed
fixed_in slot = record {
  reading = slot.reading;
  stamp = stamp_in slot;
  node = slot.node.0;
  forced = slot.forced;
  previous = slot.previous;
  send = send_in slot;
}

-- what is read of it in all slots
abbrev pub column : {Y : Type 0} → (Fixed → Y) → List Slot → List Y
column read slots = map (λ (slot : Slot). read (fixed_in slot)) slots

send_by-with_last : (role : Role) (counterpart event : EventId)
    → send_by (role_with_last role) (counterpart_with_last role counterpart event) ≡ send_by role counterpart
send_by-with_last Alone counterpart event = refl
send_by-with_last Send counterpart event = refl
send_by-with_last Delivery counterpart event = refl

-- what never changes, by the send
abbrev with_send : Slot → Option EventId → Fixed
with_send slot send = record (fixed_in slot) { send = send }

module _ {Y : Type 0} (read : Fixed → Y) where
  fixed-with_next_delivery : (slots : List Slot) (last : Option EventId) (event : EventId)
      → column read (with_next_delivery slots last event) ≡ column read slots
  fixed-with_next_delivery slots None event = refl
  fixed-with_next_delivery slots (Some last) event =
      map-changed_unseen (λ (slot : Slot). read (fixed_in slot)) (linked_to_following event) (λ slot. refl) slots last.0

  fixed-with_last_delivery : (slots : List Slot) (sent : ℕ) (event : EventId)
      → column read (with_last_delivery slots sent event) ≡ column read slots
  fixed-with_last_delivery slots sent event =
      map-changed_unseen (λ (slot : Slot). read (fixed_in slot)) (linked_to_last event)
      (λ slot. ap (λ (o : Option EventId). read (with_send slot o)) (send_by-with_last slot.role slot.counterpart event)) slots sent

  fixed-with_next : (slots : List Slot) (previous : Option EventId) (event : EventId)
      → column read (with_next slots previous event) ≡ column read slots
  fixed-with_next slots None event = refl
  fixed-with_next slots (Some place) event =
      map-changed_unseen (λ (slot : Slot). read (fixed_in slot)) (linked_to_next event) (λ slot. refl) slots place.0

  pub fixed-with_delivery : (slots : List Slot) (send : Option EventId) (event : EventId)
      → column read (with_delivery slots send event) ≡ column read slots
  fixed-with_delivery slots None event = refl
  fixed-with_delivery slots (Some sent) event =
      fixed-with_next_delivery (with_last_delivery slots sent.0 event) (link_at (last_deliveries_of slots) sent.0) event
      ∙ fixed-with_last_delivery slots sent.0 event

  -- with all links to a new event
  pub fixed-linked : (slots : List Slot) (previous send : Option EventId) (event : EventId)
      → column read (with_delivery (with_next slots previous event) send event) ≡ column read slots
  fixed-linked slots previous send event =
      fixed-with_delivery (with_next slots previous event) send event ∙ fixed-with_next slots previous event

-- a link at the node changes nothing of deliveries, and links to deliveries change no link at a node
module _ {Y : Type 0} (read : Role → EventId → Option EventId → Y) where
  abbrev of_slot : Slot → Y
  of_slot slot = read slot.role slot.counterpart slot.next_delivery

  deliveries-with_next : (slots : List Slot) (previous : Option EventId) (event : EventId)
      → map of_slot (with_next slots previous event) ≡ map of_slot slots
  deliveries-with_next slots None event = refl
  deliveries-with_next slots (Some place) event = map-changed_unseen of_slot (linked_to_next event) (λ slot. refl) slots place.0

abbrev next_at_node_of : Slot → Option EventId
next_at_node_of slot = slot.next_at_node

next-with_next_delivery : (slots : List Slot) (last : Option EventId) (event : EventId)
    → nexts_of (with_next_delivery slots last event) ≡ nexts_of slots
next-with_next_delivery slots None event = refl
next-with_next_delivery slots (Some last) event =
    map-changed_unseen next_at_node_of (linked_to_following event) (λ slot. refl) slots last.0

nexts-with_delivery : (slots : List Slot) (send : Option EventId) (event : EventId)
    → nexts_of (with_delivery slots send event) ≡ nexts_of slots
nexts-with_delivery slots None event = refl
nexts-with_delivery slots (Some sent) event =
    next-with_next_delivery (with_last_delivery slots sent.0 event) (link_at (last_deliveries_of slots) sent.0) event
    ∙ map-changed_unseen next_at_node_of (linked_to_last event) (λ slot. refl) slots sent.0

next-with_next : (slots : List Slot) (previous : Option EventId) (event : EventId)
    → nexts_of (with_next slots previous event) ≡ with_link (nexts_of slots) previous event
next-with_next slots None event = refl
next-with_next slots (Some place) event =
    map-changed_to next_at_node_of (linked_to_next event) (Some event) (λ slot. refl) slots place.0

-- the links at the node
pub nexts-linked : (slots : List Slot) (previous send : Option EventId) (event : EventId)
    → nexts_of (with_delivery (with_next slots previous event) send event) ≡ with_link (nexts_of slots) previous event
nexts-linked slots previous send event =
    nexts-with_delivery (with_next slots previous event) send event ∙ next-with_next slots previous event

-- the links of a send and its deliveries, if the event is a delivery
abbrev pub lasts_with : List (Option EventId) → Option EventId → EventId → List (Option EventId)
lasts_with lasts None event = lasts
lasts_with lasts (Some sent) event = slice_set lasts sent.0 (Some event)

abbrev pub nexts_with : List (Option EventId) → List (Option EventId) → Option EventId → EventId → List (Option EventId)
nexts_with nexts lasts None event = nexts
nexts_with nexts lasts (Some sent) event = slice_set nexts (unwrap_or (link_at lasts sent.0) sent).0 (Some event)

-- the links of what has no label
last_of_source : (role : Role) (counterpart event : EventId) → place_of (send_by role counterpart) ≡ None
    → last_delivery_by (role_with_last role) (counterpart_with_last role counterpart event) ≡ Some event
last_of_source Alone counterpart event is = refl
last_of_source Send counterpart event is = refl
last_of_source Delivery counterpart event is = cc

first_of_source : (role : Role) (counterpart event : EventId) (next : Option EventId)
    → place_of (send_by role counterpart) ≡ None → last_delivery_by role counterpart ≡ None → next_with_last role next event ≡ Some event
first_of_source Alone counterpart event next is none = refl
first_of_source Send counterpart event next is none = cc
first_of_source Delivery counterpart event next is none = cc

first_stays : (role : Role) (counterpart event last : EventId) (next : Option EventId)
    → last_delivery_by role counterpart ≡ Some last → next_with_last role next event ≡ next
first_stays Alone counterpart event last next some = cc
first_stays Send counterpart event last next some = refl
first_stays Delivery counterpart event last next some = refl

-- a slot at a place
slot_at : (slots : List Slot) (i : ℕ) → i < length slots → (slot : Slot) × (slot ≡ get_or slots i slot)
slot_at [] i lt = absurd (omega arith)
slot_at (slot ∷ slots) zero lt = (slot, refl)
slot_at (slot ∷ slots) (suc i) lt = slot_at slots i (omega arith)

last-with_next_delivery : (slots : List Slot) (last : Option EventId) (event : EventId)
    → last_deliveries_of (with_next_delivery slots last event) ≡ last_deliveries_of slots
last-with_next_delivery slots None event = refl
last-with_next_delivery slots (Some last) event =
    map-changed_unseen last_delivery_in (linked_to_following event) (λ slot. refl) slots last.0

-- a send that is no delivery
module _ (slots : List Slot) (sent : EventId) (event : EventId) (exists : sent.0 < length slots)
    (unlabelled : label_at (send_labels slots) sent.0 ≡ None) where
  found : (slot : Slot) × (slot ≡ get_or slots sent.0 slot)
  found = slot_at slots sent.0 exists

  no_send : send_label found.0 ≡ None
  no_send = sym (label_read slots sent.0 found.0 exists found.1 send_label) ∙ unlabelled

  -- what is read in all slots, if only what is read at the send changes
  read_changed : {Y : Type 0} (view : Slot → Y) (y : Y) → view (linked_to_last event found.0) ≡ y
      → map view (with_last_delivery slots sent.0 event) ≡ slice_set (map view slots) sent.0 y
  read_changed view y is = map-changed_at view (linked_to_last event) slots sent.0 found.0 y exists found.1 is

  last-with_last : last_deliveries_of (with_last_delivery slots sent.0 event) ≡ slice_set (last_deliveries_of slots) sent.0 (Some event)
  last-with_last = read_changed last_delivery_in (Some event) (last_of_source found.0.role found.0.counterpart event no_send)

  last_read : last_delivery_in found.0 ≡ link_at (last_deliveries_of slots) sent.0
  last_read = sym (link_read slots sent.0 found.0 exists found.1 last_delivery_in)

  next_read : link_at (next_deliveries_of slots) sent.0 ≡ next_delivery_of found.0
  next_read = link_read slots sent.0 found.0 exists found.1 next_delivery_of

  abbrev between : List Slot
  between = with_last_delivery slots sent.0 event

  -- the links to next deliveries, by the last one before
  next_by_last : (last : Option EventId) → link_at (last_deliveries_of slots) sent.0 ≡ last
      → next_deliveries_of (with_next_delivery between last event)
      ≡ slice_set (next_deliveries_of slots) (unwrap_or last sent).0 (Some event)
  next_by_last None is =
      read_changed next_delivery_of (Some event)
      (first_of_source found.0.role found.0.counterpart event found.0.next_delivery no_send (last_read ∙ is))
  next_by_last (Some last) is =
      let first : next_deliveries_of between ≡ next_deliveries_of slots =
      read_changed next_delivery_of (link_at (next_deliveries_of slots) sent.0)
      (first_stays found.0.role found.0.counterpart event last found.0.next_delivery (last_read ∙ is) ∙ sym next_read)
      ∙ set-get_or (next_deliveries_of slots) sent.0 None in
      map-changed_to next_delivery_of (linked_to_following event) (Some event) (λ slot. refl) between last.0
      ∙ ap (λ (links : List (Option EventId)). slice_set links last.0 (Some event)) first

-- the send has no label, and its last delivery has the send's
abbrev pub IsSourceLabelled : List (Option ℕ) → List (Option EventId) → EventId → Type 0
IsSourceLabelled labels lasts sent =
    (sent.0 < length labels)
    × (label_at labels sent.0 ≡ None)
    × IfSome (link_at lasts sent.0) (λ last. label_at labels last.0 ≡ Some sent.0)

-- so it is of the send among slots, if there is one
abbrev pub IsSendLabelled : List Slot → Option EventId → Type 0
IsSendLabelled slots send = IfSome send (IsSourceLabelled (send_labels slots) (last_deliveries_of slots))

last-with_delivery : (slots : List Slot) (send : Option EventId) (event : EventId) → IsSendLabelled slots send
    → last_deliveries_of (with_delivery slots send event) ≡ lasts_with (last_deliveries_of slots) send event
last-with_delivery slots None event source = refl
last-with_delivery slots (Some sent) event source =
    last-with_next_delivery (with_last_delivery slots sent.0 event) (link_at (last_deliveries_of slots) sent.0) event
    ∙ last-with_last slots sent event (omega (arith, source.0, length-send_labels slots)) source.1

next-with_delivery : (slots : List Slot) (send : Option EventId) (event : EventId) → IsSendLabelled slots send
    → next_deliveries_of (with_delivery slots send event) ≡ nexts_with (next_deliveries_of slots) (last_deliveries_of slots) send event
next-with_delivery slots None event source = refl
next-with_delivery slots (Some sent) event source =
    let exists : sent.0 < length slots = omega (arith, source.0, length-send_labels slots) in
    next_by_last slots sent event exists source.1 (link_at (last_deliveries_of slots) sent.0) refl

-- with all links to a new event
module _ (slots : List Slot) (previous send : Option EventId) (event : EventId) (source : IsSendLabelled slots send) where
  abbrev after : List Slot
  after = with_next slots previous event

  lasts_stay : last_deliveries_of after ≡ last_deliveries_of slots
  lasts_stay = deliveries-with_next (λ role counterpart next. last_delivery_by role counterpart) slots previous event

  nexts_stay : next_deliveries_of after ≡ next_deliveries_of slots
  nexts_stay = deliveries-with_next (λ role counterpart next. next) slots previous event

  labels_stay : send_labels after ≡ send_labels slots
  labels_stay = deliveries-with_next (λ role counterpart next. place_of (send_by role counterpart)) slots previous event

  pub source_after : IsSendLabelled after send
  source_after =
      subst (λ (labels : List (Option ℕ)). IfSome send (IsSourceLabelled labels (last_deliveries_of after))) (sym labels_stay)
      (subst (λ (lasts : List (Option EventId)). IfSome send (IsSourceLabelled (send_labels slots) lasts)) (sym lasts_stay) source)

  pub lasts-linked : last_deliveries_of (with_delivery after send event) ≡ lasts_with (last_deliveries_of slots) send event
  lasts-linked =
      last-with_delivery after send event source_after
      ∙ ap (λ (lasts : List (Option EventId)). lasts_with lasts send event) lasts_stay

  pub next_deliveries-linked : next_deliveries_of (with_delivery after send event)
      ≡ nexts_with (next_deliveries_of slots) (last_deliveries_of slots) send event
  next_deliveries-linked =
      next-with_delivery after send event source_after
      ∙ ap (λ (nexts : List (Option EventId)). nexts_with nexts (last_deliveries_of after) send event) nexts_stay
      ∙ ap (λ (lasts : List (Option EventId)). nexts_with (next_deliveries_of slots) lasts send event) lasts_stay

-- the last delivery of a send exists
last_exists : (slots : List Slot) (sent : EventId) (o : Option EventId)
    → IfSome o (λ last. label_at (send_labels slots) last.0 ≡ Some sent.0) → IfSome o (λ last. last.0 < length slots)
last_exists slots sent None label = tt
last_exists slots sent (Some last) label =
    omega (arith, labelled_within (send_labels slots) last.0 sent.0 label, length-send_labels slots)

pub last_delivery_exists : (slots : List Slot) (send : Option EventId) → IsSendLabelled slots send
    → IfSome send (λ sent. IfSome (link_at (last_deliveries_of slots) sent.0) (λ last. last.0 < length slots))
last_delivery_exists slots None source = tt
last_delivery_exists slots (Some sent) source = last_exists slots sent (link_at (last_deliveries_of slots) sent.0) source.2

pub send_exists : (slots : List Slot) (send : Option EventId) → IsSendLabelled slots send
    → IfSome send (λ sent. sent.0 < length slots)
send_exists slots None source = tt
send_exists slots (Some sent) source = omega (arith, source.0, length-send_labels slots)
