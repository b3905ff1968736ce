-- The deliveries of a send, by their links.
use Rattle.std.proofs.Common.{◌≡◌, ◌≢◌, ℕ, ◌+◌, ◌<◌, ◌≤◌, ◌&&◌, ◌↔◌, inl, inr, Bool, false, List, [], ◌∷◌, length, Option, Some, None, get_or, arith, subst, sym, ap, ◌∙◌}
use Rattle.std.specs.Prelude.{nat_le, IfSome}
use Rattle.std.specs.List.{Contains, filter}
use Rattle.std.proofs.lemmas.Bool.{and_left, cases_lt, le-leb, lt-leb}
use Rattle.hlc_stamp.specs.declared.id.EventId.{EventId}
use Rattle.hlc_execution.specs.declared.role.Role.{Role}
use Rattle.hlc_execution.specs.declared.role.Role.TheVariants.{Alone, Delivery, Send}
use Rattle.hlc_execution.specs.declared.slot.Slot.{Slot}
use Rattle.hlc_execution.specs.Execution.{IsExecution}
use Rattle.hlc_causality.specs.ReceiveEvents.{ClockRules}
use Rattle.hlc_causality.specs.Causality.{IsSendOf, skeleton_at}
use Rattle.hlc_causality.specs.Places.{places_below}
use Rattle.hlc_execution.specs.Links.{AreNexts, IsFirstFrom, LinksToFirst, label_at, link_at}
use Rattle.hlc_causality.specs.Neighbours.{deliveries_of, is_of_send, place_of}
use Rattle.hlc_execution.specs.Role.{first_delivery_by, send_by}
use Rattle.hlc_execution.specs.Slots.{AreLinked, events_of_slots, execution_in, first_delivery_in, next_deliveries_of, send_labels}
use Rattle.hlc_execution.specs.Deliveries.{AreDeliveriesLinked, deliveries_from, labelled_from, with_later}
use Rattle.hlc_execution.proofs.Links.{first_from_followed, labelled_within, nexts_from_followed, some≢none}
use Rattle.hlc_causality.proofs.Neighbours.{deliveries_of-complete, test_of_other, test_of_send}
use Rattle.hlc_causality.proofs.PlacesBelow.{first_place_passes, no_place_passes, same_places_pass}
use Rattle.hlc_execution.proofs.Executions.{send_is_source}
use Rattle.hlc_execution.proofs.SlotEvents.{label_is_source, length-events_of_slots, length-send_labels, next_delivery_of, send_at, send_label}
use Rattle.hlc_execution.proofs.SlotNeighbours.{label_read, link_read}

module _ (labels : List (Option ℕ)) (a : ℕ) where
  abbrev test : ℕ → ℕ → Bool
  test low k = nat_le low k && is_of_send a (label_at labels k)

  test_below : (low k : ℕ) → k < low → test low k ≡ false
  test_below low k lt = and_left (nat_le low k) _ (lt-leb low k lt)

  test_from : (low k : ℕ) → low ≤ k → test low k ≡ is_of_send a (label_at labels k)
  test_from low k le = ap (λ b. b && is_of_send a (label_at labels k)) (le-leb low k le)

  pub labelled_none : (low : ℕ) → ((k : ℕ) → low ≤ k → label_at labels k ≢ Some a) → labelled_from labels low a ≡ []
  labelled_none low none = no_place_passes (test low) (length labels) (λ k lt. elim (cases_lt k low) [
    | inl below ↦ test_below low k below
    | inr from ↦ test_from low k from ∙ test_of_other a (label_at labels k) (none k from)
  ])

  pub labelled_first : (low g : ℕ) → IsFirstFrom labels a low g → labelled_from labels low a ≡ g ∷ labelled_from labels (g + 1) a
  labelled_first low g h =
      let from : low ≤ g = h.from in
      first_place_passes (test low) (test (g + 1)) g (length labels) (labelled_within labels g a h.labelled)
      (λ k lt. elim (cases_lt k low) [
        | inl below ↦ test_below low k below
        | inr above ↦ test_from low k above ∙ test_of_other a (label_at labels k) (h.first k above lt)
      ])
      (test_from low g from ∙ test_of_send a (label_at labels g) h.labelled)
      (λ k le. test_below (g + 1) k (omega arith))
      (λ k above. test_from low k (omega arith) ∙ sym (test_from (g + 1) k (omega arith)))

  pub labelled_here : (g : ℕ) → label_at labels g ≡ Some a → labelled_from labels g a ≡ g ∷ labelled_from labels (g + 1) a
  labelled_here g is = labelled_first g g (record { from = omega arith; labelled = is; first = λ k le lt. absurd (omega arith) })

-- what a link to the first delivery leaves
pub deliveries_from-first : (slots : List Slot) (a low : ℕ) (o : Option EventId) → LinksToFirst (send_labels slots) a low o
    → deliveries_from slots o ≡ labelled_from (send_labels slots) low a
deliveries_from-first slots a low None h = sym (labelled_none (send_labels slots) a low h)
deliveries_from-first slots a low (Some g) h =
    let labels = send_labels slots in
    ap (with_later labels g.0) h.labelled ∙ labelled_here labels a g.0 h.labelled ∙ sym (labelled_first labels a low g.0 h)

-- one step along the links
pub deliveries_from-step : (slots : List Slot) (g : EventId) (a : ℕ)
    → AreNexts (send_labels slots) (next_deliveries_of slots) → label_at (send_labels slots) g.0 ≡ Some a
    → deliveries_from slots (Some g) ≡ g.0 ∷ deliveries_from slots (link_at (next_deliveries_of slots) g.0)
deliveries_from-step slots g a nexts is =
    let labels = send_labels slots in
    let following = deliveries_from-first slots a (g.0 + 1) (link_at (next_deliveries_of slots) g.0) (nexts g.0 a is) in
    ap (with_later labels g.0) is ∙ labelled_here labels a g.0 is ∙ ap (λ xs. g.0 ∷ xs) (sym following)

pub labelled-deliveries_of : (slots : List Slot) (e : ℕ) → labelled_from (send_labels slots) 0 e ≡ deliveries_of (events_of_slots slots) e
labelled-deliveries_of slots e =
    let s = events_of_slots slots in
    let labels = send_labels slots in
    let same : length labels ≡ length s = length-send_labels slots ∙ sym (length-events_of_slots slots) in
    same_places_pass (test labels e 0) (λ f. is_of_send e (skeleton_at s f).send) (length labels)
    (λ k lt. test_from labels e 0 k (omega arith) ∙ ap (is_of_send e) (send_at slots k))
    ∙ ap (λ n. filter (λ f. is_of_send e (skeleton_at s f).send) (places_below n)) same

first_has_label : (labels : List (Option ℕ)) (a low : ℕ) (o : Option EventId) → LinksToFirst labels a low o
    → IfSome o (λ place. (sent : ℕ) × (label_at labels place.0 ≡ Some sent))
first_has_label labels a low None h = tt
first_has_label labels a low (Some g) h = (a, h.labelled)

-- what a delivery leaves stays linked
pub next_linked : (slots : List Slot) (g : EventId) (a : ℕ)
    → AreNexts (send_labels slots) (next_deliveries_of slots) → label_at (send_labels slots) g.0 ≡ Some a
    → AreDeliveriesLinked slots (link_at (next_deliveries_of slots) g.0)
next_linked slots g a nexts is = record {
  linked = nexts;
  delivery = first_has_label (send_labels slots) a (g.0 + 1) (link_at (next_deliveries_of slots) g.0) (nexts g.0 a is);
}

-- the deliveries of an event, from its slot
module _ (slots : List Slot) {last : List (Option EventId)} (linked : AreLinked slots last) (rules : ClockRules) (nodes room : ℕ)
    (execution : IsExecution (execution_in rules nodes slots room)) (i : ℕ) (slot : Slot)
    (lt : i < length slots) (is : slot ≡ get_or slots i slot) where
  abbrev sends : List (Option ℕ)
  sends = send_labels slots

  source_of : (j : ℕ) → label_at sends j ≡ Some i → (i < j) × (label_at sends i ≡ None)
  source_of j labelled = label_is_source slots rules nodes room execution j i labelled

  first_of_source : label_at sends i ≡ None → link_at (next_deliveries_of slots) i ≡ slot.next_delivery
      → LinksToFirst sends i 0 slot.next_delivery
  first_of_source label next =
      let exists : i < length sends = omega (arith, length-send_labels slots) in
      subst (LinksToFirst sends i 0) next
      (first_from_followed sends (next_deliveries_of slots) i (λ j labelled. (source_of j labelled).0) linked.next_delivery exists label)

  first_link_of : (role : Role) (counterpart : EventId) → label_at sends i ≡ place_of (send_by role counterpart)
      → link_at (next_deliveries_of slots) i ≡ slot.next_delivery → LinksToFirst sends i 0 (first_delivery_by role slot.next_delivery)
  first_link_of Alone counterpart label next = first_of_source label next
  first_link_of Send counterpart label next = first_of_source label next
  first_link_of Delivery send label next = λ j le labelled. some≢none send.0 (sym (source_of j labelled).1 ∙ label)

  first_link : LinksToFirst sends i 0 (first_delivery_in slot)
  first_link =
      first_link_of slot.role slot.counterpart (label_read slots i slot lt is send_label) (link_read slots i slot lt is next_delivery_of)

  pub slot_deliveries_linked : AreDeliveriesLinked slots (first_delivery_in slot)
  slot_deliveries_linked = record {
    linked = nexts_from_followed (send_labels slots) (next_deliveries_of slots) linked.next_delivery;
    delivery = first_has_label (send_labels slots) i 0 (first_delivery_in slot) first_link;
  }

  pub slot_deliveries : deliveries_from slots (first_delivery_in slot) ≡ deliveries_of (events_of_slots slots) i
  slot_deliveries = deliveries_from-first slots i 0 (first_delivery_in slot) first_link ∙ labelled-deliveries_of slots i

  pub slot_deliveries_complete : (f : ℕ) → Contains (deliveries_of (events_of_slots slots) i) f ↔ IsSendOf (events_of_slots slots) i f
  slot_deliveries_complete =
      deliveries_of-complete (events_of_slots slots) i (λ f d exists names.
      (send_is_source (execution_in rules nodes slots room) execution f d names).0)
