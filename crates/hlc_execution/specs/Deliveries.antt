-- The deliveries of a send that are left, along their links.
use Rattle.std.specs.Prelude.{◌≡◌, ℕ, ◌&&◌, Option, Some, None, List, [], filter, length, nat_le, IfSome}
use Rattle.hlc_stamp.specs.declared.id.EventId.{EventId}
use Rattle.hlc_causality.specs.Neighbours.{is_of_send}
use Rattle.hlc_causality.specs.Places.{places_below}
use Rattle.hlc_execution.specs.declared.slot.Slot.{Slot}
use Rattle.hlc_execution.specs.Links.{AreNexts, label_at}
use Rattle.hlc_execution.specs.Slots.{next_deliveries_of, send_labels}

-- the places from low on at which an event has this send, rising
abbrev pub labelled_from : List (Option ℕ) → ℕ → ℕ → List ℕ
labelled_from labels low a = filter (λ k. nat_le low k && is_of_send a (label_at labels k)) (places_below (length labels))

-- a delivery and the later ones of the same send, by its place and its send
abbrev pub with_later : List (Option ℕ) → ℕ → Option ℕ → List ℕ
with_later send_links low None = []
with_later send_links low (Some sent) = labelled_from send_links low sent

-- the deliveries that are left
abbrev pub deliveries_from : List Slot → Option EventId → List ℕ
deliveries_from slots None = []
deliveries_from slots (Some next) = with_later (send_labels slots) next.0 (label_at (send_labels slots) next.0)

-- the slots link each delivery to the next, and the next that is left is a delivery
pub record AreDeliveriesLinked (slots : List Slot) (next : Option EventId) : Type 0 where
  pub linked : AreNexts (send_labels slots) (next_deliveries_of slots)
  pub delivery : IfSome next (λ place. (sent : ℕ) × (label_at (send_labels slots) place.0 ≡ Some sent))
