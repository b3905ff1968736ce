-- The events of slots, and their labels.
use Rattle.std.proofs.Common.{◌≡◌, ℕ, ◌<◌, List, [], ◌∷◌, length, map, Option, Some, None, arith, refl, subst, sym, ap, ◌∙◌}
use Rattle.std.specs.Prelude.{slice_index_or}
use Rattle.std.proofs.Math.ListN.{get_or-map}
use Rattle.std.proofs.lemmas.List.{length-map}
use Rattle.std.proofs.lemmas.List.{get_or-map as get_or-map_within}
use Rattle.hlc_stamp.specs.declared.id.EventId.{EventId}
use Rattle.hlc_causality.specs.ReceiveEvents.{ClockRules}
use Rattle.hlc_causality.specs.Causality.{SkeletonEvent, skeleton_at}
use Rattle.hlc_causality.specs.Neighbours.{place_of}
use Rattle.hlc_execution.specs.declared.slot.Slot.{Slot}
use Rattle.hlc_execution.specs.Execution.{IsExecution}
use Rattle.hlc_execution.specs.Links.{label_at}
use Rattle.hlc_execution.specs.Slots.{event_of_slot, events_of_slots, execution_in, nodes_of, send_in, send_labels, stamp_in, stamps_of_slots}
use Rattle.hlc_execution.proofs.Executions.{no_event, send_is_source}
use Rattle.hlc_execution.proofs.Neighbours.{AreNodes}

-- the label of an event, by its slot
abbrev pub send_label : Slot → Option ℕ
send_label slot = place_of (send_in slot)

-- the link to the next delivery, by its slot
abbrev pub next_delivery_of : Slot → Option EventId
next_delivery_of slot = slot.next_delivery

pub length-events_of_slots : (slots : List Slot) → length (events_of_slots slots) ≡ length slots
length-events_of_slots slots = length-map slots event_of_slot

pub length-stamps_of_slots : (slots : List Slot) → length (stamps_of_slots slots) ≡ length slots
length-stamps_of_slots slots = length-map slots stamp_in

pub length-nodes_of : (slots : List Slot) → length (nodes_of slots) ≡ length slots
length-nodes_of slots = length-map slots (λ (slot : Slot). Some slot.node.0)

pub length-send_labels : (slots : List Slot) → length (send_labels slots) ≡ length slots
length-send_labels slots = length-map slots send_label

nodes_of-events : (slots : List Slot) → nodes_of slots ≡ map (λ (e : SkeletonEvent). Some e.node) (events_of_slots slots)
nodes_of-events [] = refl
nodes_of-events (slot ∷ slots) = ap (λ labels. Some slot.node.0 ∷ labels) (nodes_of-events slots)

pub are_nodes : (slots : List Slot) → AreNodes (events_of_slots slots) (nodes_of slots)
are_nodes slots = record {
  size = length-nodes_of slots ∙ sym (length-events_of_slots slots);
  each = λ k lt.
      ap (λ (labels : List (Option ℕ)). label_at labels k) (nodes_of-events slots)
      ∙ get_or-map_within (λ (e : SkeletonEvent). Some e.node) (events_of_slots slots) k no_event None lt;
}

send_labels-events : (slots : List Slot) → send_labels slots ≡ map (λ (e : SkeletonEvent). e.send) (events_of_slots slots)
send_labels-events [] = refl
send_labels-events (slot ∷ slots) = ap (λ labels. send_label slot ∷ labels) (send_labels-events slots)

-- the label is what causality reads
pub send_at : (slots : List Slot) (k : ℕ) → label_at (send_labels slots) k ≡ (skeleton_at (events_of_slots slots) k).send
send_at slots k =
    ap (λ (labels : List (Option ℕ)). label_at labels k) (send_labels-events slots)
    ∙ get_or-map (λ (e : SkeletonEvent). e.send) (events_of_slots slots) k no_event

-- a label names an earlier place that has none
pub label_is_source : (slots : List Slot) (rules : ClockRules) (nodes room : ℕ) → IsExecution (execution_in rules nodes slots room)
    → (k d : ℕ) → label_at (send_labels slots) k ≡ Some d → (d < k) × (label_at (send_labels slots) d ≡ None)
label_is_source slots rules nodes room execution k d is =
    let source = send_is_source (execution_in rules nodes slots room) execution k d (sym (send_at slots k) ∙ is) in
    (source.0, send_at slots d ∙ source.1)

-- the node of an event is one of those that there are
pub node_is_small : (slots : List Slot) (rules : ClockRules) (nodes room : ℕ) → IsExecution (execution_in rules nodes slots room) → (k : ℕ) → k < length slots
    → (other : Slot) → (slice_index_or slots k other).node.0 < nodes
node_is_small slots rules nodes room sound k within other =
    let exists : k < length (events_of_slots slots) = subst (λ (n : ℕ). k < n) (sym (length-events_of_slots slots)) within in
    let here = (sound.each k exists).node in
    let mapped = ap (λ (e : SkeletonEvent). e.node) (get_or-map_within event_of_slot slots k other no_event within) in
    omega arith
