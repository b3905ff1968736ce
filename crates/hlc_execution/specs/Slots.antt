-- The slots of an execution, and what is always true of them.
use Rattle.std.specs.Prelude.{ℕ, Option, Some, List, map, vec_len}
use Rattle.std.specs.declared.vec.Vec.{Vec}
use Rattle.std.specs.declared.alloc.Global.{Global}
use Rattle.hlc_stamp.specs.declared.id.EventId.{EventId}
use Rattle.hlc_stamp.specs.Order.{Pair}
use Rattle.hlc_causality.specs.ReceiveEvents.{ClockRules}
use Rattle.hlc_causality.specs.Causality.{Skeleton, SkeletonEvent}
use Rattle.hlc_causality.specs.Neighbours.{place_of}
use Rattle.hlc_pages.specs.Pages.{PagedItems}
use Rattle.hlc_execution.specs.declared.node_ends.NodeEnds.{NodeEnds}
use Rattle.hlc_execution.specs.declared.slot.Forced.{Forced}
use Rattle.hlc_execution.specs.declared.slot.Slot.{Slot}
use Rattle.hlc_execution.specs.Execution.{IsExecution, StoredExecution}
use Rattle.hlc_execution.specs.Links.{AreFollowed, AreLasts, AreNexts, ArePrevious}
use Rattle.hlc_execution.specs.NodeEnds.{FitsEachNode, lasts_of}
use Rattle.hlc_execution.specs.Role.{first_delivery_by, last_delivery_by, send_by}
use Rattle.hlc_execution.specs.Forcing.{AreForced, forcing_by}

-- the stamp of a slot's event
abbrev pub stamp_in : Slot → Pair
stamp_in slot = record { l = slot.l; c = slot.c }

-- the send of a delivery
abbrev pub send_in : Slot → Option EventId
send_in slot = send_by slot.role slot.counterpart

-- the first delivery of a send, or None if the event is a delivery
abbrev pub first_delivery_in : Slot → Option EventId
first_delivery_in slot = first_delivery_by slot.role slot.next_delivery

-- the last delivery of a send, or None if the event is a delivery
abbrev pub last_delivery_in : Slot → Option EventId
last_delivery_in slot = last_delivery_by slot.role slot.counterpart

-- a slot's event as causality sees it
abbrev pub event_of_slot : Slot → SkeletonEvent
event_of_slot slot = record { node = slot.node.0; reading = slot.reading; send = place_of (send_in slot) }

-- what slots stand for
abbrev pub events_of_slots : List Slot → Skeleton
events_of_slots slots = map event_of_slot slots

-- their stamps
abbrev pub stamps_of_slots : List Slot → List Pair
stamps_of_slots slots = map stamp_in slots

-- each event's label: its node
abbrev pub nodes_of : List Slot → List (Option ℕ)
nodes_of slots = map (λ slot. Some slot.node.0) slots

-- each event's label: its send, if it is a delivery
abbrev pub send_labels : List Slot → List (Option ℕ)
send_labels slots = map (λ slot. place_of (send_in slot)) slots

-- of each event, the link to the previous event of its node
abbrev pub previous_of_slots : List Slot → List (Option EventId)
previous_of_slots slots = map (λ slot. slot.previous) slots

-- of each event, the link to the next event of its node
abbrev pub nexts_of : List Slot → List (Option EventId)
nexts_of slots = map (λ slot. slot.next_at_node) slots

-- of each event, the link to the last delivery
abbrev pub last_deliveries_of : List Slot → List (Option EventId)
last_deliveries_of slots = map last_delivery_in slots

-- of each event, the link to the first delivery of a send, or to the next delivery of the same send
abbrev pub next_deliveries_of : List Slot → List (Option EventId)
next_deliveries_of slots = map (λ slot. slot.next_delivery) slots

-- the forcing event of a slot's event
abbrev pub forcing_in : Slot → Option EventId
forcing_in slot = forcing_by slot.forced slot.previous (send_in slot)

-- of each event, which direct predecessor is its forcing event
abbrev pub forced_of : List Slot → List Forced
forced_of slots = map (λ slot. slot.forced) slots

-- every link of the events is exact; `last` has a link for each node
pub record AreLinked (slots : List Slot) (last : List (Option EventId)) : Type 0 where
  pub previous : ArePrevious (nodes_of slots) (previous_of_slots slots)
  pub next_at_node : AreNexts (nodes_of slots) (nexts_of slots)
  pub last_at_node : AreLasts (nodes_of slots) last
  pub next_delivery : AreFollowed (send_labels slots) (next_deliveries_of slots)
  pub last_delivery : AreLasts (send_labels slots) (last_deliveries_of slots)

-- the execution that slots hold
abbrev pub execution_in : ClockRules → ℕ → List Slot → ℕ → StoredExecution
execution_in rules nodes slots room = record {
  rules = rules;
  nodes = nodes;
  events = events_of_slots slots;
  stamps = stamps_of_slots slots;
  room = room;
}

-- the value of an execution
abbrev pub stored_execution : ClockRules → PagedItems Slot → Vec (Option NodeEnds) Global → StoredExecution
stored_execution rules slots ends = execution_in rules (vec_len ends) slots.items slots.room

-- each slot says which direct predecessor is the forcing event of its event
abbrev pub AreSlotsForced : ClockRules → List Slot → Type 0
AreSlotsForced rules slots =
    AreForced rules (events_of_slots slots) (stamps_of_slots slots) (previous_of_slots slots) (forced_of slots)

-- what is true of the slots and the ends of every execution
pub record AreSlots (rules : ClockRules) (slots : PagedItems Slot) (ends : Vec (Option NodeEnds) Global) : Type 0 where
  pub execution : IsExecution (stored_execution rules slots ends)
  pub linked : AreLinked slots.items (lasts_of ends.items)
  pub forced : AreSlotsForced rules slots.items
  pub each_node : FitsEachNode (events_of_slots slots.items) (stamps_of_slots slots.items) ends.items
