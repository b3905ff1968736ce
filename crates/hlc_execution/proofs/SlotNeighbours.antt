-- The links of a slot name the neighbours of its event.
use Rattle.std.proofs.Common.{◌≡◌, ℕ, ◌+◌, ◌<◌, List, length, map, get_or, Option, Some, None, arith, subst, sym, ap, ◌∙◌}
use Rattle.std.proofs.lemmas.List.{get_or-map, length-map}
use Rattle.std.specs.declared.alloc.Global.{Global}
use Rattle.std.specs.declared.vec.Vec.{Vec}
use Rattle.hlc_stamp.specs.declared.id.EventId.{EventId}
use Rattle.hlc_causality.specs.Assignment.{pair_at}
use Rattle.hlc_causality.specs.Causality.{Skeleton, skeleton_at}
use Rattle.hlc_causality.specs.Forcing.{NamesClockForcing}
use Rattle.hlc_causality.specs.ReceiveEvents.{ClockRules, clock_events}
use Rattle.hlc_causality.specs.Neighbours.{NamesLast, NamesNext, NamesPrevious, NamesSend, place_of}
use Rattle.hlc_pages.specs.Pages.{PagedItems}
use Rattle.hlc_execution.specs.declared.node_ends.NodeEnds.{NodeEnds}
use Rattle.hlc_execution.specs.declared.slot.Forced.{Forced}
use Rattle.hlc_execution.specs.declared.slot.Forced.TheVariants.{Not}
use Rattle.hlc_execution.specs.declared.slot.Slot.{Slot}
use Rattle.hlc_execution.specs.Execution.{IsExecution, StoredExecution}
use Rattle.hlc_execution.specs.Links.{LinksToFirst, LinksToLast, label_at, link_at}
use Rattle.hlc_execution.specs.NodeEnds.{last_in, lasts_of}
use Rattle.hlc_execution.specs.Forcing.{forced_by, forcing_by, pair_of, rule_event}
use Rattle.hlc_execution.specs.Slots.{AreLinked, AreSlotsForced, event_of_slot, events_of_slots, execution_in, forcing_in, nodes_of, send_in, stamp_in, stamps_of_slots, stored_execution}
use Rattle.hlc_execution.proofs.Executions.{send_is_source}
use Rattle.hlc_execution.proofs.Forced.{names_forcing}
use Rattle.hlc_execution.proofs.Links.{LinksToLastOf}
use Rattle.hlc_execution.proofs.Neighbours.{names_last, names_next, names_previous, names_send}
use Rattle.hlc_execution.proofs.SlotEvents.{are_nodes, length-events_of_slots, length-stamps_of_slots, send_at}

-- an event of an execution has a slot
pub slot_exists : (stored : StoredExecution) {rules : ClockRules} (slots : PagedItems Slot) (ends : Vec (Option NodeEnds) Global) (i : ℕ)
    → stored_execution rules slots ends ≡ stored → i < length stored.events → i < length slots.items
slot_exists stored slots ends i view_is within =
    let shown = subst (λ (x : StoredExecution). i < length x.events) (sym view_is) within in
    omega (arith, length-events_of_slots slots.items)

-- what is read of what is kept of a node
pub last_read : (kept : List (Option NodeEnds)) (node : ℕ) (ends : Option NodeEnds)
    → node < length kept → ends ≡ get_or kept node ends → link_at (lasts_of kept) node ≡ last_in ends
last_read kept node ends lt is = get_or-map last_in kept node ends None lt ∙ ap last_in (sym is)

-- what is read of the slot at a place
module _ (slots : List Slot) (i : ℕ) (slot : Slot) (lt : i < length slots) (is : slot ≡ get_or slots i slot) where
  pub link_read : (link : Slot → Option EventId) → link_at (map link slots) i ≡ link slot
  link_read link = get_or-map link slots i slot _ lt ∙ ap link (sym is)

  pub label_read : (label : Slot → Option ℕ) → label_at (map label slots) i ≡ label slot
  label_read label = get_or-map label slots i slot _ lt ∙ ap label (sym is)

  node_read : label_at (nodes_of slots) i ≡ Some (skeleton_at (events_of_slots slots) i).node
  node_read = (are_nodes slots).each i (omega (arith, length-events_of_slots slots))

  -- the pair of the event
  pub pair_read : pair_at (stamps_of_slots slots) i ≡ stamp_in slot
  pair_read = get_or-map stamp_in slots i slot _ lt ∙ ap stamp_in (sym is)

  -- the event as causality sees it
  pub event_read : skeleton_at (events_of_slots slots) i ≡ event_of_slot slot
  event_read = get_or-map event_of_slot slots i slot _ lt ∙ ap event_of_slot (sym is)

  pub slot_send : (rules : ClockRules) (nodes room : ℕ) → IsExecution (execution_in rules nodes slots room) → NamesSend (events_of_slots slots) i (send_in slot)
  slot_send rules nodes room execution =
      names_send (events_of_slots slots) i (send_in slot) (omega (arith, length-events_of_slots slots))
      (sym (label_read (λ (s : Slot). place_of (send_in s))) ∙ send_at slots i)
      (λ d names. (send_is_source (execution_in rules nodes slots room) execution i d names).0)

  module _ {last : List (Option EventId)} (linked : AreLinked slots last) where
    abbrev events : Skeleton
    events = events_of_slots slots

    abbrev labels : List (Option ℕ)
    labels = nodes_of slots

    pub slot_previous : NamesPrevious events i slot.previous
    slot_previous =
        let node = (skeleton_at events i).node in
        let exists : i < length events = omega (arith, length-events_of_slots slots) in
        names_previous events labels (are_nodes slots) i slot.previous exists
        (subst (LinksToLast labels node i) (link_read (λ (s : Slot). s.previous)) (linked.previous i node node_read))

    pub slot_next : NamesNext events i slot.next_at_node
    slot_next =
        let node = (skeleton_at events i).node in
        names_next events labels (are_nodes slots) i slot.next_at_node
        (subst (LinksToFirst labels node (i + 1)) (link_read (λ (s : Slot). s.next_at_node)) (linked.next_at_node i node node_read))

    pub slot_forcing : (rules : ClockRules) (nodes room : ℕ) → IsExecution (execution_in rules nodes slots room) → AreSlotsForced rules slots
        → NamesClockForcing (clock_events rules events) (stamps_of_slots slots) i (forcing_in slot)
    slot_forcing rules nodes room execution kept_forced =
        let t = clock_events rules events in
        let pairs = stamps_of_slots slots in
        let send = send_in slot in
        let x = rule_event rules events i in
        let read = get_or-map (λ (s : Slot). s.forced) slots i slot Not lt ∙ ap (λ (s : Slot). s.forced) (sym is) in
        let forced : slot.forced ≡ forced_by x (pair_at pairs i) (pair_of pairs slot.previous) =
        sym read ∙ kept_forced i (omega (arith, length-stamps_of_slots slots))
        ∙ ap (λ (o : Option EventId). forced_by x (pair_at pairs i) (pair_of pairs o)) (link_read (λ (s : Slot). s.previous)) in
        subst (λ (kept : Forced). NamesClockForcing t pairs i (forcing_by kept slot.previous send)) (sym forced)
        (names_forcing rules events pairs i (omega (arith, length-events_of_slots slots)) slot.previous send slot_previous (slot_send rules nodes room execution))

-- what is kept of a node links to its last event
pub last_links : (slots : List Slot) (kept : List (Option NodeEnds)) (node : ℕ) (ends : Option NodeEnds)
    → AreLinked slots (lasts_of kept) → node < length kept → ends ≡ get_or kept node ends
    → LinksToLastOf (nodes_of slots) node (last_in ends)
last_links slots kept node ends linked lt is =
    let exists : node < length (lasts_of kept) = omega (arith, length-map kept last_in) in
    subst (LinksToLastOf (nodes_of slots) node) (last_read kept node ends lt is) (linked.last_at_node node exists)

-- and so names it
pub last_names : (slots : List Slot) (kept : List (Option NodeEnds)) (node : ℕ) (ends : Option NodeEnds)
    → AreLinked slots (lasts_of kept) → node < length kept → ends ≡ get_or kept node ends
    → NamesLast (events_of_slots slots) node (last_in ends)
last_names slots kept node ends linked lt is =
    names_last (events_of_slots slots) (nodes_of slots) (are_nodes slots) node (last_in ends)
    (last_links slots kept node ends linked lt is)
