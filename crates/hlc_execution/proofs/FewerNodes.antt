-- Of fewer nodes is kept what was kept of them.
use Rattle.std.proofs.Common.{◌≡◌, ◌∙◌, ℕ, ◌<◌, ◌≤◌, List, length, take, Option, None, arith, subst, sym, ap}
use Rattle.std.proofs.lemmas.List.{get_or-map, get_or-take, length-map, length-take}
use Rattle.hlc_stamp.specs.Order.{Pair}
use Rattle.hlc_causality.specs.Causality.{Skeleton, skeleton_at}
use Rattle.hlc_execution.specs.declared.node_ends.NodeEnds.{NodeEnds}
use Rattle.hlc_execution.specs.declared.slot.Slot.{Slot}
use Rattle.hlc_execution.specs.Execution.{IsExecution, StoredExecution}
use Rattle.hlc_execution.specs.Links.{AreLasts, LinksToLast, link_at}
use Rattle.hlc_execution.specs.NodeEnds.{FitsEachNode, FitsNode, last_in, lasts_of}
use Rattle.hlc_execution.specs.Slots.{AreLinked}

module _ (kept : List (Option NodeEnds)) (n : ℕ) where
  within : (a : ℕ) → a < length (take n kept) → (a < n) × (a < length kept)
  within a lt = let size = length-take n kept in (omega (arith, lt, size), omega (arith, lt, size))

  pub fewer_fit : (s : Skeleton) (pairs : List Pair) → FitsEachNode s pairs kept → FitsEachNode s pairs (take n kept)
  fewer_fit s pairs fits node lt =
      let in_both = within node lt in
      subst (FitsNode s pairs node) (sym (get_or-take n kept node None in_both.0)) (fits node in_both.1)

  fewer_lasts : (labels : List (Option ℕ)) → AreLasts labels (lasts_of kept) → AreLasts labels (lasts_of (take n kept))
  fewer_lasts labels lasts a lt =
      let there : a < length (take n kept) = omega (arith, lt, length-map (take n kept) last_in) in
      let in_both = within a there in
      let same : link_at (lasts_of (take n kept)) a ≡ link_at (lasts_of kept) a =
      get_or-map last_in (take n kept) a None None there ∙ ap last_in (get_or-take n kept a None in_both.0)
      ∙ sym (get_or-map last_in kept a None None in_both.1) in
      subst (LinksToLast labels a (length labels)) (sym same) (lasts a (omega (arith, in_both.1, length-map kept last_in)))

  pub fewer_linked : (slots : List Slot) → AreLinked slots (lasts_of kept) → AreLinked slots (lasts_of (take n kept))
  fewer_linked slots linked = record {
    previous = linked.previous;
    next_at_node = linked.next_at_node;
    last_at_node = fewer_lasts _ linked.last_at_node;
    next_delivery = linked.next_delivery;
    last_delivery = linked.last_delivery;
  }

-- an execution whose events are of the first nodes is one of these
pub fewer_nodes : (x : StoredExecution) (n : ℕ) → n ≤ x.nodes → ((k : ℕ) → k < length x.events → (skeleton_at x.events k).node < n)
    → IsExecution x → IsExecution (record x { nodes = n })
fewer_nodes x n fewer named execution = record {
  few_nodes = omega (arith, fewer, execution.few_nodes);
  small_floors = execution.small_floors;
  few = execution.few;
  stamped = execution.stamped;
  each = λ f lt. record { node = named f lt; send = (execution.each f lt).send };
}
