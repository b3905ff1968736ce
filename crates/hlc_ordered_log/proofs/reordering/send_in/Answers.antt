use Rattle.std.proofs.Common.{◌≡◌, ◌∙◌, ℕ, ◌<◌, List, length, Option, Some, None, arith, refl, subst, sym}
use Rattle.std.specs.Prelude.{slice_index_or}
use Rattle.std.proofs.lemmas.List.{length-map}
use Rattle.hlc_stamp.specs.Ids.{places_of}
use Rattle.hlc_stamp.specs.declared.id.EventId.{EventId}
use Rattle.hlc_causality.specs.ClockEvents.{clock_skeleton}
use Rattle.hlc_causality.specs.Neighbours.{place_of}
use Rattle.hlc_causality.specs.Predecessors.{send_of}
use Rattle.hlc_causes.proofs.LinksFound.{send_of_received}
use Rattle.hlc_log.specs.OrderSkeleton.{rules_in}
use Rattle.hlc_ordered_log.specs.InOrder.{IsInOrder, LogInOrder, NamesSendIn, clocks_of, skeleton_of}
use Rattle.hlc_ordered_log.proofs.EventsInOrder.{length-claimed_of, length-skeleton_of}
use Rattle.hlc_ordered_log.proofs.Ordering.{order_len}
use Rattle.hlc_ordered_log.proofs.OtherOrders.{none_named, one_named}
use Rattle.hlc_ordered_log.proofs.reordering.send_in.Goals as goal

-- the event at a place stands at q in the log's order, and at k in the other
module _ (log : LogInOrder) (ordered : IsInOrder log) (q : ℕ) (exists : q < length log.events) (k : ℕ) (order : List EventId) (k_lt : k < length order) where
  q_within : q < length log.order
  q_within = omega (arith, exists, order_len log.events log.order ordered.causal)

  k_within : k < length (places_of order)
  k_within = omega (arith, k_lt, length-map order (λ (id : EventId). id.0))

  sent : (o : Option ℕ) → o ≡ send_of (clock_skeleton (clocks_of log)) q → send_of (skeleton_of log) q ≡ o
  sent o is = send_of_received (rules_in log.receives log.events log.order) (skeleton_of log) q ∙ sym is

pub place-requires : goal.place-requires
place-requires c =
    let lt = c.in_ok-send.ensures.exists c.in_ok-send.send refl in
    let ordered = c.len-ordered.ensures.ordered in
    omega (arith, lt, length-claimed_of c.args.log.now, length-skeleton_of c.args.log.now ordered)

pub returns-in_err-send : goal.returns-in_err-send
returns-in_err-send c order whole are k lt same =
    let log = c.args.log.now in
    let ordered = c.len-ordered.ensures.ordered in
    let q = c.position.result.0 in
    let exists = c.position.ensures.exists in
    subst (λ (o : Option EventId). NamesSendIn log.events (places_of order) k (place_of o)) (sym c.from_residual.ensures)
    (none_named log.events ordered.messages.once log.order ordered.causal q (q_within log ordered q exists k order lt) order whole k
    (k_within log ordered q exists k order lt) (same ∙ sym c.position.ensures.place) (sent log ordered q exists k order lt None c.in_err-send.ensures.value))

pub returns : goal.returns
returns c order whole are k lt same =
    let log = c.args.log.now in
    let ordered = c.len-ordered.ensures.ordered in
    let q = c.position.result.0 in
    let exists = c.position.ensures.exists in
    let none : EventId = record { 0 = 0 } in
    let j = c.in_ok-send.send.0 in
    subst (λ (p : ℕ). NamesSendIn log.events (places_of order) k (Some (slice_index_or c.args.positions.now p none).0)) (sym c.place.ensures)
    (one_named log.events ordered.messages.once log.order ordered.causal q (q_within log ordered q exists k order lt) order whole k
    (k_within log ordered q exists k order lt) (same ∙ sym c.position.ensures.place) j
    (sent log ordered q exists k order lt (Some j) c.in_ok-send.ensures.value) c.args.positions.now are none)
