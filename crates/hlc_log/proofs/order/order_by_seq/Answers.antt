use Rattle.std.proofs.Common.{◌≡◌, ◌∙◌, ℕ, ◌<◌, List, length, map, arith, subst, sym, ap}
use Rattle.std.specs.Prelude.{All}
use Rattle.std.proofs.lemmas.List.{get_or-map, length-map}
use Rattle.hlc_stamp.specs.declared.id.EventId.{EventId}
use Rattle.hlc_stamp.specs.Ids.{places_of}
use Rattle.hlc_log.specs.declared.log_event.LogEvent.{LogEvent}
use Rattle.hlc_log.specs.declared.order_fault.OrderFault.TheVariants.{Cycle}
use Rattle.hlc_log.specs.CausalOrder.{IsCausalOrder, Waits, place_at}
use Rattle.hlc_log.specs.Events.{IsNumbered}
use Rattle.hlc_log.specs.Faults.{IsFaultOf, StandsFirst}
use Rattle.hlc_log.specs.Standing.{SeqsRise}
use Rattle.hlc_log.specs.StandingOrder.{arranged}
use Rattle.hlc_log.proofs.Arranged.{arranged_fault, arranged_first, arranged_numbered, arranged_order, arranged_rises, arranged_size}
use Rattle.hlc_log.proofs.CopiedLogs.{copied, ids_below}
use Rattle.hlc_log.proofs.order.order_by_seq.Goals as goal

pub arranged-requires-clause-exist : goal.arranged-requires-clause-exist
arranged-requires-clause-exist c =
    let events = c.args.log.now.events in
    subst (λ (ids : List EventId). All (λ (id : EventId). id.0 < length events) ids) (sym c.deref.ensures.value)
    (ids_below c.in_ok-standing.standing.items (length events) c.in_ok-standing.ensures.exist)

pub place_order-requires-clause-numbered : goal.place_order-requires-clause-numbered
place_order-requires-clause-numbered c =
    let events = c.args.log.now.events in
    let standing = c.in_ok-standing.standing.items in
    let is = copied events c.in_ok-arranged.arranged.events c.deref.result.now standing c.in_ok-arranged.ensures c.deref.ensures.value in
    subst (λ (xs : List LogEvent). All (IsNumbered c.args.messages) xs) (sym is)
    (arranged_numbered events (places_of standing) c.in_ok-standing.ensures c.args.messages c.requires.numbered)

pub place_order-requires-clause-rise : goal.place_order-requires-clause-rise
place_order-requires-clause-rise c =
    let events = c.args.log.now.events in
    let standing = c.in_ok-standing.standing.items in
    let is = copied events c.in_ok-arranged.arranged.events c.deref.result.now standing c.in_ok-arranged.ensures c.deref.ensures.value in
    subst SeqsRise (sym is) (arranged_rises events (places_of standing) c.in_ok-standing.ensures)

pub places_in-requires : goal.places_in-requires
places_in-requires c =
    let events = c.args.log.now.events in
    let standing = c.in_ok-standing.standing.items in
    let is = copied events c.in_ok-arranged.arranged.events c.deref.result.now standing c.in_ok-arranged.ensures c.deref.ensures.value in
    let copy_size = ap (λ (xs : List LogEvent). length xs) is ∙ arranged_size events (places_of standing) c.in_ok-standing.ensures in
    let size = c.in_ok-standing.ensures.one_each in
    let ids = length-map standing (λ (id : EventId). id.0) in
    let seen = ap (λ (xs : List EventId). length xs) c.deref-in-Ok.ensures.value in
    let n = length c.deref-in-Ok.result.now in
    subst (λ (xs : List EventId). All (λ (id : EventId). id.0 < n) xs) (sym c.deref-in-Ok-2.ensures.value)
    (ids_below c.in-Ok.order.items n (λ k lt. omega (arith, (c.in-Ok.ensures.order.causal k lt).exists, copy_size, size, ids, seen)))

pub returns-in-Ok-clause-order : goal.returns-in-Ok-clause-order
returns-in-Ok-clause-order c =
    let events = c.args.log.now.events in
    let standing = c.in_ok-standing.standing.items in
    let order = c.in-Ok.order.items in
    let is = copied events c.in_ok-arranged.arranged.events c.deref.result.now standing c.in_ok-arranged.ensures c.deref.ensures.value in
    let whole = subst (λ (xs : List LogEvent). IsCausalOrder xs (places_of order)) is c.in-Ok.ensures.order in
    let places = c.in_ok-places_in-in-Ok.ensures
    ∙ ap (λ (ids : List EventId). map (place_at (places_of ids)) (places_of c.deref-in-Ok-2.result.now)) c.deref-in-Ok.ensures.value
    ∙ ap (λ (ids : List EventId). map (place_at (places_of standing)) (places_of ids)) c.deref-in-Ok-2.ensures.value in
    subst (IsCausalOrder events) (sym places) (arranged_order events (places_of standing) c.in_ok-standing.ensures (places_of order) whole)

pub returns-in-Cycle-clause-fault : goal.returns-in-Cycle-clause-fault
returns-in-Cycle-clause-fault c =
    let events = c.args.log.now.events in
    let standing = c.in_ok-standing.standing.items in
    let first = c.in-Cycle.first in
    let is = copied events c.in_ok-arranged.arranged.events c.deref.result.now standing c.in_ok-arranged.ensures c.deref.ensures.value in
    let found = subst (λ (xs : List LogEvent). IsFaultOf xs (Cycle first)) is
    (subst (IsFaultOf c.in_ok-arranged.arranged.events) c.in-Cycle.is c.in-Err.ensures.fault) in
    let waits = arranged_first events (places_of standing) c.in_ok-standing.ensures first.0 found.1 in
    let exists : first.0 < length standing =
    omega (
      arith,
      found.1.has.exists,
      arranged_size events (places_of standing) c.in_ok-standing.ensures,
      c.in_ok-standing.ensures.one_each,
      length-map standing (λ (id : EventId). id.0),
    ) in
    let place : place_at (places_of standing) first.0 ≡ c.index.result.now.0 =
    get_or-map (λ (id : EventId). id.0) standing first.0 c.index.result.now 0 exists ∙ ap (λ (id : EventId). id.0) (sym c.index.ensures) in
    (c.requires.sound, subst (StandsFirst events (Waits events)) place waits)

pub returns : goal.returns
returns c =
    let events = c.args.log.now.events in
    let standing = c.in_ok-standing.standing.items in
    let is = copied events c.in_ok-arranged.arranged.events c.deref.result.now standing c.in_ok-arranged.ensures c.deref.ensures.value in
    record {
      order = tt;
      fault = arranged_fault events (places_of standing) c.in_ok-standing.ensures c.requires.sound c.in-Err.fault
          (subst (λ (xs : List LogEvent). IsFaultOf xs c.in-Err.fault) is c.in-Err.ensures.fault) (λ first same. c.in_default.not-Cycle first same);
    }
