use Rattle.std.proofs.Common.{◌≡◌, ◌∙◌, ◌<◌, List, length, map, arith, subst, sym, ap}
use Rattle.std.specs.Prelude.{All}
use Rattle.std.proofs.lemmas.List.{length-map}
use Rattle.hlc_stamp.specs.declared.id.EventId.{EventId}
use Rattle.hlc_stamp.specs.Ids.{places_of}
use Rattle.hlc_log.specs.declared.log_event.LogEvent.{LogEvent}
use Rattle.hlc_log.specs.CausalOrder.{place_at}
use Rattle.hlc_log.specs.Events.{IsNumbered}
use Rattle.hlc_log.specs.Messages.{AreMessagesSound}
use Rattle.hlc_log.specs.Parted.{IsGreatestPrefix}
use Rattle.hlc_log.specs.Standing.{SeqsRise}
use Rattle.hlc_log.specs.StandingOrder.{arranged}
use Rattle.hlc_log.proofs.Arranged.{arranged_greatest, arranged_numbered, arranged_rises, arranged_size, arranged_sound}
use Rattle.hlc_log.proofs.CopiedLogs.{copied, ids_below}
use Rattle.hlc_log.proofs.order.prefix_by_seq.Goals as goal

pub arranged-requires-clause-exist : goal.arranged-requires-clause-exist
arranged-requires-clause-exist c =
    let events = c.args.log.now.events in
    subst (λ (ids : List EventId). All (λ (id : EventId). id.0 < length events) ids) (sym c.deref.ensures.value)
    (ids_below c.in_ok-standing.standing.items (length events) c.in_ok-standing.ensures.exist)

pub place_most-requires : goal.place_most-requires
place_most-requires c =
    let events = c.args.log.now.events in
    let standing = c.in_ok-standing.standing.items in
    let is = copied events c.in_ok-arranged.arranged.events c.deref.result.now standing c.in_ok-arranged.ensures c.deref.ensures.value in
    record {
      numbered = subst (λ (xs : List LogEvent). All (IsNumbered c.args.messages) xs) (sym is)
          (arranged_numbered events (places_of standing) c.in_ok-standing.ensures c.args.messages c.requires.numbered);
      rise = subst SeqsRise (sym is) (arranged_rises events (places_of standing) c.in_ok-standing.ensures);
      sound = subst AreMessagesSound (sym is) (arranged_sound events (places_of standing) c.in_ok-standing.ensures c.requires.sound);
    }

pub places_in-requires : goal.places_in-requires
places_in-requires c =
    let events = c.args.log.now.events in
    let standing = c.in_ok-standing.standing.items in
    let is = copied events c.in_ok-arranged.arranged.events c.deref.result.now standing c.in_ok-arranged.ensures c.deref.ensures.value in
    let copy_size = ap (λ (xs : List LogEvent). length xs) is ∙ arranged_size events (places_of standing) c.in_ok-standing.ensures in
    let size = c.in_ok-standing.ensures.one_each in
    let ids = length-map standing (λ (id : EventId). id.0) in
    let seen = ap (λ (xs : List EventId). length xs) c.deref-2.ensures.value in
    let n = length c.deref-2.result.now in
    subst (λ (xs : List EventId). All (λ (id : EventId). id.0 < n) xs) (sym c.deref-3.ensures.value)
    (ids_below c.in_ok-order.order.items n (λ k lt. omega (arith, (c.in_ok-order.ensures.order.causal k lt).exists, copy_size, size, ids, seen)))

pub returns-clause-order : goal.returns-clause-order
returns-clause-order c =
    let events = c.args.log.now.events in
    let standing = c.in_ok-standing.standing.items in
    let order = c.in_ok-order.order.items in
    let is = copied events c.in_ok-arranged.arranged.events c.deref.result.now standing c.in_ok-arranged.ensures c.deref.ensures.value in
    let greatest = subst (λ (xs : List LogEvent). IsGreatestPrefix xs (places_of order)) is c.in_ok-order.ensures.order in
    let places = c.in_ok-places_in.ensures
    ∙ ap (λ (ids : List EventId). map (place_at (places_of ids)) (places_of c.deref-3.result.now)) c.deref-2.ensures.value
    ∙ ap (λ (ids : List EventId). map (place_at (places_of standing)) (places_of ids)) c.deref-3.ensures.value in
    subst (IsGreatestPrefix events) (sym places) (arranged_greatest events (places_of standing) c.in_ok-standing.ensures (places_of order) greatest)
