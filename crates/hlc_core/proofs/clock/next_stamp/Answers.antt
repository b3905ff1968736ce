use Rattle.std.proofs.Common.{◌≡◌, ◌∙◌, ◌<◌, ℕ, List, arith, length, refl, subst, sym, ap, Some, None}
use Rattle.std.specs.Borrow.{Bor}
use Rattle.hlc_stamp.specs.declared.id.EventId.{EventId}
use Rattle.hlc_stamp.specs.Order.{Pair}
use Rattle.hlc_arena.specs.declared.kind.Kind.{Kind}
use Rattle.hlc_arena.specs.declared.kind.Kind.TheVariants.{Deliver, Erase, Send, Sync, Write}
use Rattle.hlc_causality.specs.Assignment.{IsLeastAbove, pair_at}
use Rattle.hlc_causality.specs.Causality.{SkeletonEvent}
use Rattle.hlc_arena.specs.History.{causality_of, delivered_send, stamps_of}
use Rattle.hlc_arena.specs.Kinds.{event_kind_of}
use Rattle.hlc_arena.proofs.Histories.{length_skeleton, pair_at_place}
use Rattle.hlc_causality.proofs.NextEvents.{least_at_delivery, least_at_local_event, longer}
use Rattle.hlc_core.proofs.Counters.{counter_of_event, counter_of_last}
use Rattle.hlc_core.proofs.clock.next_stamp.Goals as goal

-- what is no delivery has no send
no_send_of : (kind : Kind (Bor (List EventId))) → ((sent : EventId) → kind ≡ Deliver sent → ⊥) → delivered_send (event_kind_of kind) ≡ None
no_send_of (Write key value) other = refl
no_send_of (Erase key) other = refl
no_send_of (Send to write) other = refl
no_send_of (Sync to writes) other = refl
no_send_of (Deliver sent) other = absurd (other sent refl)

pub merge-requires-clause-room : goal.merge-requires-clause-room
merge-requires-clause-room c =
    let events = c.args.history.now.events in
    let last = c.last_stamp-old.ensures in
    let counts = counter_of_last events c.args.node.0 last.0 c.last_stamp-old.result c.requires.least last.1 last.2 in
    λ _ _. omega (arith, counts, c.requires.few)

pub merge-requires-clause-message_room : goal.merge-requires-clause-message_room
merge-requires-clause-message_room c =
    let events = c.args.history.now.events in
    let exists : c.in-Deliver.sent.0 < length events = rw c.in-Deliver.is at c.requires.earlier in
    let counts = counter_of_event events c.in-Deliver.sent.0 c.requires.least exists in
    let same = ap (λ (p : Pair). p.c) c.stamp_of.ensures in
    λ _ _. omega (arith, counts, exists, same, c.requires.few)

pub tick-requires : goal.tick-requires
tick-requires c =
    let events = c.args.history.now.events in
    let last = c.last_stamp-old.ensures in
    let counts = counter_of_last events c.args.node.0 last.0 c.last_stamp-old.result c.requires.least last.1 last.2 in
    record { positive = c.requires.positive; in_range = c.requires.in_range; room = λ _. omega (arith, counts, c.requires.few) }

pub returns-in-Deliver : goal.returns-in-Deliver
returns-in-Deliver c =
    let events = c.args.history.now.events in
    let s = causality_of events in
    let pairs = stamps_of events in
    let x : SkeletonEvent = record { node = c.args.node.0; reading = c.args.reading; send = delivered_send (event_kind_of c.args.kind) } in
    let sent = c.in-Deliver.sent.0 in
    let last = c.last_stamp-old.ensures in
    let size = length_skeleton events in
    let p = c.merge.result in
    let delivers : x.send ≡ Some sent = ap (λ (k : Kind (Bor (List EventId))). delivered_send (event_kind_of k)) c.in-Deliver.is in
    let exists : sent < length events = rw c.in-Deliver.is at c.requires.earlier in
    let message : c.stamp_of.result ≡ pair_at pairs sent = c.stamp_of.ensures ∙ sym (pair_at_place events sent) in
    let there : sent < length s = omega (arith, size, exists) in
    let law = rw (← message) at
    (least_at_delivery s x pairs last.0 c.last_stamp-old.result p last.1 last.2 sent delivers there c.requires.positive) in
    let merged = c.merge.ensures in
    let least : IsLeastAbove (longer s x) pairs (length s) p =
    search (law, merged.above_old, merged.above_message, merged.not_behind, merged.least) in
    subst (λ (n : ℕ). IsLeastAbove (longer s x) pairs n p) size least

pub returns-in_default : goal.returns-in_default
returns-in_default c =
    let events = c.args.history.now.events in
    let s = causality_of events in
    let pairs = stamps_of events in
    let x : SkeletonEvent = record { node = c.args.node.0; reading = c.args.reading; send = delivered_send (event_kind_of c.args.kind) } in
    let last = c.last_stamp-old.ensures in
    let no_send = no_send_of c.args.kind c.in_default.not-Deliver in
    let law = least_at_local_event s x pairs last.0 c.last_stamp-old.result c.tick.result last.1 last.2 no_send c.requires.positive in
    let least : IsLeastAbove (longer s x) pairs (length s) c.tick.result =
    search (law, c.tick.ensures.above, c.tick.ensures.not_behind, c.tick.ensures.least) in
    subst (λ (n : ℕ). IsLeastAbove (longer s x) pairs n c.tick.result) (length_skeleton events) least
