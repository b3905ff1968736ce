use Rattle.std.proofs.Common.{◌≡◌, ◌∙◌, ◌+◌, ◌<◌, false, true, ℕ, List, length, arith, subst, sym, ap}
use Rattle.std.specs.Prelude.{slice_set}
use Rattle.std.proofs.lemmas.List.{length-map}
use Rattle.hlc_stamp.specs.Ids.{places_of}
use Rattle.hlc_stamp.specs.declared.id.EventId.{EventId}
use Rattle.hlc_log.specs.CausalOrder.{place_at}
use Rattle.hlc_log.specs.Events.{event_at, with_stamp}
use Rattle.hlc_log.specs.Log.{StoredLog}
use Rattle.hlc_log.specs.declared.log_event.LogEvent.{LogEvent}
use Rattle.hlc_log.proofs.OrderSkeletons.{place_exists}
use Rattle.hlc_ordered_log.specs.InOrder.{AreFilled, AreGivenBefore}
use Rattle.hlc_ordered_log.proofs.Filled.{filled_causal, filled_execution, filled_in_range}
use Rattle.hlc_ordered_log.proofs.GivenStamps.{filled_refl, filled_trans, given_more, in_order, one_filled, told_more}
use Rattle.hlc_ordered_log.proofs.Ordering.{named_len, place_here}
use Rattle.hlc_ordered_log.proofs.giving.give_stamps.Goals.{else-not-has_stamp_at, then-not-has_stamp_at}
use Rattle.hlc_ordered_log.proofs.giving.give_stamps.Goals as goal

pub loop-position-init : goal.loop-position-init
loop-position-init c = record { filled = filled_refl c.args.log.now.events; given = λ k lt. absurd (omega arith) }

pub has_stamp_at-requires : goal.has_stamp_at-requires
has_stamp_at-requires c =
    let order = c.args.order.now in
    let n = c.loop-position.position in
    let lt = c.loop-position-test.true in
    let size = length-map order (λ (id : EventId). id.0) in
    let filled = c.loop-position.invariant.filled in
    let same = filled.one_each in
    let exists = place_exists c.args.log.now.events (places_of order) c.requires.order n (omega arith) in
    subst (λ (e : ℕ). e < length c.loop-position.log.events) (place_here order n lt) (omega arith)

pub overflow_cast-position : goal.overflow_cast-position
overflow_cast-position c =
    let size = named_len c.args.log.now.events c.args.order.now c.requires.order in
    let lt = c.loop-position-test.true in
    let few = c.requires.few in
    omega arith

pub given_stamp-stamp-requires-clause-execution : goal.given_stamp-stamp-requires-clause-execution
given_stamp-stamp-requires-clause-execution c =
    filled_execution c.args.log.now.events c.loop-position.log.events c.loop-position.invariant.filled c.requires.in_range
    (places_of c.args.order.now) c.args.execution.now c.requires.execution

pub given_stamp-stamp-requires-clause-order : goal.given_stamp-stamp-requires-clause-order
given_stamp-stamp-requires-clause-order c =
    filled_causal c.args.log.now.events c.loop-position.log.events c.loop-position.invariant.filled (places_of c.args.order.now) c.requires.order

-- the stamps are kept so far
abbrev AreKept : (c : goal.Joined-not-has_stamp_at) → List LogEvent → Type 0
AreKept c events =
    AreFilled c.args.log.now.events events
    × AreGivenBefore (in_order c.args.execution.now.nodes c.args.execution.now.rules.receives (places_of c.args.order.now) c.args.execution.now.stamps events) (c.loop-position.position + 1)

kept : (c : goal.Joined-not-has_stamp_at) → AreKept c c.if-not-has_stamp_at.log.events
kept c = elim c.if-not-has_stamp_at.branch [
  | then-not-has_stamp_at w ↦
      let order = c.args.order.now in
      let start = c.args.log.now.events in
      let events = c.loop-position.log.events in
      let n = c.loop-position.position in
      let h = c.loop-position.invariant in
      let here = place_here order n c.loop-position-test.true in
      let size = length-map order (λ (id : EventId). id.0) in
      let lt = c.loop-position-test.true in
      let within : n < length (places_of order) = omega arith in
      let whole = filled_causal start events h.filled (places_of order) c.requires.order in
      let ranges = filled_in_range start events h.filled c.requires.in_range in
      let stamp = w.given_stamp-stamp.result in
      let untold : (event_at events (place_at (places_of order) n)).has_stamp ≡ false =
      ap (λ (e : ℕ). (event_at events e).has_stamp) here ∙ sym c.has_stamp_at.ensures ∙ w.if-not-has_stamp_at.true in
      let nodes = c.args.execution.now.nodes in
      let receives = c.args.execution.now.rules.receives in
      let least = c.args.execution.now.stamps in
      let more : List LogEvent = slice_set events (place_at (places_of order) n) (with_stamp stamp (event_at events (place_at (places_of order) n))) in
      let same : more ≡ c.if-not-has_stamp_at.log.events =
      ap (λ (e : ℕ). slice_set events e (with_stamp stamp (event_at events e))) here ∙ sym w.give_stamp.ensures
      ∙ sym (ap (λ (log : StoredLog). log.events) w.log-is) in
      subst (AreKept c) same (
        filled_trans start events more h.filled (one_filled nodes receives (places_of order) least events whole ranges n within stamp untold),
        given_more nodes receives (places_of order) least events whole ranges n within stamp untold w.given_stamp-stamp.ensures h.given,
      )
  | else-not-has_stamp_at w ↦
      let order = c.args.order.now in
      let events = c.loop-position.log.events in
      let n = c.loop-position.position in
      let h = c.loop-position.invariant in
      let here = place_here order n c.loop-position-test.true in
      let told : (event_at events (place_at (places_of order) n)).has_stamp ≡ true =
      ap (λ (e : ℕ). (event_at events e).has_stamp) here ∙ sym c.has_stamp_at.ensures ∙ w.if-not-has_stamp_at.false in
      subst (AreKept c) (sym (ap (λ (log : StoredLog). log.events) w.log-is)) (
        h.filled,
        told_more c.args.execution.now.nodes c.args.execution.now.rules.receives (places_of order) c.args.execution.now.stamps events n told h.given,
      )
]

pub loop-position-preserved : goal.loop-position-preserved
loop-position-preserved c = let done = kept c in record { filled = done.0; given = done.1 }
