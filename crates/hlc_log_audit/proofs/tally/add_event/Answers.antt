use Rattle.std.proofs.Common.{◌≡◌, ◌∙◌, ◌<◌, ℕ, List, ap, arith, length, rules, slice_index_or, subst, sym}
use Rattle.hlc_stamp.specs.Order.{Pair}
use Rattle.hlc_causality.specs.Causality.{Skeleton, skeleton_at}
use Rattle.hlc_causality.specs.NodeEvents.{drift_at}
use Rattle.hlc_explain.proofs.KeptEvents.{drift_kept, node_kept}
use Rattle.hlc_ordered_log.specs.InOrder.{skeleton_of}
use Rattle.hlc_ordered_log.proofs.EventsInOrder.{length-skeleton_of}
use Rattle.hlc_log_audit.specs.Tally.{no_tally, with_event}
use Rattle.hlc_log_audit.specs.declared.tally.Furthest.{Furthest}
use Rattle.hlc_log_audit.specs.declared.tally.NodeTally.{NodeTally}
use Rattle.hlc_log_audit.proofs.EventsInOrder.{node_exists}
use Rattle.hlc_log_audit.proofs.Tallies.{few_counted, tallies_push}
use Rattle.hlc_log_audit.proofs.tally.add_event.Goals as goal

pub unwrap-event-requires : goal.unwrap-event-requires
unwrap-event-requires c =
    let size = length-skeleton_of c.args.log.now c.requires.ordered in
    let same = ap (λ (s : Skeleton). length s) c.execution.ensures.events in
    let within : c.args.position.0 < length c.execution.result.now.events = omega (arith, c.requires.exists) in
    search rules

pub with_event-requires : goal.with_event-requires
with_event-requires c =
    let log = c.args.log.now in
    let node = c.unwrap-event.result.node.0 in
    let s = c.execution.result.now.events in
    let at = node_kept s c.args.position.0 c.get.result c.unwrap-event.result c.unwrap-event.ensures c.get.ensures.event in
    let in_log = ap (λ (x : Skeleton). (skeleton_at x c.args.position.0).node) c.execution.ensures.events in
    let exists = subst (λ (n : ℕ). n < log.nodes) (sym in_log ∙ at) (node_exists log c.requires.ordered c.args.position.0 c.requires.exists) in
    let is = ap (λ (tally : NodeTally). tally.events) (c.requires.before.each node exists) in
    omega (arith, is, few_counted log c.args.position.0 node, c.requires.ordered.few, c.requires.exists)

pub returns : goal.returns
returns c =
    let log = c.args.log.now in
    let k = c.args.position.0 in
    let event = c.unwrap-event.result in
    let node = event.node.0 in
    let size = length-skeleton_of log c.requires.ordered in
    let s = c.execution.result.now.events in
    let at : (skeleton_at s k).node ≡ node = node_kept s k c.get.result event c.unwrap-event.ensures c.get.ensures.event in
    let ahead = drift_kept s k c.get.result event c.unwrap-event.ensures c.get.ensures.event c.execution.result.now.stamps c.get.ensures.stamp in
    let later : ℕ → Furthest = λ far. record { event = c.args.position; ahead = far } in
    let in_log = ap (λ (x : Skeleton). (skeleton_at x k).node) c.execution.ensures.events in
    let exists = subst (λ (n : ℕ). n < log.nodes) (sym in_log ∙ at) (node_exists log c.requires.ordered k c.requires.exists) in
    let drift =
    c.drift.ensures ∙ ahead ∙ ap (λ (x : Skeleton). drift_at x c.execution.result.now.stamps k) c.execution.ensures.events
    ∙ ap (λ (pairs : List Pair). drift_at (skeleton_of log) pairs k) c.execution.ensures.stamps in
    let old = slice_index_or c.args.tallies.now node no_tally in
    tallies_push log k c.args.tallies.now node c.with_event.result (omega (arith, size, c.requires.exists)) (sym at ∙ in_log) exists
    (c.with_event.ensures ∙ ap (λ (far : ℕ). with_event old (later far) c.has_reading.result) drift
    ∙ ap (with_event old (later (drift_at (skeleton_of log) log.least k))) c.has_reading.ensures)
    c.requires.before
