use Rattle.std.proofs.Common.{◌<◌, ◌∙◌, ℕ, ap, arith, length, subst, sym}
use Rattle.hlc_causality.specs.Causality.{Skeleton, SkeletonEvent, skeleton_at}
use Rattle.hlc_log.specs.Events.{event_at}
use Rattle.hlc_log.proofs.OrderSkeletons.{skeleton_in_at}
use Rattle.hlc_ordered_log.proofs.EventsInOrder.{length-skeleton_of}
use Rattle.hlc_ordered_log.proofs.Ordering.{order_len}
use Rattle.hlc_log_audit.proofs.EventsInOrder.{node_exists}
use Rattle.hlc_log_audit.proofs.overs.node_at.Goals as goal

pub node_of-requires : goal.node_of-requires
node_of-requires c =
    let size = length-skeleton_of c.args.log.now c.requires.ordered in
    let same = ap (λ (s : Skeleton). length s) c.execution.ensures.events in
    omega (arith, c.position.ensures.exists)

pub returns-clause-node : goal.returns-clause-node
returns-clause-node c =
    let log = c.args.log.now in
    let k = c.position.result.0 in
    let places = order_len log.events log.order c.requires.ordered.causal in
    let within : k < length log.order = omega (arith, c.position.ensures.exists) in
    c.node_of.ensures
    ∙ ap (λ (s : Skeleton). (skeleton_at s k).node) c.execution.ensures.events
    ∙ ap (λ (event : SkeletonEvent). event.node) (skeleton_in_at log.events log.order c.requires.ordered.causal k within)
    ∙ ap (λ (place : ℕ). (event_at log.events place).node.0) c.position.ensures.place

pub returns-clause-exists : goal.returns-clause-exists
returns-clause-exists c =
    let log = c.args.log.now in
    subst (λ (node : ℕ). node < log.nodes) (sym (c.node_of.ensures ∙ ap (λ (s : Skeleton). (skeleton_at s c.position.result.0).node) c.execution.ensures.events))
    (node_exists log c.requires.ordered c.position.result.0 c.position.ensures.exists)
