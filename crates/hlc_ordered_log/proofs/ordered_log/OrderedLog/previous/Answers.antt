use Rattle.std.proofs.Common.{◌≡◌, ◌∙◌, ℕ, ◌<◌, Option, Some, None, arith, ap}
use Rattle.hlc_stamp.specs.declared.id.EventId.{EventId}
use Rattle.hlc_causality.specs.Causality.{Skeleton}
use Rattle.hlc_causality.specs.ClockEvents.{ClockEvents, clock_skeleton}
use Rattle.hlc_causality.specs.Neighbours.{NamesPrevious}
use Rattle.hlc_causality.specs.Predecessors.{previous_of}
use Rattle.hlc_causes.proofs.LinksFound.{previous_received}
use Rattle.hlc_causes.proofs.Predecessors.{previous_named}
use Rattle.hlc_ordered_log.proofs.EventsInOrder.{has_clocks, has_event}
use Rattle.hlc_ordered_log.proofs.ordered_log.OrderedLog.previous.Goals as goal

pub previous-requires : goal.previous-requires
previous-requires c = has_event _ _ _ _ c.self.invariant _ c.self.view_is c.args.position.0 c.requires

pub returns-clause-value : goal.returns-clause-value
returns-clause-value c =
    let x = c.self.inside.execution in
    let k = c.args.position.0 in
    previous_named x.events k c.previous.result (has_event _ _ _ _ c.self.invariant _ c.self.view_is k c.requires) c.previous.ensures
    ∙ previous_received x.rules x.events k
    ∙ ap (λ (t : ClockEvents). previous_of (clock_skeleton t) k) (has_clocks _ _ _ _ c.self.invariant _ c.self.view_is)

earlier : (s : Skeleton) (k n : ℕ) (previous : Option EventId) → NamesPrevious s k previous → k < n → (d : EventId) → previous ≡ Some d → d.0 < n
earlier s k n None names lt d is = absurd cc
earlier s k n (Some e) names lt d is = let same : e.0 ≡ d.0 = cc in omega (arith, names.at_node.earlier, lt, same)

pub returns-clause-exists : goal.returns-clause-exists
returns-clause-exists c = earlier c.self.inside.execution.events c.args.position.0 _ c.previous.result c.previous.ensures c.requires
