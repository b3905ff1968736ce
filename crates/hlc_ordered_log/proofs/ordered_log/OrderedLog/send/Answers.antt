use Rattle.std.proofs.Common.{◌≡◌, ◌∙◌, ℕ, ◌<◌, Option, Some, None, arith, ap}
use Rattle.hlc_stamp.specs.declared.id.EventId.{EventId}
use Rattle.hlc_causality.specs.Causality.{Skeleton}
use Rattle.hlc_causality.specs.ClockEvents.{ClockEvents, clock_skeleton}
use Rattle.hlc_causality.specs.Neighbours.{NamesSend}
use Rattle.hlc_causality.specs.Predecessors.{send_of}
use Rattle.hlc_causes.proofs.LinksFound.{send_of_received}
use Rattle.hlc_causes.proofs.Predecessors.{send_named}
use Rattle.hlc_ordered_log.proofs.EventsInOrder.{has_claims, has_clocks, has_event}
use Rattle.hlc_ordered_log.proofs.ordered_log.OrderedLog.send.Goals as goal

pub send-requires : goal.send-requires
send-requires c = has_event _ _ _ _ c.self.invariant _ c.self.view_is c.args.position.0 c.requires

pub returns-clause-value : goal.returns-clause-value
returns-clause-value c =
    let x = c.self.inside.execution in
    let k = c.args.position.0 in
    send_named x.events k c.send.result (has_event _ _ _ _ c.self.invariant _ c.self.view_is k c.requires) c.send.ensures
    ∙ send_of_received x.rules x.events k
    ∙ ap (λ (t : ClockEvents). send_of (clock_skeleton t) k) (has_clocks _ _ _ _ c.self.invariant _ c.self.view_is)

earlier : (s : Skeleton) (k n : ℕ) (send : Option EventId) → NamesSend s k send → k < n → (d : EventId) → send ≡ Some d → d.0 < n
earlier s k n None names lt d is = absurd cc
earlier s k n (Some e) names lt d is = let same : e.0 ≡ d.0 = cc in omega (arith, names.earlier, lt, same)

pub returns-clause-exists : goal.returns-clause-exists
returns-clause-exists c =
    let x = c.self.inside.execution in
    let k = c.args.position.0 in
    let exists = has_event _ _ _ _ c.self.invariant _ c.self.view_is k c.requires in
    earlier x.events k _ c.send.result c.send.ensures (omega (arith, exists, has_claims _ _ _ _ c.self.invariant _ c.self.view_is))
