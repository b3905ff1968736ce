use Rattle.hlc_causality.specs.ClockEvents.{clock_skeleton}
use Rattle.hlc_causality.specs.Predecessors.{previous_of, send_of}
use Rattle.hlc_causality.specs.ReceiveEvents.{clock_events}
use Rattle.hlc_causes.proofs.CauseLaws.{behind_tested, names_each}
use Rattle.hlc_causes.proofs.LinksFound.{exists_received}
use Rattle.hlc_causes.proofs.Predecessors.{not_above_named}
use Rattle.hlc_causes.proofs.causes.causes_at.Goals as goal

pub returns : goal.returns
returns g c =
    let t = clock_events c.args.execution.now.rules c.args.execution.now.events in
    let s = clock_skeleton t in
    let f = c.args.event.0 in
    let claimed = g.C.Claims.claimed c.args.claims.now in
    let rule = c.rule_event-rule in
    let stamp = c.stamp-claimed.ensures in
    let previous = c.if_not_above in
    let send = c.if_not_above-2 in
    names_each t claimed c.args.full f (exists_received c.args.execution.now.rules c.args.execution.now.events f c.requires.exists) _
    (behind_tested t claimed f c.stamp-claimed.result rule.result.floor c.is_behind.result stamp rule.ensures.floor c.is_behind.ensures)
    (not_above_named t claimed f previous.result rule.result.previous (previous_of s f) (previous.ensures t f rule.ensures.ticks stamp) rule.ensures.previous)
    (not_above_named t claimed f send.result rule.result.send (send_of s f) (send.ensures t f rule.ensures.ticks stamp) rule.ensures.send)
    c.if_ahead.ensures
