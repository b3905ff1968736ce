use Rattle.std.proofs.Common.{◌≡◌, ◌∙◌}
use Rattle.std.proofs.lemmas.Option.{MatchOption-at_some}
use Rattle.hlc_causality.specs.Neighbours.{NamesPrevious, NamesSend, place_of}
use Rattle.hlc_causality.specs.Predecessors.{previous_of, send_of}
use Rattle.hlc_execution.specs.declared.event.Event.{Event}
use Rattle.hlc_causes.proofs.LinksFound.{previous_received, send_of_received}
use Rattle.hlc_verdict.proofs.Traces.{previous_is_earlier}
use Rattle.hlc_causes.proofs.Predecessors.{previous_named, send_is_earlier, send_named}
use Rattle.hlc_causes.proofs.direct.rule_event.Goals as goal

named_previous : (c : goal.After-result-2-1) → place_of c.unwrap-kept.result.previous ≡ previous_of c.args.execution.now.events c.args.event.0
named_previous c =
    let s = c.args.execution.now.events in
    let f = c.args.event.0 in
    let kept = c.unwrap-kept in
    previous_named s f kept.result.previous c.requires
    (MatchOption-at_some (Unit {0}) (λ (e : Event). NamesPrevious s f e.previous) kept.result kept.ensures c.get.ensures.previous)

named_send : (c : goal.After-result-2-1) → place_of c.unwrap-kept.result.send ≡ send_of c.args.execution.now.events c.args.event.0
named_send c =
    let s = c.args.execution.now.events in
    let f = c.args.event.0 in
    let kept = c.unwrap-kept in
    send_named s f kept.result.send c.requires
    (MatchOption-at_some (Unit {0}) (λ (e : Event). NamesSend s f e.send) kept.result kept.ensures c.get.ensures.send)

pub returns-clause-previous : goal.returns-clause-previous
returns-clause-previous c = named_previous c ∙ previous_received c.args.execution.now.rules c.args.execution.now.events c.args.event.0

pub returns-clause-send : goal.returns-clause-send
returns-clause-send c = named_send c ∙ send_of_received c.args.execution.now.rules c.args.execution.now.events c.args.event.0

pub returns-clause-earlier_previous : goal.returns-clause-earlier_previous
returns-clause-earlier_previous c =
    previous_is_earlier c.args.execution.now.events c.args.event.0 c.unwrap-kept.result.previous (named_previous c)

pub returns-clause-earlier_send : goal.returns-clause-earlier_send
returns-clause-earlier_send c = send_is_earlier c.args.execution.now.events c.args.event.0 c.unwrap-kept.result.send c.requires (named_send c)
