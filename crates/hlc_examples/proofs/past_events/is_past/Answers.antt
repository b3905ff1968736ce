use Rattle.std.proofs.Common.{◌∙◌, ◌↔◌, ◌≤◌, ℕ, arith, subst}
use Rattle.std.proofs.lemmas.Bool.{le-leb, leb-true}
use Rattle.hlc_causality.specs.Past.{IsInPast}
use Rattle.hlc_explain.specs.Vectors.{vector_at}
use Rattle.hlc_explain.proofs.KeptCounts.{count_found, has_event, has_node}
use Rattle.hlc_examples.proofs.past_events.is_past.Goals as goal

pub count-own-requires-clause-event : goal.count-own-requires-clause-event
count-own-requires-clause-event c =
    has_event c.args.execution.now.events c.args.execution.now.nodes c.in_ok-vectors.vectors c.in_ok-vectors.ensures c.args.event.0 c.requires.event

pub count-own-requires-clause-node : goal.count-own-requires-clause-node
count-own-requires-clause-node c =
    let x = c.args.execution.now in
    has_node x.events x.nodes c.in_ok-vectors.vectors c.in_ok-vectors.ensures c.args.event.0 c.args.node.0 c.requires.event c.requires.node

pub count-seen-requires-clause-event : goal.count-seen-requires-clause-event
count-seen-requires-clause-event c =
    has_event c.args.execution.now.events c.args.execution.now.nodes c.in_ok-vectors.vectors c.in_ok-vectors.ensures c.args.other.0 c.requires.other

pub count-seen-requires-clause-node : goal.count-seen-requires-clause-node
count-seen-requires-clause-node c =
    let x = c.args.execution.now in
    has_node x.events x.nodes c.in_ok-vectors.vectors c.in_ok-vectors.ensures c.args.other.0 c.args.node.0 c.requires.other c.requires.node

pub returns : goal.returns
returns c =
    let x = c.args.execution.now in
    let e = c.args.event.0 in
    let f = c.args.other.0 in
    let node = c.args.node.0 in
    let vectors = c.in_ok-vectors.vectors in
    let all = c.in_ok-vectors.ensures in
    let own = c.count-own.ensures ∙ count_found x.events x.nodes vectors all e node c.requires.event c.requires.node in
    let seen = c.count-seen.ensures ∙ count_found x.events x.nodes vectors all f node c.requires.other c.requires.node in
    let law = c.vector_order_is_happened_before.ensures.short_test x.events e f c.requires.event c.requires.other in
    let at : IsInPast x.events e f ↔ (vector_at x.events e node ≤ vector_at x.events f node) =
    subst (λ (n : ℕ). IsInPast x.events e f ↔ (vector_at x.events e n ≤ vector_at x.events f n)) c.requires.at_node law in (
      λ told. at.1 (let le = leb-true c.count-own.result c.count-seen.result told in omega arith),
      λ past. le-leb c.count-own.result c.count-seen.result (let le = at.0 past in omega arith),
    )
