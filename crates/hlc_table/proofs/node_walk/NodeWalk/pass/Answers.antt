use Rattle.std.proofs.Common.{◌≡◌, ◌∙◌, ◌+◌, ℕ, sym, subst, ap, Option, Some}
use Rattle.hlc_stamp.specs.declared.id.EventId.{EventId}
use Rattle.hlc_table.specs.NodeEvents.{NamesNextFrom}
use Rattle.hlc_table.specs.NodeWalk.{StandsAt, Walk, place_of_next, walk_of}
use Rattle.hlc_table.specs.Tables.{rows_before}
use Rattle.hlc_table.proofs.Walks.{stands_after, stands_before}
use Rattle.hlc_table.proofs.node_walk.NodeWalk.pass.Goals as goal

pub learn_event-requires-clause-knows : goal.learn_event-requires-clause-knows
learn_event-requires-clause-knows c =
    let events = c.args.history.now.events in
    let node = c.self.inside.node.0 in
    let stands : StandsAt events (walk_of node c.self.inside.known c.self.inside.next) =
    subst (StandsAt events) (sym c.self.view_is) c.requires.stands in
    let there = stands_before events node c.self.inside.known c.self.inside.next c.unwrap-event.result stands c.unwrap-event.ensures in
    there.1 ∙ ap (λ (n : ℕ). rows_before events n c.unwrap-event.result.0) (sym there.0.at_node)

pub returns-clause-stands : goal.returns-clause-stands
returns-clause-stands c =
    let events = c.args.history.now.events in
    let walk = c.self.inside in
    let stands : StandsAt events (walk_of walk.node.0 walk.known walk.next) =
    subst (StandsAt events) (sym c.self.view_is) c.requires.stands in
    let after = c.next_at_node-self-inside in
    (stands_after events walk.node.0 walk.known c.learn_event.new.table walk.next after.result c.unwrap-event.result
    stands c.unwrap-event.ensures c.in_ok-learn_event.ensures.rows after.ensures).0

pub returns-clause-next : goal.returns-clause-next
returns-clause-next c =
    let events = c.args.history.now.events in
    let walk = c.self.inside in
    let node = walk.node.0 in
    let stands : StandsAt events (walk_of node walk.known walk.next) = subst (StandsAt events) (sym c.self.view_is) c.requires.stands in
    let after = c.next_at_node-self-inside in
    let from = (stands_after events node walk.known c.learn_event.new.table walk.next after.result c.unwrap-event.result
    stands c.unwrap-event.ensures c.in_ok-learn_event.ensures.rows after.ensures).1 in
    let next : Some c.unwrap-event.result ≡ c.args.self.now.next = sym c.unwrap-event.ensures ∙ ap (λ (w : Walk). w.next) c.self.view_is in
    let same : node ≡ c.args.self.now.node = ap (λ (w : Walk). w.node) c.self.view_is in
    subst (λ (n : ℕ). NamesNextFrom events n (place_of_next events c.args.self.now.next + 1) c.next_at_node-self-inside.result) same
    (subst (λ (o : Option EventId). NamesNextFrom events node (place_of_next events o + 1) c.next_at_node-self-inside.result) next from)
