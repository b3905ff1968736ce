use Rattle.std.proofs.Common.{◌≡◌, ◌∙◌, ℕ, ◌<◌, ◌++◌, ◌∷◌, [], List, ap, arith, get_or, length, map, subst, sym, take}
use Rattle.std.proofs.lemmas.List.{get_or-map, length-map, map_push, take_all, take_more}
use Rattle.hlc_stamp.specs.Ids.{places_of}
use Rattle.hlc_stamp.specs.declared.id.EventId.{EventId}
use Rattle.hlc_figures.specs.Content.{node_at}
use Rattle.hlc_figures.proofs.lanes.nodes_at.Goals as goal

abbrev no_event : EventId
no_event = record { 0 = 0 }

pub node-requires : goal.node-requires
node-requires g c =
    let events = c.args.events.now in
    let i = c.loop-event.event-index in
    let lt : i < length events = c.loop-event-test.true in
    let size : length (places_of events) ≡ length events = length-map events (λ (id : EventId). id.0) in
    let exists = c.requires i 0 (omega (arith, size, lt)) in
    subst (λ (n : ℕ). n < length (g.S.Subject.content c.args.subject.now).events) (get_or-map (λ (id : EventId). id.0) events i no_event 0 lt) exists

pub loop-event-preserved : goal.loop-event-preserved
loop-event-preserved g c =
    let node = node_at (g.S.Subject.content c.args.subject.now) in
    let events = c.args.events.now in
    let i = c.loop-event.event-index in
    let event = get_or events i no_event in
    c.in_ok-push.ensures.items ∙ ap (λ (nodes : List ℕ). nodes ++ c.node.result.0 ∷ []) c.loop-event.invariant
    ∙ ap (λ (n : ℕ). map node (places_of (take i events)) ++ n ∷ []) c.node.ensures.node
    ∙ sym (map_push node (places_of (take i events)) event.0)
    ∙ ap (map node) (sym (map_push (λ (id : EventId). id.0) (take i events) event))
    ∙ ap (λ (taken : List EventId). map node (places_of taken)) (sym (take_more events i no_event c.loop-event-test.true))

pub returns : goal.returns
returns g c =
    c.loop-event.invariant
    ∙ ap (λ (taken : List EventId). map (node_at (g.S.Subject.content c.args.subject.now)) (places_of taken))
    (take_all c.loop-event.event-index c.args.events.now c.loop-event-test.false)
