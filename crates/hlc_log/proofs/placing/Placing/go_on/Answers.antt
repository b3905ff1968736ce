use Rattle.std.proofs.Common.{◌≡◌, ◌∙◌, ℕ, ◌<◌, ◌⊎◌, ◌++◌, ◌∷◌, [], List, length, Option, None, arith, subst, sym, ap}
use Rattle.std.proofs.lemmas.List.{get_or-set_other, get_or_read, length-map, length-set, length_push, map_push}
use Rattle.hlc_stamp.specs.declared.id.EventId.{EventId}
use Rattle.hlc_stamp.specs.declared.id.NodeId.{NodeId}
use Rattle.hlc_stamp.specs.Ids.{places_of}
use Rattle.hlc_log.specs.Messages.{SendsTo}
use Rattle.hlc_log.specs.Placing.{IsBlocked, IsNodeBlocked, IsReady, IsWoken}
use Rattle.hlc_log.specs.SendLinks.{link_at}
use Rattle.hlc_log.specs.Turns.{HasTurn}
use Rattle.hlc_log.proofs.GivenTurns.{same_node, turn_over, turns_beside}
use Rattle.hlc_log.proofs.Placements.{front_of, front_placed, length-order-lt}
use Rattle.hlc_log.proofs.placing.Placing.go_on.Goals as goal

pub returns-then-not-is_ready-clause-turns : goal.returns-then-not-is_ready-clause-turns
returns-then-not-is_ready-clause-turns c =
    let events = c.args.log.now.events in
    let fronts = c.loop-event.self.fronts.items in
    let before = c.loop-event.invariant in
    let e = c.in-Some.event in
    let front = sym (get_or_read fronts c.args.node.0 c.index.result.now before.node c.index.ensures None) ∙ c.in-Some.is in
    let blocked = subst (λ (links : List (Option EventId)). IsBlocked events links e.0) c.deref.ensures.value c.if-not-is_ready.ensures in
    turn_over events fronts c.loop-event.self.turns c.args.node before.others (subst (IsNodeBlocked events fronts) (sym front) blocked)

pub push_reserved-requires : goal.push_reserved-requires
push_reserved-requires c =
    let events = c.args.log.now.events in
    let fronts = c.loop-event.self.fronts.items in
    let ids = c.loop-event.self.order.items in
    let before = c.loop-event.invariant in
    let e = c.in-Some.event in
    let front = sym (get_or_read fronts c.args.node.0 c.index.result.now before.node c.index.ensures None) ∙ c.in-Some.is in
    let ready = subst (λ (links : List (Option EventId)). IsReady events links e.0) c.deref.ensures.value c.if-not-is_ready.ensures in
    let size : length (places_of ids) ≡ length ids = length-map ids (λ (id : EventId). id.0) in
    let short = length-order-lt events c.loop-event.self.next.items fronts (places_of ids) before.placing c.args.node.0 e before.node front ready in
    let len = c.loop-event.self.order.ok.0 in
    let room = before.room in
    omega (arith, c.requires.room)

pub loop-event-smaller : goal.loop-event-smaller
loop-event-smaller c =
    let events = c.args.log.now.events in
    let fronts = c.loop-event.self.fronts.items in
    let ids = c.loop-event.self.order.items in
    let before = c.loop-event.invariant in
    let e = c.in-Some.event in
    let front = sym (get_or_read fronts c.args.node.0 c.index.result.now before.node c.index.ensures None) ∙ c.in-Some.is in
    let ready = subst (λ (links : List (Option EventId)). IsReady events links e.0) c.deref.ensures.value c.if-not-is_ready.ensures in
    let size : length (places_of ids) ≡ length ids = length-map ids (λ (id : EventId). id.0) in
    let short = length-order-lt events c.loop-event.self.next.items fronts (places_of ids) before.placing c.args.node.0 e before.node front ready in
    let longer = ap (λ (ids : List EventId). length ids) c.push_reserved.ensures.items ∙ length_push ids e in
    omega arith

pub loop-event-preserved : goal.loop-event-preserved
loop-event-preserved c =
    let events = c.args.log.now.events in
    let fronts = c.loop-event.self.fronts.items in
    let next = c.loop-event.self.next.items in
    let ids = c.loop-event.self.order.items in
    let before = c.loop-event.invariant in
    let node = c.args.node in
    let e = c.in-Some.event in
    let front = sym (get_or_read fronts node.0 c.index.result.now before.node c.index.ensures None) ∙ c.in-Some.is in
    let ready = subst (λ (links : List (Option EventId)). IsReady events links e.0) c.deref.ensures.value c.if-not-is_ready.ensures in
    let placed = front_placed events next fronts (places_of ids) before.placing node.0 e before.node front ready in
    let exists = (front_of events next fronts (places_of ids) before.placing node.0 e before.node front).exists in
    let len = before.placing.len in
    let link : c.event.result ≡ link_at next e.0 =
    c.event.ensures ∙ get_or_read next e.0 c.index-in-Some.result.now (omega arith) c.index-in-Some.ensures None in
    let places : places_of c.push_reserved.new.self.items ≡ places_of ids ++ e.0 ∷ [] =
    ap places_of c.push_reserved.ensures.items ∙ map_push (λ (id : EventId). id.0) ids e in
    let longer = ap (λ (ids : List EventId). length ids) c.push_reserved.ensures.items ∙ length_push ids e in
    let grows = before.grows in
    let size = length-set fronts node.0 c.event.result in
    let lent = c.deref-in-Some.ensures.value in
    let woke = c.in_ok-wake.ensures in
    let woken = subst (λ (links : List (Option EventId)). (f : ℕ) → SendsTo events e.0 f → IsWoken events links c.wake.new.turns f) lent woke.woken in
    let below =
    subst (λ (links : List (Option EventId)). (n : NodeId) → HasTurn c.wake.new.turns n → HasTurn c.loop-event.self.turns n ⊎ (n.0 < length links))
    lent woke.below in
    record {
      placing = rw (link, places) placed;
      room = c.push_reserved.ensures.capacity ∙ before.room;
      grows = omega arith;
      stays = λ same. absurd (omega arith);
      node = let within = before.node in omega arith;
      others = rw link
          (turns_beside events next fronts _ (places_of ids) e.0 before.placing placed c.loop-event.self.turns c.wake.new.turns node before.others
          woken woke.kept below (length-set fronts node.0 (link_at next e.0))
          (λ other ne. get_or-set_other fronts node.0 other.0 (link_at next e.0) None (λ is. ne (same_node other node is))));
    }
