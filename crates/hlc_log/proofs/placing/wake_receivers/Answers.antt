use Rattle.std.proofs.Common.{◌≡◌, ◌∙◌, ℕ, ◌+◌, ◌<◌, ◌⊎◌, inl, inr, Option, None, arith, subst, sym, ap}
use Rattle.std.specs.Prelude.{IfSome}
use Rattle.std.proofs.lemmas.Bool.{false≢true}
use Rattle.std.proofs.lemmas.List.{get_or_read}
use Rattle.hlc_stamp.specs.declared.id.EventId.{EventId}
use Rattle.hlc_stamp.specs.declared.id.NodeId.{NodeId}
use Rattle.hlc_log.specs.Messages.{Receives}
use Rattle.hlc_log.specs.Placing.{IsBefore, IsWoken}
use Rattle.hlc_log.specs.ReceiveLinks.{LinksToReceive}
use Rattle.hlc_log.specs.SendLinks.{link_at}
use Rattle.hlc_log.specs.Turns.{HasTurn}
use Rattle.hlc_log.specs.declared.turns.Turns.{Turns}
use Rattle.hlc_log.proofs.ReceiveLinks.{fewer_left, leads_to_receive, left_from, none_before_first, one_more_receive}
use Rattle.hlc_log.proofs.placing.wake_receivers.Goals as goal
use Rattle.hlc_log.proofs.placing.wake_receivers.Goals.{else-goes_on_at, then-goes_on_at+in_ok-give}

pub loop-link-init : goal.loop-link-init
loop-link-init c =
    let events = c.args.log.now.events in
    let firsts = c.args.receives.now.firsts.items in
    let m = c.args.message.0 in
    let link : c.event-link.result ≡ link_at firsts m =
    c.event-link.ensures ∙ get_or_read firsts m c.index.result.now c.requires.message c.index.ensures None in
    let links = subst (LinksToReceive events 0 m) (sym link) (c.requires.receives.each_first m c.requires.message) in
    record {
      leads = leads_to_receive events m 0 c.event-link.result links;
      woken = λ e receives before. absurd (none_before_first events m c.event-link.result links e receives before);
      kept = λ node had. had;
      below = λ node has. inl has;
    }

module _ (c : goal.After-event-link-in-Some) where
  abbrev r : ℕ
  r = c.in-Some.receive.0

  receives : Receives c.args.log.now.events r c.args.message.0
  receives =
      subst (λ (link : Option EventId). IfSome link (λ e. Receives c.args.log.now.events e.0 c.args.message.0)) c.in-Some.is c.loop-link.invariant.leads

  links : LinksToReceive c.args.log.now.events (r + 1) c.args.message.0 c.event-link-in-Some.result
  links =
      let next = c.args.receives.now.next.items in
      let len = c.requires.receives.len in
      let exists = receives.exists in
      let link : c.event-link-in-Some.result ≡ link_at next r =
      c.event-link-in-Some.ensures ∙ get_or_read next r c.index-in-Some.result.now (omega arith) c.index-in-Some.ensures None in
      subst (LinksToReceive c.args.log.now.events (r + 1) c.args.message.0) (sym link)
      (c.requires.receives.each_next r c.args.message.0 (omega arith) receives)

  -- the turns after the event: those before, and that of its node if it goes on there
  abbrev Follow : Turns → Type 0
  Follow turns =
      ((node : NodeId) → HasTurn c.loop-link.turns node → HasTurn turns node)
      × ((node : NodeId) → HasTurn turns node → HasTurn c.loop-link.turns node ⊎ (c.node_at-node.result ≡ node))
      × IsWoken c.args.log.now.events c.args.fronts.now turns r

  turns_are : Follow c.if-goes_on_at.turns
  turns_are = elim c.if-goes_on_at.branch [
    | then-goes_on_at+in_ok-give w ↦
        let given = w.in_ok-give.ensures in
        subst Follow (sym w.turns-is) (
          λ node had. (given node).1 (inl had),
          λ node has. (given node).0 has,
          λ at. (given _).1 (inr c.node_at-node.ensures),
        )
    | else-goes_on_at w ↦
        let front = ap (λ (node : NodeId). link_at c.args.fronts.now node.0) c.node_at-node.ensures in
        subst Follow (sym w.turns-is) (
          λ node had. had,
          λ node has. inl has,
          λ at. absurd (false≢true (sym w.if-goes_on_at.false ∙ c.goes_on_at.ensures.1 (front ∙ at))),
        )
  ]

pub loop-link-smaller : goal.loop-link-smaller
loop-link-smaller c =
    let events = c.args.log.now.events in
    subst (λ (link : Option EventId). left_from events c.event-link-in-Some.result < left_from events link) (sym c.in-Some.is)
    (fewer_left events c.args.message.0 (r c) c.event-link-in-Some.result (receives c).exists (links c))

pub loop-link-preserved : goal.loop-link-preserved
loop-link-preserved c =
    let events = c.args.log.now.events in
    let fronts = c.args.fronts.now in
    let m = c.args.message.0 in
    let before = c.loop-link.invariant in
    let turns = turns_are c in
    record {
      leads = leads_to_receive events m (r c + 1) c.event-link-in-Some.result (links c);
      woken =
          one_more_receive events m (IsWoken events fronts c.if-goes_on_at.turns) (r c) c.event-link-in-Some.result (links c)
          (λ e receives lt at. turns.0 _ (before.woken e receives (subst (λ (link : Option EventId). IsBefore link e) (sym c.in-Some.is) lt) at))
          turns.2;
      kept = λ node had. turns.0 node (before.kept node had);
      below = λ node has. elim (turns.1 node has) [
        | inl had ↦ before.below node had
        | inr same ↦
            let exists = (receives c).exists in
            let below = c.requires.nodes (r c) exists in
            let of_node = ap (λ (n : NodeId). n.0) c.node_at-node.ensures in
            let is = ap (λ (n : NodeId). n.0) same in
            inr (omega arith)
      ];
    }
