use Rattle.std.proofs.Common.{◌≡◌, ◌<◌, ◌⊎◌, ◌↔◌, ◌∙◌, ℕ, List, Option, inl, inr, arith, refl, subst, sym, ap}
use Rattle.hlc_stamp.specs.declared.id.EventId.{EventId}
use Rattle.hlc_causality.specs.Causality.{IsPrevious, skeleton_at}
use Rattle.hlc_causality.specs.Neighbours.{NamesPrevious, NamesSend}
use Rattle.hlc_causality.specs.Past.{IsInPast}
use Rattle.hlc_explain.specs.Frontier.{IsBehind}
use Rattle.hlc_explain.specs.Marks.{IsNamed}
use Rattle.hlc_explain.specs.declared.frontier.Frontier.{Frontier}
use Rattle.hlc_explain.proofs.Frontiers.{behind_with_event, frontier_with_event, looked_at, named_past}
use Rattle.hlc_explain.proofs.frontier.Frontier.pass.Goals as goal

pub returns-in-Some-clause-rest : goal.returns-in-Some-clause-rest
returns-in-Some-clause-rest c e other =
    let s = c.args.execution.now.events in
    let m = c.args.self.now.latest.0 in
    let p : NamesPrevious s m c.previous-previous.result = c.previous-previous.ensures in
    let q : NamesSend s m c.send-sent.result = c.send-sent.ensures in
    let with_sent : List ℕ = c.take_in_send.new.ends in
    let left : ℕ → Type 0 = λ x. IsInPast s x c.in-Some.previous.0 ⊎ IsBehind s with_sent x in
    let looked = looked_at s c.args.ends.now with_sent left m c.previous-previous.result c.send-sent.result p q c.take_in_send.ensures.behind
    (λ x. let named = named_past s c.previous-previous.result c.in-Some.previous x c.in-Some.is in (
      λ h. elim h [ inl past ↦ inr (named.1 past) | inr behind ↦ inl behind ],
      λ h. elim h [ inl behind ↦ inr behind | inr past ↦ inl (named.0 past) ],
    )) e other in
    (λ h. (refl, looked.0 h), λ h. looked.1 h.1)

pub returns-in-None-clause-rest : goal.returns-in-None-clause-rest
returns-in-None-clause-rest c e other =
    let s = c.args.execution.now.events in
    let m = c.args.self.now.latest.0 in
    let p : NamesPrevious s m c.previous-previous.result = c.previous-previous.ensures in
    let q : NamesSend s m c.send-sent.result = c.send-sent.ensures in
    let with_sent : List ℕ = c.take_in_send.new.ends in
    let left : ℕ → Type 0 = λ x. IsBehind s with_sent x in
    let looked = looked_at s c.args.ends.now with_sent left m c.previous-previous.result c.send-sent.result p q c.take_in_send.ensures.behind
    (λ x. (
      λ h. inl h,
      λ h. elim h [ inl behind ↦ behind | inr (d, named, past) ↦ absurd (subst (λ (o : Option EventId). IsNamed o d) c.in-None.is named) ],
    )) e other in
    let taken = c.take_latest-in-None.ensures.rest e in
    (λ h. taken.0 (looked.0 h), λ h. looked.1 (taken.1 h))

pub take_in-requires-clause-node : goal.take_in-requires-clause-node
take_in-requires-clause-node c =
    let frontier = c.take_in_send.ensures.frontier in
    let lt = frontier.has_end c.take_in_send.new.self.latest.0 frontier.exists in
    let at_node = frontier.at_node in
    omega arith

pub take_latest-requires-clause-frontier : goal.take_latest-requires-clause-frontier
take_latest-requires-clause-frontier c =
    let s = c.args.execution.now.events in
    let m = c.args.self.now.latest.0 in
    let f : Frontier = c.take_in_send.new.self in
    let ends : List ℕ = c.take_in_send.new.ends in
    let frontier = c.take_in_send.ensures.frontier in
    let latest : f.latest.0 ≡ m = ap (λ (id : EventId). id.0) c.take_in_send.ensures.latest in
    let p : NamesPrevious s m c.previous-previous.result = c.previous-previous.ensures in
    let before : IsPrevious s c.in-Some-2.previous.0 m = subst (λ (o : Option EventId). NamesPrevious s m o) c.in-Some-2.is p in
    let earlier : c.in-Some-2.previous.0 < f.latest.0 = let lt = before.at_node.earlier in omega arith in
    let at_node = before.at_node.same_node ∙ ap (λ (x : ℕ). (skeleton_at s x).node) (sym latest) ∙ frontier.at_node in
    rw (c.take_in.ensures.ends, c.take_in.ensures.frontier)
    (frontier_with_event s ends f f.node.0 c.in-Some-2.previous.0 frontier earlier at_node)

pub returns-in-Some-2-clause-rest : goal.returns-in-Some-2-clause-rest
returns-in-Some-2-clause-rest c e other =
    let s = c.args.execution.now.events in
    let m = c.args.self.now.latest.0 in
    let f : Frontier = c.take_in_send.new.self in
    let ends : List ℕ = c.take_in_send.new.ends in
    let frontier = c.take_in_send.ensures.frontier in
    let latest : f.latest.0 ≡ m = ap (λ (id : EventId). id.0) c.take_in_send.ensures.latest in
    let p : NamesPrevious s m c.previous-previous.result = c.previous-previous.ensures in
    let q : NamesSend s m c.send-sent.result = c.send-sent.ensures in
    let d = c.in-Some-2.previous.0 in
    let before : IsPrevious s d m = subst (λ (o : Option EventId). NamesPrevious s m o) c.in-Some-2.is p in
    let earlier : d < f.latest.0 = let lt = before.at_node.earlier in omega arith in
    let at_node = before.at_node.same_node ∙ ap (λ (x : ℕ). (skeleton_at s x).node) (sym latest) ∙ frontier.at_node in
    let with_both : List ℕ = c.take_in.new.ends in
    let looked = looked_at s c.args.ends.now ends (λ x. IsBehind s with_both x) m c.previous-previous.result c.send-sent.result p q c.take_in_send.ensures.behind
    (λ x.
    let behind =
    subst (λ (new : List ℕ). IsBehind s new x ↔ (IsBehind s ends x ⊎ IsInPast s x d)) (sym c.take_in.ensures.ends)
    (behind_with_event s ends f f.node.0 d frontier earlier at_node x) in
    let named = named_past s c.previous-previous.result c.in-Some-2.previous x c.in-Some-2.is in (
      λ h. elim (behind.0 h) [ inl old ↦ inl old | inr past ↦ inr (named.1 past) ],
      λ h. elim h [ inl old ↦ behind.1 (inl old) | inr past ↦ behind.1 (inr (named.0 past)) ],
    )) e other in
    let taken = c.take_latest.ensures.rest e in
    (λ h. taken.0 (looked.0 h), λ h. looked.1 (taken.1 h))
