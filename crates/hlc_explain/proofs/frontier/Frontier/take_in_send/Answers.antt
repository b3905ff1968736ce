use Rattle.std.proofs.Common.{◌≡◌, ◌<◌, ◌↔◌, ◌⊎◌, ℕ, List, Option, IfSome, inl, inr, subst, sym}
use Rattle.hlc_stamp.specs.declared.id.EventId.{EventId}
use Rattle.hlc_causality.specs.Causality.{Skeleton, skeleton_at}
use Rattle.hlc_causality.specs.Past.{IsInPast}
use Rattle.hlc_explain.specs.Frontier.{IsBehind}
use Rattle.hlc_explain.specs.declared.frontier.Frontier.{Frontier}
use Rattle.hlc_explain.proofs.Frontiers.{behind_with_event, frontier_with_event, named_past}
use Rattle.hlc_explain.proofs.KeptEvents.{node_kept}
use Rattle.hlc_explain.proofs.frontier.Frontier.take_in_send.Goals as goal

-- an event was sent, and is taken in
module _ (c : goal.After-slice_known-in-Some-1) where
  abbrev s : Skeleton
  s = c.args.execution.now.events

  abbrev f : Frontier
  f = c.args.self.now

  abbrev ends : List ℕ
  ends = c.args.ends.now

  abbrev n : ℕ
  n = c.unwrap.result.node.0

  abbrev d : ℕ
  d = c.in-Some.sent.0

  at_node : (skeleton_at s d).node ≡ n
  at_node = node_kept s d c.get.result c.unwrap.result c.unwrap.ensures c.get.ensures.event

  earlier : d < f.latest.0
  earlier = subst (λ (o : Option EventId). IfSome o (λ event. event.0 < f.latest.0)) c.in-Some.is c.requires.earlier

pub returns-in-Some-clause-behind : goal.returns-in-Some-clause-behind
returns-in-Some-clause-behind c e =
    let behind =
    subst (λ (new : List ℕ). IsBehind (s c) new e ↔ (IsBehind (s c) (ends c) e ⊎ IsInPast (s c) e (d c))) (sym c.take_in.ensures.ends)
    (behind_with_event (s c) (ends c) (f c) (n c) (d c) c.requires.frontier (earlier c) (at_node c) e) in
    let named = named_past (s c) c.args.link c.in-Some.sent e c.in-Some.is in (
      λ h. elim (behind.0 h) [ inl old ↦ inl old | inr past ↦ inr (named.1 past) ],
      λ h. elim h [ inl old ↦ behind.1 (inl old) | inr past ↦ behind.1 (inr (named.0 past)) ],
    )

pub returns-in-Some-clause-frontier : goal.returns-in-Some-clause-frontier
returns-in-Some-clause-frontier c =
    rw (c.take_in.ensures.ends, c.take_in.ensures.frontier)
    (frontier_with_event (s c) (ends c) (f c) (n c) (d c) c.requires.frontier (earlier c) (at_node c))
