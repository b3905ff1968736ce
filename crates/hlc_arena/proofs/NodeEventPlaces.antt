-- The events of a node in a history, as causality sees them.
use Rattle.std.proofs.Common.{ℕ, List, arith, sym, ap, ◌∙◌}
use Rattle.hlc_causality.specs.Causality.{SkeletonEvent}
use Rattle.hlc_causality.specs.NodeEvents as causality
use Rattle.hlc_arena.specs.History.{StampedEvent, causality_of}
use Rattle.hlc_arena.specs.NodeEvents.{IsEventOf}
use Rattle.hlc_arena.proofs.Histories.{length_skeleton, skeleton_at_place}

module _ (events : List StampedEvent) (node : ℕ) where
  pub event_there : (e : ℕ) → IsEventOf events node e → causality.IsEventOf (causality_of events) node e
  event_there e h = record {
    exists = let size = length_skeleton events in let within = h.exists in omega arith;
    at_node = ap (λ (x : SkeletonEvent). x.node) (skeleton_at_place events e) ∙ h.at_node;
  }

  pub event_here : (e : ℕ) → causality.IsEventOf (causality_of events) node e → IsEventOf events node e
  event_here e h = record {
    exists = let size = length_skeleton events in let within = h.exists in omega arith;
    at_node = sym (ap (λ (x : SkeletonEvent). x.node) (skeleton_at_place events e)) ∙ h.at_node;
  }
