-- What is kept of an event, if there is one.
use Rattle.std.proofs.Common.{◌≡◌, ℕ, ◌-◌, List, sym, ap, Option, Some}
use Rattle.std.specs.Prelude.{IfSome}
use Rattle.std.proofs.lemmas.Option.{MatchOption-at_some}
use Rattle.hlc_stamp.specs.Order.{Pair}
use Rattle.hlc_causality.specs.Assignment.{pair_at}
use Rattle.hlc_causality.specs.Causality.{Skeleton, SkeletonEvent, skeleton_at}
use Rattle.hlc_causality.specs.NodeEvents.{drift_at}
use Rattle.hlc_execution.specs.Events.{skeleton_event_of}
use Rattle.hlc_execution.specs.declared.event.Event.{Event}

-- a fact of what is found holds of it
pub of_found : {found : Option Event} (P : Event → Type 0) (r : Event) → found ≡ Some r → IfSome found P → P r
of_found P r is h = MatchOption-at_some (Unit {0}) P r is h

-- what is found shows the event at a place
abbrev pub Shows : Skeleton → ℕ → Option Event → Type 0
Shows s e found = IfSome found (λ r. skeleton_event_of r ≡ skeleton_at s e)

module _ (s : Skeleton) (e : ℕ) (found : Option Event) (r : Event) (is : found ≡ Some r) (event : Shows s e found) where
  kept : skeleton_event_of r ≡ skeleton_at s e
  kept = of_found (λ x. skeleton_event_of x ≡ skeleton_at s e) r is event

  pub node_kept : (skeleton_at s e).node ≡ r.node.0
  node_kept = sym (ap (λ (x : SkeletonEvent). x.node) kept)

  pub drift_kept : (pairs : List Pair) → IfSome found (λ x. x.stamp ≡ pair_at pairs e) → r.stamp.l - r.reading ≡ drift_at s pairs e
  drift_kept pairs stamped =
      let stamp : r.stamp ≡ pair_at pairs e = of_found (λ x. x.stamp ≡ pair_at pairs e) r is stamped in
      λ i. (stamp i).l - (kept i).reading
