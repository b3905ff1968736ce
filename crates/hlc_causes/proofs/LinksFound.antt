-- The rules of clocks leave the previous events and the sends that are found as they are.
use Rattle.std.proofs.Common.{◌≡◌, ◌∙◌, Bool, true, false, cond, ℕ, zero, suc, ◌==◌, ◌<◌, length, Option, Some, arith, ap, refl}
use Rattle.std.specs.Prelude.{if◌then◌else◌, is_some}
use Rattle.hlc_causality.specs.declared.receives.Receives.{Receives}
use Rattle.hlc_causality.specs.declared.receives.Receives.TheVariants.{Merge, MergeClock, Tick}
use Rattle.hlc_causality.specs.Causality.{Skeleton, SkeletonEvent, skeleton_at}
use Rattle.hlc_causality.specs.ClockEvents.{clock_skeleton, ticking_event}
use Rattle.hlc_causality.specs.Predecessors.{if_earlier, latest_before, previous_of, send_of}
use Rattle.hlc_causality.specs.ReceiveEvents.{ClockRules, clock_event, clock_events, receive_event}
use Rattle.hlc_causality.proofs.ReceiveEvents.{clock_events_size, same_links}
use Rattle.hlc_causality.proofs.SameLinks.{IsSameLinks}

module _ (s u : Skeleton) (same : IsSameLinks s u) where
  latest_same : (node n : ℕ) → latest_before s node n ≡ latest_before u node n
  latest_same node zero = refl
  latest_same node (suc n) =
      ap (λ (m : ℕ). cond (m == node) (Some n) (latest_before s node n)) (same.node n)
      ∙ ap (λ (o : Option ℕ). cond ((skeleton_at u n).node == node) (Some n) o) (latest_same node n)

  previous_same : (f : ℕ) → previous_of s f ≡ previous_of u f
  previous_same f = ap (λ (node : ℕ). latest_before s node f) (same.node f) ∙ latest_same (skeleton_at u f).node f

  send_same : (f : ℕ) → send_of s f ≡ send_of u f
  send_same f = ap (if_earlier f) (same.send f)

module _ (rules : ClockRules) where
  pub exists_received : (s : Skeleton) (f : ℕ) → f < length s → f < length (clock_events rules s)
  exists_received s f exists = let size = clock_events_size rules s in omega arith

  pub previous_received : (s : Skeleton) (f : ℕ) → previous_of s f ≡ previous_of (clock_skeleton (clock_events rules s)) f
  previous_received s = previous_same s (clock_skeleton (clock_events rules s)) (same_links rules s)

  pub send_of_received : (s : Skeleton) (f : ℕ) → send_of s f ≡ send_of (clock_skeleton (clock_events rules s)) f
  send_of_received s = send_same s (clock_skeleton (clock_events rules s)) (same_links rules s)

-- without a rule of its own, the floor of an event has no c
pub floor_is_whole : (receives : Receives) (x : SkeletonEvent) → (clock_event receives x).floor.c ≡ 0
floor_is_whole receives x = by_test receives (is_some x.send)
  where
    by_test : (r : Receives) (test : Bool) → (if test then receive_event r x else ticking_event x).floor.c ≡ 0
    by_test r false = refl
    by_test Tick true = refl
    by_test Merge true = refl
    by_test MergeClock true = refl
