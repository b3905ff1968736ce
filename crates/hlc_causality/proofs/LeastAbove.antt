-- The least pair above those of the direct predecessors: it exists, and where it comes from.
use Rattle.std.proofs.Common.{◌≡◌, ℕ, ◌<◌, ◌⊎◌, inl, inr, List, length, arith, subst, sym, ap}
use Rattle.hlc_stamp.specs.Order.{Pair}
use Rattle.hlc_causality.specs.Assignment.{IsLeastAbove, pair_at}
use Rattle.hlc_causality.specs.Causality.{IsDirectPredecessor, Skeleton, skeleton_at}
use Rattle.hlc_causality.specs.Chain.{IsOneBefore}
use Rattle.hlc_causality.specs.ClockEvents.{ticking}
use Rattle.hlc_causality.specs.LeastFeasible.{least_feasible_at, next_pair}
use Rattle.hlc_causality.specs.LeastPairs.{least_above}
use Rattle.hlc_causality.proofs.ClockEvents.{ticking_size}
use Rattle.hlc_causality.proofs.Feasible.{least_feasible_at_is, least_feasible_source}
use Rattle.hlc_causality.proofs.Pairs.{at_most_antisymm}
use Rattle.hlc_causality.proofs.Ticking.{from_event, from_events, least_above_is_feasible, ticking_least_at_is_least_above}

-- p is the reading of f with c 0, or one after the pair of a direct predecessor
abbrev pub HasSource : Skeleton → List Pair → ℕ → Pair → Type 0
HasSource s pairs f p =
    (((skeleton_at s f).reading ≡ p.l) × (p.c ≡ 0)) ⊎ ((d : ℕ) × IsDirectPredecessor s d f × IsOneBefore (pair_at pairs d) p)

least_above_is : (s : Skeleton) (pairs : List Pair) (f : ℕ) → f < length s → IsLeastAbove s pairs f (least_above s pairs f)
least_above_is s pairs f exists =
    subst (λ (p : Pair). IsLeastAbove s pairs f p) (sym (least_above_is_feasible s pairs f))
    ((ticking_least_at_is_least_above s pairs f (least_feasible_at (ticking s) pairs f)).1
    (least_feasible_at_is (ticking s) pairs f (omega (arith, ticking_size s))))

pub least_above_exists : (s : Skeleton) (pairs : List Pair) (f : ℕ) → f < length s → (p : Pair) × IsLeastAbove s pairs f p
least_above_exists s pairs f exists = (least_above s pairs f, least_above_is s pairs f exists)

pub least_above_is_unique : (s : Skeleton) (pairs : List Pair) (f : ℕ) (p q : Pair)
    → IsLeastAbove s pairs f p → IsLeastAbove s pairs f q → p ≡ q
least_above_is_unique s pairs f p q a b = at_most_antisymm p q (a.least q b.allowed) (b.least p a.allowed)

-- a least pair is the reading with c 0, or one after the pair of a direct predecessor
pub least_above_source : (s : Skeleton) (pairs : List Pair) (f : ℕ) (p : Pair)
    → f < length s → IsLeastAbove s pairs f p → HasSource s pairs f p
least_above_source s pairs f p exists least =
    let feasible = (ticking_least_at_is_least_above s pairs f p).0 least in
    elim (least_feasible_source (ticking s) pairs f p (omega (arith, ticking_size s)) feasible) [
      | inl own ↦
          let floor = from_event s (λ x. p ≡ x.floor) f own in
          inl (sym (ap (λ (q : Pair). q.l) floor), ap (λ (q : Pair). q.c) floor)
      | inr from ↦
          let next = from_event s (λ x. next_pair x.ticks (pair_at pairs from.0) ≡ p) f from.2 in
          inr (from.0, from_events s (λ x. IsDirectPredecessor x from.0 f) from.1, (ap (λ (q : Pair). q.l) next, ap (λ (q : Pair). q.c) next))
    ]
