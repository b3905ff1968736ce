-- The laws of groups.
use Rattle.std.proofs.Common.{◌≡◌, ◌∙◌, Bool, true, false, cond, ℕ, ◌<◌, inl, inr, List, [], ◌∷◌, length, Option, Some, None, arith, refl, sym, ap}
use Rattle.std.specs.Prelude.{if◌then◌else◌, option_map}
use Rattle.std.specs.Ordering.{is_le, is_lt}
use Rattle.hlc_stamp.specs.Order.{IsAtMost, IsBelow, Pair, stamp_cmp}
use Rattle.hlc_causality.specs.Assignment.{pair_at}
use Rattle.hlc_causality.specs.ClockEvents.{clock_event_at, clock_skeleton}
use Rattle.hlc_causality.specs.LeastFeasible.{next_pair}
use Rattle.hlc_causality.specs.Predecessors.{previous_of, send_of}
use Rattle.hlc_causes.specs.Rule.{greatest_of, rule_pair}
use Rattle.hlc_causes.proofs.Tests.{below_from_test, no_less}
use Rattle.hlc_log_groups.specs.Followed.{followed_at, greater_of, pair_after, unless_below}
use Rattle.hlc_log_groups.specs.Groups.{group_at, places_with}
use Rattle.hlc_log_groups.specs.Laws.{NoGroupIsEmpty, RulePairFollows}
use Rattle.hlc_log_groups.specs.declared.cause_group.CauseGroup.{CauseGroup}
use Rattle.hlc_log_groups.specs.declared.cause_place.CausePlace.{CausePlace}

-- pairs that tie are equal
tied : (p q : Pair) → IsAtMost p q → IsAtMost q p → p ≡ q
tied p q (inl lt) (inl gt) = absurd (omega (arith, lt, gt))
tied p q (inl lt) (inr same) = absurd (omega (arith, lt, same.0))
tied p q (inr same) (inl gt) = absurd (omega (arith, gt, same.0))
tied p q (inr same) (inr other) =
    let l = same.0 in
    let c : p.c ≡ q.c = omega (arith, same.1, other.1) in
    λ i. record { l = l i; c = c i }

-- two pairs aren't each below the other
not_both : {p q : Pair} → IsBelow q p → IsBelow p q → ⊥
not_both (inl a) (inl b) = omega (arith, a, b)
not_both (inl a) (inr b) = omega (arith, a, b.0)
not_both (inr a) (inl b) = omega (arith, a.0, b)
not_both (inr a) (inr b) = omega (arith, a.1, b.1)

module _ (claimed : List Pair) where
  -- the greatest pair is that of the greater event
  greatest_is : (a b : Option ℕ) → greatest_of claimed a b ≡ option_map (pair_at claimed) (greater_of claimed a b)
  greatest_is None None = refl
  greatest_is None (Some b) = refl
  greatest_is (Some a) None = refl
  greatest_is (Some a) (Some b) = by_tests (is_lt (stamp_cmp (pair_at claimed b) (pair_at claimed a))) (is_lt (stamp_cmp (pair_at claimed a) (pair_at claimed b))) refl refl
    where
      by_tests : (gt lt : Bool) → is_lt (stamp_cmp (pair_at claimed b) (pair_at claimed a)) ≡ gt
          → is_lt (stamp_cmp (pair_at claimed a) (pair_at claimed b)) ≡ lt
          → (let o : Option Pair = cond gt (Some (pair_at claimed a)) (Some (pair_at claimed b)) in o) ≡ Some (pair_at claimed (cond lt b a))
      by_tests true true gt lt = absurd (not_both (below_from_test (pair_at claimed b) (pair_at claimed a) gt) (below_from_test (pair_at claimed a) (pair_at claimed b) lt))
      by_tests true false gt lt = refl
      by_tests false true gt lt = refl
      by_tests false false gt lt =
          ap (λ (x : Pair). Some x) (tied (pair_at claimed b) (pair_at claimed a) (no_less (pair_at claimed a) (pair_at claimed b) lt)
          (no_less (pair_at claimed b) (pair_at claimed a) gt))

  -- the rule's pair, by the event that it follows
  abbrev after_event : (ticks : Bool) (floor : Pair) → Option ℕ → Pair
  after_event ticks floor None = floor
  after_event ticks floor (Some d) = next_pair ticks (pair_at claimed d)

  rule_after : (ticks : Bool) (floor : Pair) (o : Option ℕ)
      → rule_pair ticks (option_map (pair_at claimed) o) floor ≡ after_event ticks floor (unless_below claimed floor o)
  rule_after ticks floor None = refl
  rule_after ticks floor (Some d) = by_test (is_le (stamp_cmp floor (pair_at claimed d)))
    where
      by_test : (b : Bool) → (if b then next_pair ticks (pair_at claimed d) else floor) ≡ after_event ticks floor (if b then Some d else None)
      by_test true = refl
      by_test false = refl

pub rule_pair_follows : RulePairFollows
rule_pair_follows t claimed f =
    let s = clock_skeleton t in
    let x = clock_event_at t f in
    ap (λ (before : Option Pair). rule_pair x.ticks before x.floor) (greatest_is claimed (previous_of s f) (send_of s f))
    ∙ rule_after claimed x.ticks x.floor (greater_of claimed (previous_of s f) (send_of s f))
    ∙ as_told (followed_at t claimed f)
  where
    as_told : (o : Option ℕ) → after_event claimed (clock_event_at t f).ticks (clock_event_at t f).floor o ≡ pair_after t claimed f o
    as_told None = refl
    as_told (Some d) = refl

-- a group of some places is not empty
not_empty : (places : List CausePlace) (group : CauseGroup) → group_at places ≡ Some group → 0 < group.causes
not_empty [] group none = absurd cc
not_empty (first ∷ more) group some =
    let number : length (first ∷ more) ≡ group.causes = of_some some in
    omega (arith, number)
  where
    of_some : {a : CauseGroup} → Some a ≡ Some group → a.causes ≡ group.causes
    of_some same = cc

pub no_group_is_empty : NoGroupIsEmpty
no_group_is_empty causes groups key group are found = not_empty (places_with causes key) group (sym (are.each key) ∙ found)
