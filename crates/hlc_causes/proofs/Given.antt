-- Stamps that the clock rule gives.
use Rattle.std.proofs.Common.{◌≡◌, ◌∙◌, ◌⊎◌, true, false, inl, inr, ℕ, ◌-◌, ◌^◌, ◌<◌, ◌≤◌, List, length, arith, refl, subst, sym, ap}
use Rattle.std.specs.Prelude.{nat_le, nat_lt}
use Rattle.std.proofs.lemmas.Bool.Decides.{nat_tests}
use Rattle.hlc_stamp.specs.Order.{IsAtMost, Pair}
use Rattle.hlc_causality.specs.Assignment.{pair_at}
use Rattle.hlc_causality.specs.Causality.{IsDirectPredecessor}
use Rattle.hlc_causality.specs.ClockEvents.{ClockEvents, clock_skeleton}
use Rattle.hlc_causality.specs.Feasible.{IsFeasibleAt, IsLeastFeasible, IsLeastFeasibleAt}
use Rattle.hlc_causality.proofs.LeastFeasible.{each_from_least_feasible}
use Rattle.hlc_causality.proofs.Predecessors.{direct_earlier}
use Rattle.hlc_causes.specs.CauseLaws.{GivenIsNoCause}
use Rattle.hlc_causes.specs.Causes.{KeepsRule}
use Rattle.hlc_causes.specs.Given.{IsStamp, given_at, rule_pair_at, stamp_for}
use Rattle.hlc_causes.specs.Rule.{next_l}
use Rattle.hlc_causes.proofs.CauseLaws.{kept_is_no_cause, least_like}
use Rattle.hlc_causes.proofs.Predecessors.{before, rule_pair_where}
use Rattle.hlc_causes.proofs.Written.{rollover_is_kept, rule_is_kept, rule_is_unique}

-- the stamp for a pair with a small c is that pair
pub small_is_given : (p : Pair) → p.c < 2 ^ 32 → stamp_for p ≡ p
small_is_given p small = let test : nat_le p.c (2 ^ 32 - 1) ≡ true = grind (arith, nat_tests, small) in rw test refl

-- where c is too great, but a greater l is left, it is the pair with the next l
next_is_given : (p : Pair) → 2 ^ 32 ≤ p.c → p.l < 2 ^ 64 - 1 → stamp_for p ≡ next_l p
next_is_given p great left =
    let first : nat_le p.c (2 ^ 32 - 1) ≡ false = grind (arith, nat_tests, great) in
    let second : nat_lt p.l (2 ^ 64 - 1) ≡ true = grind (arith, nat_tests, left) in
    rw (first, second) refl

-- a stamp that is at least a pair with a greater c has a greater l
greater_l : (p q : Pair) → IsAtMost p q → q.c < p.c → p.l < q.l
greater_l p q least less = grind arith

module _ (t : ClockEvents) (claimed : List Pair) (f : ℕ) (exists : f < length t) where
  -- the rule's pair is the least feasible one
  pub rule_pair_is : IsLeastFeasibleAt t claimed f (rule_pair_at t claimed f)
  rule_pair_is = rule_pair_where t claimed f exists (before t claimed f exists) refl

  module _ (full : ℕ) (small : full < 2 ^ 32) (any : Pair) (feasible : IsFeasibleAt t claimed f any) (stamp : IsStamp any)
      (given : pair_at claimed f ≡ given_at t claimed f) where
    abbrev rule : Pair
    rule = rule_pair_at t claimed f

    kept_by_size : (rule.c < 2 ^ 32) ⊎ (2 ^ 32 ≤ rule.c) → KeepsRule t claimed full f
    kept_by_size (inl fits) =
        rule_is_kept t claimed f full (subst (λ (p : Pair). IsLeastFeasibleAt t claimed f p) (sym (given ∙ small_is_given rule fits)) rule_pair_is)
    kept_by_size (inr great) =
        let c_fits = stamp.c in
        let l_fits = stamp.l in
        let left = greater_l rule any (rule_pair_is.least any feasible) (omega arith) in
        rollover_is_kept t claimed f full (
          rule,
          record { rule = rule_pair_is; too_great = omega arith; next = given ∙ next_is_given rule great (omega arith) },
        )

    given_is_kept : KeepsRule t claimed full f
    given_is_kept = kept_by_size (search arith)

  -- the rule gives the least pair after pairs that are the least ones at the direct predecessors
  pub least_is_given : (least : List Pair) → IsLeastFeasible t least
      → ((d : ℕ) → IsDirectPredecessor (clock_skeleton t) d f → pair_at claimed d ≡ pair_at least d)
      → (pair_at least f).c < 2 ^ 32 → given_at t claimed f ≡ pair_at least f
  least_is_given least is_least same fits =
      let rule = rule_pair_at t claimed f in
      let equal : rule ≡ pair_at least f =
      rule_is_unique t least f rule (pair_at least f) (least_like t claimed least f same rule rule_pair_is)
      (each_from_least_feasible t least is_least f exists) in
      ap stamp_for equal ∙ small_is_given (pair_at least f) fits

pub given_is_no_cause : GivenIsNoCause
given_is_no_cause t claimed full f any exists small feasible stamp given (cause, broken) =
    kept_is_no_cause t claimed full f exists cause (given_is_kept t claimed f exists full small any feasible stamp given) broken

-- pairs that are the same before an event give it the same
pub given_like : (t : ClockEvents) (claimed others : List Pair) (f : ℕ) → f < length t → ((d : ℕ) → d < f → pair_at claimed d ≡ pair_at others d)
    → given_at t others f ≡ given_at t claimed f
given_like t claimed others f exists same =
    ap stamp_for (rule_is_unique t others f (rule_pair_at t others f) (rule_pair_at t claimed f) (rule_pair_is t others f exists)
    (least_like t claimed others f (λ d direct. same d (direct_earlier (clock_skeleton t) d f direct)) (rule_pair_at t claimed f)
    (rule_pair_is t claimed f exists)))
