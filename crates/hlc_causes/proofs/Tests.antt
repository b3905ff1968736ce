-- What the tests of the order of pairs tell.
use Rattle.std.proofs.Common.{◌≡◌, ◌∙◌, Bool, true, false, cond, ℕ, ◌<◌, ◌≤◌, ◌⊎◌, inl, inr, Some, None, arith, refl, subst, sym}
use Rattle.std.specs.Prelude.{nat_lt}
use Rattle.std.specs.Ordering.{is_le, is_lt, ord_max}
use Rattle.std.proofs.lemmas.Bool.{cases_Bool}
use Rattle.std.proofs.lemmas.Bool.Decides.{nat_tests}
use Rattle.hlc_stamp.specs.Order.{IsAtMost, IsBelow, Pair, stamp_cmp}
use Rattle.hlc_stamp.proofs.OrderLaws.{at_most_from_below, at_most_itself}
use Rattle.hlc_causality.specs.Feasible.{Follows}
use Rattle.hlc_causality.specs.LeastFeasible.{next_pair}
use Rattle.hlc_causality.proofs.Pairs.{reading_at_most}
use Rattle.hlc_causes.specs.Rule.{next_l}
use Rattle.hlc_causes.specs.Verdicts.{follows}

pub below_from_test : (p q : Pair) → is_lt (stamp_cmp p q) ≡ true → IsBelow p q
below_from_test p q test = grind (arith, nat_tests, test)

pub below_is_tested : (p q : Pair) → IsBelow p q → is_lt (stamp_cmp p q) ≡ true
below_is_tested p q below = grind (arith, nat_tests, below)

-- one pair is at least another by the test
pub no_less : (p q : Pair) → is_lt (stamp_cmp p q) ≡ false → IsAtMost q p
no_less p q test = grind (arith, nat_tests, test)

pub no_less_is_tested : (p q : Pair) → IsAtMost q p → is_lt (stamp_cmp p q) ≡ false
no_less_is_tested p q low = grind (arith, nat_tests, low)

pub at_most_from_test : (p q : Pair) → is_le (stamp_cmp p q) ≡ true → IsAtMost p q
at_most_from_test p q test = grind (arith, nat_tests, test)

at_most_is_tested : (p q : Pair) → IsAtMost p q → is_le (stamp_cmp p q) ≡ true
at_most_is_tested p q low = grind (arith, nat_tests, low)

pub above_from_test : (p q : Pair) → is_le (stamp_cmp p q) ≡ false → IsBelow q p
above_from_test p q test = grind (arith, nat_tests, test)

above_is_tested : (p q : Pair) → IsBelow q p → is_le (stamp_cmp p q) ≡ false
above_is_tested p q above = grind (arith, nat_tests, above)

pub below_or_at_most : (p q : Pair) → IsBelow p q ⊎ IsAtMost q p
below_or_at_most p q =
    elim (cases_Bool (is_lt (stamp_cmp p q))) [
      | inl test ↦ inl (below_from_test p q test)
      | inr test ↦ inr (no_less p q test)
    ]

pub not_below_itself : (p : Pair) → ¬ IsBelow p p
not_below_itself p below = grind arith

pub not_below_if_at_most : (p q : Pair) → IsAtMost q p → ¬ IsBelow p q
not_below_if_at_most p q low below = grind arith

-- r is the greater of two pairs
pub record IsGreaterOf (p q r : Pair) : Type 0 where
  pub left : IsAtMost p r
  pub right : IsAtMost q r
  pub least : (x : Pair) → IsAtMost p x → IsAtMost q x → IsAtMost r x

greater_is : (p q : Pair) → IsGreaterOf p q (ord_max stamp_cmp p q)
greater_is p q =
    elim (cases_Bool (is_lt (stamp_cmp q p))) [
      | inl test ↦
          rw test (record { left = at_most_itself p; right = at_most_from_below q p (below_from_test q p test); least = λ x a b. a })
      | inr test ↦ rw test (record { left = no_less q p test; right = at_most_itself q; least = λ x a b. b })
    ]

pub greater_of : (p q r : Pair) → r ≡ ord_max stamp_cmp p q → IsGreaterOf p q r
greater_of p q r is = subst (λ (x : Pair). IsGreaterOf p q x) (sym is) (greater_is p q)

-- what may come directly after a pair
pub follows_from_test : (ticks : Bool) (p q : Pair) → follows ticks p q ≡ true → Follows ticks p q
follows_from_test true p q test = below_from_test p q test
follows_from_test false p q test = at_most_from_test p q test

pub follows_is_tested : (ticks : Bool) (p q : Pair) → Follows ticks p q → follows ticks p q ≡ true
follows_is_tested true p q after = below_is_tested p q after
follows_is_tested false p q after = at_most_is_tested p q after

pub follows_if_below : (ticks : Bool) (p q : Pair) → IsBelow p q → Follows ticks p q
follows_if_below true p q below = below
follows_if_below false p q below = grind arith

pub next_follows : (ticks : Bool) (p : Pair) → Follows ticks p (next_pair ticks p)
next_follows true p = grind arith
next_follows false p = grind arith

pub next_l_of_next : (ticks : Bool) (p : Pair) → next_l (next_pair ticks p) ≡ next_l p
next_l_of_next true p = refl
next_l_of_next false p = refl

-- an event unless a pair is above that one's is the event if it is at most that one's
pub unless_above : (p q : Pair) (d : ℕ) → cond (is_lt (stamp_cmp p q)) None (Some d) ≡ cond (is_le (stamp_cmp q p)) (Some d) None
unless_above p q d =
    elim (cases_Bool (is_lt (stamp_cmp p q))) [
      | inl test ↦
          let other : is_le (stamp_cmp q p) ≡ false = above_is_tested q p (below_from_test p q test) in
          rw (test, other) refl
      | inr test ↦
          let other : is_le (stamp_cmp q p) ≡ true = at_most_is_tested q p (no_less p q test) in
          rw (test, other) refl
    ]

-- a pair is below one with c 0 if its l is less
pub below_reading : (p : Pair) (n : ℕ) → is_lt (stamp_cmp p (record { l = n; c = 0 })) ≡ nat_lt p.l n
below_reading p n =
    let start : Pair = record { l = n; c = 0 } in
    elim (cases_Bool (nat_lt p.l n)) [
      | inl test ↦ let less : p.l < n = grind (arith, nat_tests, test) in below_is_tested p start (inl less) ∙ sym test
      | inr test ↦ no_less_is_tested p start (reads test) ∙ sym test
    ]
  where
    reads : nat_lt p.l n ≡ false → IsAtMost (record { l = n; c = 0 }) p
    reads test = let low : n ≤ p.l = grind (arith, nat_tests, test) in reading_at_most n p low
