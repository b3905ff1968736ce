-- The least pair that can be written at an event, and a counter that rolls over.
use Rattle.std.proofs.Common.{◌≡◌, ◌≢◌, ◌∙◌, ℕ, ◌==◌, ◌<◌, ◌≤◌, ◌⊎◌, ◌&&◌, true, false, inl, inr, List, length, arith, subst, sym, ap}
use Rattle.std.proofs.lemmas.Bool.{cases_lt}
use Rattle.std.proofs.lemmas.Bool.Decides.{nat_tests}
use Rattle.hlc_stamp.specs.Order.{IsAtMost, IsBelow, Pair}
use Rattle.hlc_stamp.proofs.OrderLaws.{at_most_trans}
use Rattle.hlc_causality.specs.Assignment.{pair_at}
use Rattle.hlc_causality.specs.ClockEvents.{ClockEvents, clock_event_at}
use Rattle.hlc_causality.specs.Feasible.{IsFeasibleAt, IsLeastFeasibleAt}
use Rattle.hlc_causality.specs.LeastFeasible.{least_feasible_at}
use Rattle.hlc_causality.proofs.Feasible.{least_feasible_at_is}
use Rattle.hlc_causality.proofs.NextPairs.{follows_at_most}
use Rattle.hlc_causality.proofs.Pairs.{at_most_antisymm}
use Rattle.hlc_causes.specs.Causes.{IsAheadOf, IsLeastWritten, KeepsRule, RollsOver, top_at}
use Rattle.hlc_causes.specs.Rule.{next_l}

-- what the test of two stamps tells
same_numbers : (p q : Pair) → ((p.l == q.l) && (p.c == q.c)) ≡ true → (p.l ≡ q.l) × (p.c ≡ q.c)
same_numbers p q test = grind (arith, nat_tests, test)

pub same_stamps : (p q : Pair) → ((p.l == q.l) && (p.c == q.c)) ≡ true → p ≡ q
same_stamps p q test = let same = same_numbers p q test in λ i. record { l = same.0 i; c = same.1 i }

pub other_stamps : (p q : Pair) → ((p.l == q.l) && (p.c == q.c)) ≡ false → p ≢ q
other_stamps p q test same =
    let l : p.l ≡ q.l = ap (λ (x : Pair). x.l) same in
    let c : p.c ≡ q.c = ap (λ (x : Pair). x.c) same in
    grind (arith, nat_tests, test, l, c)

-- a pair is no greater than another one: it is the same, or below
pub same_or_below : (p q : Pair) → IsAtMost p q → (p ≡ q) ⊎ IsBelow p q
same_or_below p q (inl less) = inr (inl less)
same_or_below p q (inr same) =
    elim (cases_lt p.c q.c) [
      | inl less ↦ inr (inr (same.0, less))
      | inr more ↦ inl (at_most_antisymm p q (inr same) (inr (sym same.0, more)))
    ]

at_most_next : (p : Pair) → IsAtMost p (next_l p)
at_most_next p = grind arith

-- what is at least p, with a smaller c, is at least the pair with the next l
next_at_most : (p q : Pair) → IsAtMost p q → q.c < p.c → IsAtMost (next_l p) q
next_at_most p q low less = grind arith

module _ (t : ClockEvents) (claimed : List Pair) (f : ℕ) where
  -- what is at least a feasible pair is feasible
  pub feasible_up : (p q : Pair) → IsFeasibleAt t claimed f p → IsAtMost p q → IsFeasibleAt t claimed f q
  feasible_up p q feasible low =
      let x = clock_event_at t f in
      record {
        not_below = at_most_trans x.floor p q feasible.not_below low;
        follows = λ d direct. follows_at_most x.ticks (pair_at claimed d) p q (feasible.follows d direct) low;
      }

  -- there is one least pair
  pub rule_exists : f < length t → (p : Pair) × IsLeastFeasibleAt t claimed f p
  rule_exists exists = (least_feasible_at t claimed f, least_feasible_at_is t claimed f exists)

  pub rule_is_unique : (p q : Pair) → IsLeastFeasibleAt t claimed f p → IsLeastFeasibleAt t claimed f q → p ≡ q
  rule_is_unique p q a b = at_most_antisymm p q (a.least q b.feasible) (b.least p a.feasible)

  -- the rule's pair is the least that can be written, if its c can be
  pub rule_written : (top : ℕ) (p : Pair) → IsLeastFeasibleAt t claimed f p → p.c ≤ top → IsLeastWritten t claimed top f p
  rule_written top p rule fits = record {
    feasible = rule.feasible;
    written = fits;
    least = λ q feasible _. rule.least q feasible;
  }

  -- and else the pair with the next l is
  pub next_written : (top : ℕ) (p : Pair) → IsLeastFeasibleAt t claimed f p → top < p.c → IsLeastWritten t claimed top f (next_l p)
  next_written top p rule full = record {
    feasible = feasible_up p (next_l p) rule.feasible (at_most_next p);
    written = omega arith;
    least = λ q feasible fits. next_at_most p q (rule.least q feasible) (omega arith);
  }

  pub written_exists : (top : ℕ) → f < length t → (p : Pair) × IsLeastWritten t claimed top f p
  written_exists top exists =
      let rule = rule_exists exists in
      elim (cases_lt top rule.0.c) [
        | inl full ↦ (next_l rule.0, next_written top rule.0 rule.1 full)
        | inr fits ↦ (rule.0, rule_written top rule.0 rule.1 fits)
      ]

  pub written_is_unique : (top : ℕ) (p q : Pair) → IsLeastWritten t claimed top f p → IsLeastWritten t claimed top f q → p ≡ q
  written_is_unique top p q a b = at_most_antisymm p q (a.least q b.feasible b.written) (b.least p a.feasible a.written)

  -- the rule's stamp and a rollover keep the rule
  pub rule_is_kept : (full : ℕ) → IsLeastFeasibleAt t claimed f (pair_at claimed f) → KeepsRule t claimed full f
  rule_is_kept full rule = rule_written (top_at claimed full f) (pair_at claimed f) rule (omega arith)

  pub rollover_is_kept : (full : ℕ) → RollsOver t claimed full f → KeepsRule t claimed full f
  rollover_is_kept full (p, rolls) =
      let no_c : (pair_at claimed f).c ≡ 0 = ap (λ (x : Pair). x.c) rolls.next in
      let too_great : full < p.c = rolls.too_great in
      let full_there : top_at claimed full f < p.c = omega arith in
      subst (λ (x : Pair). IsLeastWritten t claimed (top_at claimed full f) f x) (sym rolls.next)
      (next_written (top_at claimed full f) p rolls.rule full_there)

  -- and no other does
  pub kept_by_rule_or_rollover : (full : ℕ) → f < length t → KeepsRule t claimed full f →
      IsLeastFeasibleAt t claimed f (pair_at claimed f) ⊎ RollsOver t claimed full f
  kept_by_rule_or_rollover full exists kept =
      let top = top_at claimed full f in
      let rule = rule_exists exists in
      elim (cases_lt top rule.0.c) [
        | inl over ↦
            inr (
              rule.0,
              record {
                rule = rule.1;
                too_great = omega arith;
                next = written_is_unique top (pair_at claimed f) (next_l rule.0) kept (next_written top rule.0 rule.1 over);
              },
            )
        | inr fits ↦
            let same = written_is_unique top rule.0 (pair_at claimed f) (rule_written top rule.0 rule.1 fits) kept in
            inl (subst (λ (x : Pair). IsLeastFeasibleAt t claimed f x) same rule.1)
      ]

  -- a rollover isn't the rule's
  pub rollover_is_not_rule : (full : ℕ) → RollsOver t claimed full f → ¬ IsLeastFeasibleAt t claimed f (pair_at claimed f)
  rollover_is_not_rule full (p, rolls) rule =
      let same : p ≡ pair_at claimed f = rule_is_unique p (pair_at claimed f) rolls.rule rule in
      let no_c : p.c ≡ 0 = ap (λ (x : Pair). x.c) (same ∙ rolls.next) in
      let too_great : full < p.c = rolls.too_great in
      omega arith

  -- a feasible stamp is the least that can be written, or ahead of it
  pub ahead_unless_same : (full : ℕ) (p : Pair) → IsLeastWritten t claimed (top_at claimed full f) f p →
      IsFeasibleAt t claimed f (pair_at claimed f) → p ≢ pair_at claimed f → IsAheadOf t claimed full f p
  ahead_unless_same full p least fit other =
      elim (same_or_below p (pair_at claimed f) (least.least (pair_at claimed f) fit (omega arith))) [
        | inl same ↦ absurd (other same)
        | inr below ↦ record { least = least; ahead = below }
      ]
