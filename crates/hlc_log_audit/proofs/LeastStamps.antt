-- If no stamp has another verdict than Least, all that are claimed are the least ones, and no event is a cause.
use Rattle.std.proofs.Common.{◌≡◌, ◌∙◌, Bool, true, cond, false, ℕ, ◌<◌, inl, inr, List, length, Option, Some, None, arith, refl, sym, subst, ap}
use Rattle.std.specs.Prelude.{count_by, slice_index_or}
use Rattle.std.specs.declared.cmp.Ordering.{Ordering}
use Rattle.std.specs.declared.cmp.Ordering.TheVariants.{Equal, Greater, Less}
use Rattle.std.specs.Ordering.{is_lt, nat_cmp, ordering_then}
use Rattle.std.proofs.lemmas.Bool.{cases_Bool}
use Rattle.std.proofs.lemmas.Cmp.{ranked}
use Rattle.hlc_stamp.specs.Order.{Pair, stamp_cmp}
use Rattle.hlc_causality.specs.Assignment.{pair_at}
use Rattle.hlc_causality.specs.ClockEvents.{ClockEvents, clock_event_at}
use Rattle.hlc_verdict.specs.declared.verdict.Verdict.TheVariants as verdict
use Rattle.hlc_verdict.specs.Verdict.{not_above_or, verdict_by_least}
use Rattle.hlc_causes.specs.Causes.{NamesCauses, no_causes}
use Rattle.hlc_causes.specs.Verdicts.{first_not_above, verdict_on}
use Rattle.hlc_causes.specs.declared.answers.Finding.{Finding}
use Rattle.hlc_causes.specs.declared.answers.Finding.TheVariants.{RolledOver, Judged}
use Rattle.hlc_ordered_log.specs.Counts.{AreCounted, is_ahead, is_behind, is_low, is_not_above, is_rolled_over, no_findings}
use Rattle.hlc_ordered_log.specs.Found.{FindsAt, NamesCausesAt, NamesCausesIn, wrong_at}
use Rattle.hlc_ordered_log.specs.InOrder.{IsCarriedRightly, IsInOrder, LogInOrder, claimed_of, clocks_of, seen_of, stamp_told, wrong_of}
use Rattle.hlc_ordered_log.proofs.CleanLogs.{claims_are_all_least, claims_are_least, none_is_named, seen_here, seen_is_claimed}
use Rattle.hlc_ordered_log.proofs.Found.{told_has_all, told_or_not, untold_has_none}
use Rattle.hlc_ordered_log.specs.declared.counts.Counts.{Counts}
use Rattle.hlc_ordered_log.proofs.EventsInOrder.{length-clocks_of}
use Rattle.hlc_log.specs.OrderSkeleton.{index_in}
use Rattle.hlc_log.proofs.OrderSkeletons.{length-skeleton_in, place_of_index}
use Rattle.hlc_log_audit.specs.Audit.{CarriesWrongly}
use Rattle.hlc_log_audit.proofs.BrokenStamps.{there_is_counted}

-- a verdict of Least is given only if the claimed stamp is the least one
equal_only : (least : Pair) (o : Ordering) (first : Option ℕ) → not_above_or first (verdict_by_least least o) ≡ verdict.Least → o ≡ Equal
equal_only least o (Some d) is = absurd cc
equal_only least Less None is = absurd cc
equal_only least Equal None is = refl
equal_only least Greater None is = absurd cc

both_equal : (a b : Ordering) → ordering_then a b ≡ Equal → (a ≡ Equal) × (b ≡ Equal)
both_equal Less b is = absurd cc
both_equal Equal b is = (refl, is)
both_equal Greater b is = absurd cc

equal_stamps : (p q : Pair) → stamp_cmp p q ≡ Equal → p ≡ q
equal_stamps p q is =
    let both = both_equal (nat_cmp p.l q.l) (nat_cmp p.c q.c) is in
    let l : p.l ≡ q.l = ranked p.l q.l Equal (sym both.0) in
    let c : p.c ≡ q.c = ranked p.c q.c Equal (sym both.1) in
    λ i. record { l = l i; c = c i }

same_where_least : (t : ClockEvents) (claimed least : List Pair) (f : ℕ) → verdict_on t claimed least f ≡ verdict.Least
    → pair_at claimed f ≡ pair_at least f
same_where_least t claimed least f is = by_test (is_lt (stamp_cmp (pair_at claimed f) (clock_event_at t f).floor)) is
  where
    by_test : (test : Bool)
        → cond test verdict.Behind (not_above_or (first_not_above t claimed f)
        (verdict_by_least (pair_at least f) (stamp_cmp (pair_at claimed f) (pair_at least f)))) ≡ verdict.Least
        → pair_at claimed f ≡ pair_at least f
    by_test true is = absurd cc
    by_test false is = equal_stamps (pair_at claimed f) (pair_at least f)
        (equal_only (pair_at least f) (stamp_cmp (pair_at claimed f) (pair_at least f)) (first_not_above t claimed f) is)

-- an event of a log that claims the least stamps is no cause
module _ (log : LogInOrder) (ordered : IsInOrder log) (right : IsCarriedRightly log) (same : claimed_of log ≡ log.least) (full : ℕ) where
  pub none_broken : (k : ℕ) → k < length log.order → NamesCausesIn log full k no_causes
  none_broken k within =
      let exists : k < length (clocks_of log) = omega (arith, within, length-clocks_of log, length-skeleton_in log.events log.order ordered.causal) in
      elim (cases_Bool (stamp_told log k)) [
        | inl told ↦
            told_has_all log full k no_causes told
            (subst (λ (pairs : List Pair). NamesCauses (clocks_of log) pairs full k no_causes) (sym (seen_is_claimed log ordered right k exists))
            (none_is_named (clocks_of log) (claimed_of log) (claims_are_least log ordered same) full k exists))
        | inr untold ↦ untold_has_none log full k no_causes refl untold
      ]

-- a log whose counts have no other verdict, and whose messages carried what it claims
module _ (log : LogInOrder) (ordered : IsInOrder log) (right : IsCarriedRightly log) (full : ℕ) (counts : Counts) (are : AreCounted log full counts)
    (all : counts ≡ record no_findings { least = counts.least }) where
  abbrev findings : List (Option Finding)
  findings = are.0

  -- what is counted of none isn't found
  not_found : (p : Option Finding → Bool) → count_by p findings ≡ 0 → (k : ℕ) → k < length log.order → {X : Type 0}
      → p (slice_index_or findings k None) ≡ true → X
  not_found p none k lt holds =
      let size = are.1.one_each in
      let some = there_is_counted p findings None k (omega arith) holds in
      absurd (omega arith)

  least_found : (k : ℕ) → k < length log.order → (f : Option Finding) → slice_index_or findings k None ≡ f → stamp_told log k ≡ true → FindsAt log full k f
      → verdict_on (clocks_of log) (seen_of log k) log.least k ≡ verdict.Least
  least_found k lt None is told untold = told_or_not log full k told untold
  least_found k lt (Some (Judged verdict.Behind)) is told named =
      not_found is_behind (sym (ap (λ (c : Counts). c.behind) are.2) ∙ ap (λ (c : Counts). c.behind) all) k lt (ap is_behind is)
  least_found k lt (Some (Judged (verdict.NotAbove d))) is told named =
      not_found is_not_above (sym (ap (λ (c : Counts). c.not_above) are.2) ∙ ap (λ (c : Counts). c.not_above) all) k lt (ap is_not_above is)
  least_found k lt (Some (Judged (verdict.Low p))) is told named =
      not_found is_low (sym (ap (λ (c : Counts). c.low) are.2) ∙ ap (λ (c : Counts). c.low) all) k lt (ap is_low is)
  least_found k lt (Some (Judged verdict.Least)) is told (_, named) = sym named.0
  least_found k lt (Some (Judged (verdict.Ahead p))) is told named =
      not_found is_ahead (sym (ap (λ (c : Counts). c.ahead) are.2) ∙ ap (λ (c : Counts). c.ahead) all) k lt (ap is_ahead is)
  least_found k lt (Some RolledOver) is told named =
      not_found is_rolled_over (sym (ap (λ (c : Counts). c.rolled_over) are.2) ∙ ap (λ (c : Counts). c.rolled_over) all) k lt (ap is_rolled_over is)

  -- so it claims the least stamps
  all_least : claimed_of log ≡ log.least
  all_least = claims_are_all_least log ordered right (λ k within told before.
      ap (λ (pairs : List Pair). pair_at pairs k) (sym (seen_here log ordered right k within))
      ∙ same_where_least (clocks_of log) (seen_of log k) log.least k
      (least_found k within (slice_index_or findings k None) refl told (are.1.each k within)))

  pub no_cause_at : (e : ℕ) → NamesCausesAt log full e no_causes
  no_cause_at e k within here = none_broken log ordered right all_least full k within

none_if : {X : Type 0} (o : Option X) → ((d : X) → ¬ (o ≡ Some d)) → o ≡ None
none_if None each = refl
none_if (Some d) each = absurd (each d refl)

-- if no message carried another stamp, each carried the right one
pub carried_rightly : (log : LogInOrder) → ¬ CarriesWrongly log → IsCarriedRightly log
carried_rightly log not k within = none_if (wrong_of log k) (λ d is. not (k, d, within, is))

-- so no place has a row of it
pub none_wrong_at : (log : LogInOrder) → IsInOrder log → IsCarriedRightly log → (e : ℕ) → e < length log.events → wrong_at log e ≡ None
none_wrong_at log ordered right e exists = right (index_in log.order e) (place_of_index log.events log.order ordered.causal e exists).0
