-- The laws of causes.
use Rattle.std.proofs.Common.{◌≡◌, ◌≢◌, ◌∙◌, Bool, true, false, cond, ℕ, zero, suc, ◌<◌, ◌≤◌, ◌⊎◌, inl, inr, List, [], length}
use Rattle.std.proofs.Common.{Option, Some, None, arith, refl, subst, sym, ap}
use Rattle.std.specs.Prelude.{◌↔◌, IsTrue, is_some, option_map}
use Rattle.std.specs.Option.{option_or}
use Rattle.std.specs.Ordering.{is_lt}
use Rattle.std.specs.declared.cmp.Ordering.{Ordering}
use Rattle.std.specs.declared.cmp.Ordering.TheVariants.{Equal, Greater, Less}
use Rattle.std.proofs.lemmas.Bool.{cases_lt}
use Rattle.std.proofs.lemmas.Bool.Decides.{nat_tests}
use Rattle.hlc_stamp.specs.declared.id.EventId.{EventId}
use Rattle.hlc_stamp.specs.Order.{IsAtMost, IsBelow, Pair, stamp_cmp}
use Rattle.hlc_causality.specs.Assignment.{pair_at}
use Rattle.hlc_causality.specs.Causality.{HappenedBefore, IsDirectPredecessor, IsPrevious, IsSendOf, Skeleton}
use Rattle.hlc_causality.specs.ClockEvents.{ClockEvents, clock_event_at, clock_skeleton}
use Rattle.hlc_causality.specs.Feasible.{Follows, IsFeasibleAt, IsLeastFeasible, IsLeastFeasibleAt}
use Rattle.hlc_causality.specs.Neighbours.{place_of}
use Rattle.hlc_causality.specs.Past.{IsInPast}
use Rattle.hlc_causality.proofs.Feasible.{least_feasible_from_each}
use Rattle.hlc_causality.proofs.LeastFeasible.{each_from_least_feasible, least_feasible_place_by_place}
use Rattle.hlc_causality.proofs.NextPairs.{at_most_follows}
use Rattle.hlc_causality.proofs.Pairs.{below_at_most}
use Rattle.hlc_causality.proofs.Past.{direct_happened_before, past_trans}
use Rattle.hlc_causality.proofs.Predecessors.{direct_earlier, previous_is_unique, previous_or_first, send_is_unique, send_or_none}
use Rattle.hlc_verdict.specs.declared.verdict.Verdict.{Verdict}
use Rattle.hlc_verdict.specs.declared.verdict.Verdict.TheVariants.{Ahead as AheadVerdict, Behind as BehindVerdict, Least, Low, NotAbove as NotAboveVerdict}
use Rattle.hlc_verdict.specs.Verdict.{not_above_or, verdict_by_least}
use Rattle.hlc_verdict.specs.VerdictLaws.{IsInOrder}
use Rattle.hlc_causes.specs.declared.answers.Cause.{Cause}
use Rattle.hlc_causes.specs.declared.answers.Cause.TheVariants.{Ahead, Behind, NotAbovePrevious, NotAboveSend}
use Rattle.hlc_causes.specs.declared.answers.Causes.{Causes}
use Rattle.hlc_causes.specs.CauseLaws.{AheadIsAlone, AheadNamesTheRulesStamp, BehindIsCause, CausesAreNamed, CausesAreUnique, CausesBreakTheRule, CausesExplainVerdicts, IsCauseOrRollover, LowHeardOfDisorder, LowIsCauseIfAhead, NoCauseIsLeast, NoCauseKeepsRule, NoEventsAreLeast, NotAboveIsCause}
use Rattle.hlc_causes.specs.Causes.{BreaksRule, HasCause, IsAheadOf, IsBehind, RollsOver, IsCause, IsFirstOf, IsLeastWritten, IsNotAbovePrevious, IsNotAboveSend, KeepsRule, NamesAhead, NamesCauses, no_causes, rank, top_at}
use Rattle.hlc_causes.specs.Rule.{next_l}
use Rattle.hlc_causes.specs.Verdicts.{first_not_above, verdict_on}
use Rattle.hlc_causes.proofs.Disorder.{IsFit, IsReached, exists_there, fit_in_order, in_order_if_fit, neither_of, previous_if_not_above, send_if_not_above}
use Rattle.hlc_causes.proofs.Tests.{below_from_test, below_is_tested, below_or_at_most, no_less, no_less_is_tested, not_below_if_at_most, not_below_itself}
use Rattle.hlc_causes.proofs.Written.{feasible_up, rollover_is_kept, rollover_is_not_rule, kept_by_rule_or_rollover, next_written, rule_is_kept, rule_is_unique, rule_written, same_or_below, written_exists, written_is_unique}
use Rattle.hlc_stamp.proofs.OrderLaws.{at_most_from_below}

-- what is the same exactly if one of two is, is the same in both
same_tests : (a b : Bool) → (a ≡ true → b ≡ true) → (b ≡ true → a ≡ true) → a ≡ b
same_tests true b there back = sym (there refl)
same_tests false true there back = back refl
same_tests false false there back = refl

same_answers : {X : Type 0} (a b : Option X) → ((x : X) → a ≡ Some x → b ≡ Some x) → ((x : X) → b ≡ Some x → a ≡ Some x) → a ≡ b
same_answers (Some x) b there back = sym (there x refl)
same_answers None (Some x) there back = back x refl
same_answers None None there back = refl

-- an event, by its place
abbrev pub event_of : ℕ → EventId
event_of n = record { 0 = n }

pub named_is : (o : Option ℕ) (d : EventId) → (option_map event_of o ≡ Some d) ↔ (o ≡ Some d.0)
named_is None d = (λ is. absurd cc, λ is. absurd cc)
named_is (Some n) d = (
  λ is. let same : ◌≡◌ {A = EventId} (record { 0 = n }) d = cc in ap (λ (x : EventId). Some x.0) same,
  λ is. let same : n ≡ d.0 = cc in ap (λ (x : ℕ). Some (event_of x)) same,
)

-- the test of a stamp and a floor tells whether it is behind
module _ (t : ClockEvents) (claimed : List Pair) (f : ℕ) (p low : Pair) (test : Bool) (is : p ≡ pair_at claimed f)
    (is_floor : low ≡ (clock_event_at t f).floor) (told : test ≡ is_lt (stamp_cmp p low)) where
  test_is : test ≡ is_lt (stamp_cmp (pair_at claimed f) (clock_event_at t f).floor)
  test_is = told ∙ ap (λ (q : Pair). is_lt (stamp_cmp q low)) is ∙ ap (λ (q : Pair). is_lt (stamp_cmp (pair_at claimed f) q)) is_floor

  pub behind_tested : IsTrue test ↔ IsBehind t claimed f
  behind_tested = (
    λ yes. below_from_test (pair_at claimed f) (clock_event_at t f).floor (sym test_is ∙ yes),
    λ behind. test_is ∙ below_is_tested (pair_at claimed f) (clock_event_at t f).floor behind,
  )

  pub reached_tested : test ≡ false → IsReached t claimed f
  reached_tested other = no_less (pair_at claimed f) (clock_event_at t f).floor (sym test_is ∙ other)

module _ (t : ClockEvents) (claimed : List Pair) (full f : ℕ) (exists : f < length t) where
  -- what is at least a pair that can be given isn't in disorder
  fit_above : (p : Pair) → IsAheadOf t claimed full f p → IsFit t claimed f
  fit_above p ahead =
      let own = pair_at claimed f in
      feasible_up t claimed f p own ahead.least.feasible (at_most_from_below p own ahead.ahead)

  not_behind_if_fit : IsFit t claimed f → ¬ BreaksRule t claimed full f Behind
  not_behind_if_fit fit behind = not_below_if_at_most (pair_at claimed f) (clock_event_at t f).floor fit.not_below behind

  neither_if_fit : IsFit t claimed f → (previous_if_not_above t claimed f ≡ None) × (send_if_not_above t claimed f ≡ None)
  neither_if_fit fit =
      neither_of (previous_if_not_above t claimed f) (send_if_not_above t claimed f) (in_order_if_fit t claimed f exists fit)

  above_previous_if_fit : (d : EventId) → IsFit t claimed f → ¬ BreaksRule t claimed full f (NotAbovePrevious d)
  above_previous_if_fit d fit broken =
      let none = (neither_if_fit fit).0 in
      let some : previous_if_not_above t claimed f ≡ Some d.0 = broken in
      cc

  above_send_if_fit : (d : EventId) → IsFit t claimed f → ¬ BreaksRule t claimed full f (NotAboveSend d)
  above_send_if_fit d fit broken =
      let none = (neither_if_fit fit).1 in
      let some : send_if_not_above t claimed f ≡ Some d.0 = broken in
      cc

  not_ahead_if_kept : (p : Pair) → KeepsRule t claimed full f → ¬ BreaksRule t claimed full f (Ahead p)
  not_ahead_if_kept p kept ahead =
      let own = pair_at claimed f in
      let same : p ≡ own = written_is_unique t claimed f (top_at claimed full f) p own ahead.least kept in
      not_below_itself own (subst (λ (q : Pair). IsBelow q own) same ahead.ahead)

  -- what keeps the rule doesn't break it
  pub kept_is_no_cause : (cause : Cause) → KeepsRule t claimed full f → ¬ BreaksRule t claimed full f cause
  kept_is_no_cause Behind kept = not_behind_if_fit kept.feasible
  kept_is_no_cause (NotAbovePrevious d) kept = above_previous_if_fit d kept.feasible
  kept_is_no_cause (NotAboveSend d) kept = above_send_if_fit d kept.feasible
  kept_is_no_cause (Ahead p) kept = not_ahead_if_kept p kept

  -- a stamp that is feasible is the least that can be written, or ahead of it
  kept_or_ahead : IsFit t claimed f → KeepsRule t claimed full f ⊎ ((p : Pair) × IsAheadOf t claimed full f p)
  kept_or_ahead fit =
      let top = top_at claimed full f in
      let own = pair_at claimed f in
      let least = written_exists t claimed f top exists in
      elim (same_or_below least.0 own (least.1.least own fit (omega arith))) [
        | inl same ↦ inl (subst (λ (p : Pair). IsLeastWritten t claimed top f p) same least.1)
        | inr below ↦ inr (least.0, record { least = least.1; ahead = below })
      ]

  -- a stamp is feasible, or breaks one of the first three rules
  fit_by_both : IsReached t claimed f → (previous send : Option ℕ) → previous_if_not_above t claimed f ≡ previous
      → send_if_not_above t claimed f ≡ send → IsFit t claimed f ⊎ IsCause t claimed full f
  fit_by_both reads (Some d) send is_previous is_send = inr (NotAbovePrevious (event_of d), is_previous)
  fit_by_both reads None (Some d) is_previous is_send = inr (NotAboveSend (event_of d), is_send)
  fit_by_both reads None None is_previous is_send = inl (fit_in_order t claimed f exists reads (rw (is_previous, is_send) refl))

  fit_or_cause : IsFit t claimed f ⊎ IsCause t claimed full f
  fit_or_cause =
      elim (below_or_at_most (pair_at claimed f) (clock_event_at t f).floor) [
        | inl behind ↦ inr (Behind, behind)
        | inr reads ↦ fit_by_both reads (previous_if_not_above t claimed f) (send_if_not_above t claimed f) refl refl
      ]

  kept_or_cause : KeepsRule t claimed full f ⊎ IsCause t claimed full f
  kept_or_cause = elim fit_or_cause [
    | inr cause ↦ inr cause
    | inl fit ↦ elim (kept_or_ahead fit) [ inl kept ↦ inl kept | inr ahead ↦ inr (Ahead ahead.0, ahead.1) ]
  ]

  no_cause_is_kept : ((cause : Cause) → ¬ BreaksRule t claimed full f cause) ↔ KeepsRule t claimed full f
  no_cause_is_kept = (
    λ none. elim kept_or_cause [ inl kept ↦ kept | inr cause ↦ absurd (none cause.0 cause.1) ],
    λ kept cause. kept_is_no_cause cause kept,
  )

  -- there is an answer
  same_ahead : (p q : Pair) → IsAheadOf t claimed full f p → IsAheadOf t claimed full f q → p ≡ q
  same_ahead p q h k = written_is_unique t claimed f (top_at claimed full f) p q h.least k.least

  pub ahead_named : (p : Pair) → IsAheadOf t claimed full f p → NamesAhead t claimed full f (Some p)
  ahead_named p ahead q = (
    λ is. let same : p ≡ q = cc in subst (λ (x : Pair). IsAheadOf t claimed full f x) same ahead,
    λ other. ap (λ (x : Pair). Some x) (same_ahead p q ahead other),
  )

  pub none_ahead : ((p : Pair) → ¬ IsAheadOf t claimed full f p) → NamesAhead t claimed full f None
  none_ahead none q = (λ is. absurd cc, λ ahead. absurd (none q ahead))

  pub kept_not_ahead : KeepsRule t claimed full f → NamesAhead t claimed full f None
  kept_not_ahead kept = none_ahead (λ p. not_ahead_if_kept p kept)

  pub behind_not_ahead : BreaksRule t claimed full f Behind → NamesAhead t claimed full f None
  behind_not_ahead behind = none_ahead (λ p ahead. not_behind_if_fit (fit_above p ahead) behind)

  pub disorder_not_ahead : (found : Option EventId) → first_not_above t claimed f ≡ place_of found → is_some found ≡ true → NamesAhead t claimed full f None
  disorder_not_ahead None first test = absurd cc
  disorder_not_ahead (Some d) first test = none_ahead (λ p ahead.
      let none : first_not_above t claimed f ≡ None = in_order_if_fit t claimed f exists (fit_above p ahead) in
      cc)

  not_both : (cause : Cause) → IsFit t claimed f → BreaksRule t claimed full f cause → (p : Pair) × (cause ≡ Ahead p) × IsAheadOf t claimed full f p
  not_both Behind fit broken = absurd (not_behind_if_fit fit broken)
  not_both (NotAbovePrevious d) fit broken = absurd (above_previous_if_fit d fit broken)
  not_both (NotAboveSend d) fit broken = absurd (above_send_if_fit d fit broken)
  not_both (Ahead p) fit broken = (p, refl, broken)

  alone : (p : Pair) (cause : Cause) → BreaksRule t claimed full f (Ahead p) → BreaksRule t claimed full f cause → cause ≡ Ahead p
  alone p cause ahead broken =
      let found = not_both cause (fit_above p ahead) broken in
      found.1 ∙ ap (λ (q : Pair). Ahead q) (same_ahead found.0 p found.2 ahead)

  ahead_exists : (answer : Option Pair) × NamesAhead t claimed full f answer
  ahead_exists = elim fit_or_cause [
    | inl fit ↦
        elim (kept_or_ahead fit) [
          | inl kept ↦ (None, kept_not_ahead kept)
          | inr ahead ↦ (Some ahead.0, ahead_named ahead.0 ahead.1)
        ]
    | inr cause ↦ by_cause cause.0 cause.1
  ]
    where
      by_cause : (cause : Cause) → BreaksRule t claimed full f cause → (answer : Option Pair) × NamesAhead t claimed full f answer
      by_cause Behind broken = (None, behind_not_ahead broken)
      by_cause (NotAbovePrevious d) broken = (None, none_ahead (λ p ahead. above_previous_if_fit d (fit_above p ahead) broken))
      by_cause (NotAboveSend d) broken = (None, none_ahead (λ p ahead. above_send_if_fit d (fit_above p ahead) broken))
      by_cause (Ahead p) broken = (Some p, ahead_named p broken)

  -- what makes an answer one
  pub names_each : (causes : Causes) → (IsTrue causes.behind ↔ IsBehind t claimed f)
      → ((d : EventId) → (causes.not_above_previous ≡ Some d) ↔ IsNotAbovePrevious t claimed f d.0)
      → ((d : EventId) → (causes.not_above_send ≡ Some d) ↔ IsNotAboveSend t claimed f d.0)
      → NamesAhead t claimed full f causes.ahead → NamesCauses t claimed full f causes
  names_each causes behind previous send ahead Behind = behind
  names_each causes behind previous send ahead (NotAbovePrevious d) = previous d
  names_each causes behind previous send ahead (NotAboveSend d) = send d
  names_each causes behind previous send ahead (Ahead p) = ahead p

  none_is_had : (cause : Cause) → ¬ HasCause no_causes cause
  none_is_had Behind has = cc
  none_is_had (NotAbovePrevious d) has = cc
  none_is_had (NotAboveSend d) has = cc
  none_is_had (Ahead p) has = cc

  -- the answer if no rule is broken
  pub names_none : ((cause : Cause) → ¬ BreaksRule t claimed full f cause) → NamesCauses t claimed full f no_causes
  names_none none cause = (λ has. absurd (none_is_had cause has), λ broken. absurd (none cause broken))

  pub kept_names_none : KeepsRule t claimed full f → NamesCauses t claimed full f no_causes
  kept_names_none kept = names_none (λ cause. kept_is_no_cause cause kept)

  pub answer_exists : (answer : Causes) × NamesCauses t claimed full f answer
  answer_exists =
      let ahead = ahead_exists in
      let answer : Causes = record {
        behind = is_lt (stamp_cmp (pair_at claimed f) (clock_event_at t f).floor);
        not_above_previous = option_map event_of (previous_if_not_above t claimed f);
        not_above_send = option_map event_of (send_if_not_above t claimed f);
        ahead = ahead.0;
      } in (
        answer,
        names_each answer (behind_tested t claimed f (pair_at claimed f) (clock_event_at t f).floor _ refl refl refl)
            (named_is (previous_if_not_above t claimed f)) (named_is (send_if_not_above t claimed f))
            ahead.1,
      )

  -- what one answer names, another one does
  passed_on : (a b : Causes) → NamesCauses t claimed full f a → NamesCauses t claimed full f b → (cause : Cause) → HasCause a cause → HasCause b cause
  passed_on a b h k cause has = (k cause).1 ((h cause).0 has)

  one_answer : (a b : Causes) → NamesCauses t claimed full f a → NamesCauses t claimed full f b → a ≡ b
  one_answer a b h k =
      let there = passed_on a b h k in
      let back = passed_on b a k h in
      let behind = same_tests a.behind b.behind (there Behind) (back Behind) in
      let previous =
      same_answers a.not_above_previous b.not_above_previous (λ d. there (NotAbovePrevious d)) (λ d. back (NotAbovePrevious d)) in
      let send = same_answers a.not_above_send b.not_above_send (λ d. there (NotAboveSend d)) (λ d. back (NotAboveSend d)) in
      let ahead = same_answers a.ahead b.ahead (λ p. there (Ahead p)) (λ p. back (Ahead p)) in
      λ i. record { behind = behind i; not_above_previous = previous i; not_above_send = send i; ahead = ahead i }

  -- an event is a cause, a rollover, or has the rule's stamp
  pub rule_or_cause : IsLeastFeasibleAt t claimed f (pair_at claimed f) ⊎ IsCauseOrRollover t claimed full f
  rule_or_cause = elim kept_or_cause [
    | inl kept ↦ elim (kept_by_rule_or_rollover t claimed f full exists kept) [ inl rule ↦ inl rule | inr rolls ↦ inr (inr rolls) ]
    | inr cause ↦ inr (inl cause)
  ]

  pub cause_or_rollover_is_not_rule : IsCauseOrRollover t claimed full f → ¬ IsLeastFeasibleAt t claimed f (pair_at claimed f)
  cause_or_rollover_is_not_rule (inl cause) rule = kept_is_no_cause cause.0 (rule_is_kept t claimed f full rule) cause.1
  cause_or_rollover_is_not_rule (inr rolls) rule = rollover_is_not_rule t claimed f full rolls rule

  causes : IsCause t claimed full f → (¬ IsLeastFeasibleAt t claimed f (pair_at claimed f)) × (¬ RollsOver t claimed full f)
  causes cause = (
    cause_or_rollover_is_not_rule (inl cause),
    λ rolls. kept_is_no_cause cause.0 (rollover_is_kept t claimed f full rolls) cause.1,
  )

  cause_otherwise : ¬ IsLeastFeasibleAt t claimed f (pair_at claimed f) → ¬ RollsOver t claimed full f → IsCause t claimed full f
  cause_otherwise no_rule not_rolled_over = elim rule_or_cause [
    | inl rule ↦ absurd (no_rule rule)
    | inr reason ↦ elim reason [ inl cause ↦ cause | inr rolls ↦ absurd (not_rolled_over rolls) ]
  ]

pub causes_are_named : CausesAreNamed
causes_are_named t claimed full f exists = answer_exists t claimed full f exists

pub causes_are_unique : CausesAreUnique
causes_are_unique t claimed full f a b exists h k = one_answer t claimed full f exists a b h k

pub no_cause_keeps_rule : NoCauseKeepsRule
no_cause_keeps_rule t claimed full f exists = no_cause_is_kept t claimed full f exists

pub ahead_is_alone : AheadIsAlone
ahead_is_alone t claimed full f p cause exists ahead broken = alone t claimed full f exists p cause ahead broken

pub causes_break_the_rule : CausesBreakTheRule
causes_break_the_rule t claimed full f exists = (causes t claimed full f exists, λ h. cause_otherwise t claimed full f exists h.0 h.1)

pub ahead_names_the_rules_stamp : AheadNamesTheRulesStamp
ahead_names_the_rules_stamp t claimed full f p rule ahead least =
    let top = top_at claimed full f in
    elim (cases_lt top rule.c) [
      | inl over ↦ inr (over, written_is_unique t claimed f top p (next_l rule) ahead.least (next_written t claimed f top rule least over))
      | inr fits ↦ inl (fits, written_is_unique t claimed f top p rule ahead.least (rule_written t claimed f top rule least fits))
    ]

pub no_cause_is_least : NoCauseIsLeast
no_cause_is_least t claimed full size = (
  λ none. (least_feasible_place_by_place t claimed).1 (
    size,
    λ f exists. elim (rule_or_cause t claimed full f exists) [
      | inl rule ↦ rule
      | inr reason ↦ absurd (none f exists reason)
    ],
  ),
  λ least f exists reason. cause_or_rollover_is_not_rule t claimed full f exists reason (each_from_least_feasible t claimed least f exists),
)

-- a pair that is least after some pairs is least after others that are the same at the direct predecessors
module _ (t : ClockEvents) (pairs others : List Pair) (f : ℕ)
    (same : (d : ℕ) → IsDirectPredecessor (clock_skeleton t) d f → pair_at pairs d ≡ pair_at others d) where
  feasible_like : (p : Pair) → IsFeasibleAt t pairs f p → IsFeasibleAt t others f p
  feasible_like p feasible = record {
    not_below = feasible.not_below;
    follows = λ d direct. subst (λ (x : Pair). Follows (clock_event_at t f).ticks x p) (same d direct) (feasible.follows d direct);
  }

  feasible_back : (p : Pair) → IsFeasibleAt t others f p → IsFeasibleAt t pairs f p
  feasible_back p feasible = record {
    not_below = feasible.not_below;
    follows = λ d direct. subst (λ (x : Pair). Follows (clock_event_at t f).ticks x p) (sym (same d direct)) (feasible.follows d direct);
  }

  pub least_like : (p : Pair) → IsLeastFeasibleAt t pairs f p → IsLeastFeasibleAt t others f p
  least_like p least = record {
    feasible = feasible_like p least.feasible;
    least = λ q feasible. least.least q (feasible_back q feasible);
  }

-- something holds of each direct predecessor of f, or something else was found
module _ (s : Skeleton) (IsSo : ℕ → Type 0) (Found : Type 0) (f : ℕ) (exists : f < length s)
    (before : (d : ℕ) → IsDirectPredecessor s d f → IsSo d ⊎ Found) where
  previous_so : ((d : ℕ) → IsPrevious s d f → IsSo d) ⊎ Found
  previous_so = elim (previous_or_first s f exists) [
    | inr none ↦ inl (λ d h. absurd (none d h.at_node))
    | inl found ↦
        elim (before found.0 (inl found.1)) [
          | inl so ↦ inl (λ d h. subst IsSo (previous_is_unique s found.0 d f found.1 h) so)
          | inr other ↦ inr other
        ]
  ]

  send_so : ((d : ℕ) → IsSendOf s d f → IsSo d) ⊎ Found
  send_so = elim (send_or_none s f exists) [
    | inr none ↦ inl (λ d h. absurd (none d h))
    | inl found ↦
        elim (before found.0 (inr found.1)) [
          | inl so ↦ inl (λ d h. subst IsSo (send_is_unique s found.0 d f found.1 h) so)
          | inr other ↦ inr other
        ]
  ]

  all_so : ((d : ℕ) → IsDirectPredecessor s d f → IsSo d) ⊎ Found
  all_so = elim previous_so [
    | inr other ↦ inr other
    | inl previous ↦
        elim send_so [
          | inr other ↦ inr other
          | inl send ↦ inl (λ d direct. elim direct [ inl h ↦ previous d h | inr h ↦ send d h ])
        ]
  ]

module _ (t : ClockEvents) (claimed least : List Pair) (full : ℕ) (is_least : IsLeastFeasible t least) where
  -- a cause or a rollover is in the past of f
  abbrev HasCauseInPast : ℕ → Type 0
  HasCauseInPast f = (e : ℕ) × IsInPast (clock_skeleton t) e f × IsCauseOrRollover t claimed full e

  -- the claimed stamp is the least one, and feasible
  pub record IsRight (f : ℕ) : Type 0 where
    pub same : pair_at claimed f ≡ pair_at least f
    pub fit : IsFit t claimed f

  cause_stays_in_past : (d f : ℕ) → IsDirectPredecessor (clock_skeleton t) d f → HasCauseInPast d → HasCauseInPast f
  cause_stays_in_past d f direct (e, past, reason) =
      let s = clock_skeleton t in (e, past_trans s e d f past (inr (direct_happened_before s d f direct)), reason)

  abbrev IsSame : ℕ → Type 0
  IsSame d = pair_at claimed d ≡ pair_at least d

  right_where_same : (f : ℕ) → f < length t → ((d : ℕ) → IsDirectPredecessor (clock_skeleton t) d f → IsSame d) →
      IsLeastFeasibleAt t claimed f (pair_at claimed f) → IsRight f
  right_where_same f exists same rule =
      let own = pair_at claimed f in
      let moved = least_like t claimed least f same own rule in
      record {
        same = rule_is_unique t least f own (pair_at least f) moved (each_from_least_feasible t least is_least f exists);
        fit = rule.feasible;
      }

  -- an event is right, or a cause is in its past
  right_or_cause : (n f : ℕ) → f < n → f < length t → IsRight f ⊎ HasCauseInPast f
  right_or_cause zero f lt exists = absurd (omega (arith, lt))
  right_or_cause (suc n) f lt exists =
      elim (rule_or_cause t claimed full f exists) [
        | inr reason ↦ inr (f, inl refl, reason)
        | inl rule ↦
            let before : (d : ℕ) → IsDirectPredecessor (clock_skeleton t) d f → IsSame d ⊎ HasCauseInPast f =
            λ d direct.
            let earlier = direct_earlier (clock_skeleton t) d f direct in
            elim (right_or_cause n d (omega arith) (omega arith)) [
              | inl right ↦ inl right.same
              | inr reason ↦ inr (cause_stays_in_past d f direct reason)
            ] in
            elim (all_so (clock_skeleton t) IsSame (HasCauseInPast f) f (exists_there t claimed f exists) before) [
              | inr reason ↦ inr reason
              | inl same ↦ inl (right_where_same f exists same rule)
            ]
      ]

  -- the verdict if all is right
  pub least_if_right : (f : ℕ) → f < length t → IsRight f → verdict_on t claimed least f ≡ Least
  least_if_right f exists right =
      let own = pair_at claimed f in
      let test : is_lt (stamp_cmp own (clock_event_at t f).floor) ≡ false = no_less_is_tested own (clock_event_at t f).floor right.fit.not_below in
      let none : first_not_above t claimed f ≡ None = in_order_if_fit t claimed f exists right.fit in
      rw (test, none) (ap (λ (p : Pair). verdict_by_least (pair_at least f) (stamp_cmp p (pair_at least f))) right.same ∙ equal_itself (pair_at least f))
    where
      equal_itself : (p : Pair) → verdict_by_least p (stamp_cmp p p) ≡ Least
      equal_itself p = grind (arith, nat_tests)

  pub cause_in_past : (f : ℕ) → f < length t → verdict_on t claimed least f ≢ Least → HasCauseInPast f
  cause_in_past f exists other = elim (right_or_cause (suc f) f (omega arith) exists) [
    | inl right ↦ absurd (other (least_if_right f exists right))
    | inr reason ↦ reason
  ]

pub causes_explain_verdicts : CausesExplainVerdicts
causes_explain_verdicts t claimed least full f exists is_least other = cause_in_past t claimed least full is_least f exists other

pub no_events_are_least : NoEventsAreLeast
no_events_are_least t stamps no_event no_stamp =
    subst (λ (events : ClockEvents). IsLeastFeasible events stamps) (sym no_event)
    (subst (λ (pairs : List Pair). IsLeastFeasible [] pairs) (sym no_stamp)
    (least_feasible_from_each [] [] refl (λ f lt. absurd (omega (arith, lt)))))

-- which verdict is given, by the tests
behind_only : (least : Pair) (o : Ordering) (first : Option ℕ) → not_above_or first (verdict_by_least least o) ≢ BehindVerdict
behind_only least o (Some d) is = cc
behind_only least Less None is = cc
behind_only least Equal None is = cc
behind_only least Greater None is = cc

not_above_only : (least : Pair) (o : Ordering) (first : Option ℕ) (d : EventId) →
    not_above_or first (verdict_by_least least o) ≡ NotAboveVerdict d → first ≡ Some d.0
not_above_only least o (Some e) d is =
    let same : ◌≡◌ {A = EventId} (record { 0 = e }) d = cc in
    ap (λ (x : EventId). Some x.0) same
not_above_only least Less None d is = absurd cc
not_above_only least Equal None d is = absurd cc
not_above_only least Greater None d is = absurd cc

module _ (t : ClockEvents) (claimed least : List Pair) (full f : ℕ) where
  abbrev otherwise : Verdict
  otherwise = not_above_or (first_not_above t claimed f) (verdict_by_least (pair_at least f) (stamp_cmp (pair_at claimed f) (pair_at least f)))

  is_behind : (test : Bool) → is_lt (stamp_cmp (pair_at claimed f) (clock_event_at t f).floor) ≡ test → cond test BehindVerdict otherwise ≡ BehindVerdict →
      test ≡ true
  is_behind true _ _ = refl
  is_behind false _ is = absurd (behind_only (pair_at least f) (stamp_cmp (pair_at claimed f) (pair_at least f)) (first_not_above t claimed f) is)

  is_not_above : (d : EventId) (test : Bool) → cond test BehindVerdict otherwise ≡ NotAboveVerdict d →
      (test ≡ false) × (first_not_above t claimed f ≡ Some d.0)
  is_not_above d true is = absurd cc
  is_not_above d false is = (refl, not_above_only (pair_at least f) (stamp_cmp (pair_at claimed f) (pair_at least f)) (first_not_above t claimed f) d is)

pub behind_is_cause : BehindIsCause
behind_is_cause t claimed least full f =
    let own = pair_at claimed f in
    let floor = (clock_event_at t f).floor in (
      λ is. below_from_test own floor (is_behind t claimed least full f (is_lt (stamp_cmp own floor)) refl is),
      λ behind. rw (below_is_tested own floor behind) refl,
    )

-- the first of two that is found
found_first : (a b : Option ℕ) (d : ℕ) → option_or a b ≡ Some d → (a ≡ Some d) ⊎ ((a ≡ None) × (b ≡ Some d))
found_first (Some x) b d is = inl is
found_first None b d is = inr (refl, is)

module _ (t : ClockEvents) (claimed : List Pair) (full f : ℕ) where
  -- what is not behind
  pub not_above_told : (least : List Pair) (d : EventId) → IsReached t claimed f → first_not_above t claimed f ≡ Some d.0 →
      verdict_on t claimed least f ≡ NotAboveVerdict d
  not_above_told least d reads first =
      let test : is_lt (stamp_cmp (pair_at claimed f) (clock_event_at t f).floor) ≡ false =
      no_less_is_tested (pair_at claimed f) (clock_event_at t f).floor reads in
      rw (test, first) refl

  after_behind : IsReached t claimed f → (other : Cause) → BreaksRule t claimed full f other → 1 ≤ rank other
  after_behind reads Behind broken = absurd (not_below_if_at_most (pair_at claimed f) (clock_event_at t f).floor reads broken)
  after_behind reads (NotAbovePrevious d) broken = omega arith
  after_behind reads (NotAboveSend d) broken = omega arith
  after_behind reads (Ahead p) broken = omega arith

  after_previous : IsReached t claimed f → previous_if_not_above t claimed f ≡ None → (other : Cause) → BreaksRule t claimed full f other → 2 ≤ rank other
  after_previous reads none Behind broken = absurd (not_below_if_at_most (pair_at claimed f) (clock_event_at t f).floor reads broken)
  after_previous reads none (NotAbovePrevious d) broken =
      let some : previous_if_not_above t claimed f ≡ Some d.0 = broken in absurd cc
  after_previous reads none (NotAboveSend d) broken = omega arith
  after_previous reads none (Ahead p) broken = omega arith

  -- which cause is the first
  first_if_told : (d : EventId) → IsReached t claimed f → first_not_above t claimed f ≡ Some d.0
      → IsFirstOf (BreaksRule t claimed full f) (NotAbovePrevious d) ⊎ IsFirstOf (BreaksRule t claimed full f) (NotAboveSend d)
  first_if_told d reads first =
      elim (found_first (previous_if_not_above t claimed f) (send_if_not_above t claimed f) d.0 first) [
        | inl previous ↦ inl (record { is = previous; none_before = after_behind reads })
        | inr send ↦ inr (record { is = send.1; none_before = after_previous reads send.0 })
      ]

  not_behind_first : (cause : Cause) → 0 < rank cause → IsFirstOf (BreaksRule t claimed full f) cause → IsReached t claimed f
  not_behind_first cause later first =
      elim (below_or_at_most (pair_at claimed f) (clock_event_at t f).floor) [
        | inl behind ↦ let before = first.none_before Behind behind in absurd (omega arith)
        | inr reads ↦ reads
      ]

  none_first : (d : EventId) (found : Option ℕ) → previous_if_not_above t claimed f ≡ found
      → IsFirstOf (BreaksRule t claimed full f) (NotAboveSend d) → previous_if_not_above t claimed f ≡ None
  none_first d None is first = is
  none_first d (Some e) is first = let before = first.none_before (NotAbovePrevious (event_of e)) is in absurd (omega arith)

  told_if_first : (d : EventId) → IsFirstOf (BreaksRule t claimed full f) (NotAbovePrevious d) ⊎ IsFirstOf (BreaksRule t claimed full f) (NotAboveSend d)
      → IsReached t claimed f × (first_not_above t claimed f ≡ Some d.0)
  told_if_first d (inl first) =
      let previous : previous_if_not_above t claimed f ≡ Some d.0 = first.is in
      (not_behind_first (NotAbovePrevious d) (omega arith) first, rw previous refl)
  told_if_first d (inr first) =
      let send : send_if_not_above t claimed f ≡ Some d.0 = first.is in
      let none = none_first d (previous_if_not_above t claimed f) refl first in
      (not_behind_first (NotAboveSend d) (omega arith) first, rw (none, send) refl)

  first_exists : (d : EventId) → BreaksRule t claimed full f (NotAbovePrevious d) ⊎ BreaksRule t claimed full f (NotAboveSend d)
      → (e : EventId) × (first_not_above t claimed f ≡ Some e.0)
  first_exists d (inl broken) = let previous : previous_if_not_above t claimed f ≡ Some d.0 = broken in (d, rw previous refl)
  first_exists d (inr broken) = by_previous (previous_if_not_above t claimed f) refl
    where
      by_previous : (found : Option ℕ) → previous_if_not_above t claimed f ≡ found → (e : EventId) × (first_not_above t claimed f ≡ Some e.0)
      by_previous None is = let send : send_if_not_above t claimed f ≡ Some d.0 = broken in (d, rw (is, send) refl)
      by_previous (Some e) is = (event_of e, rw is refl)

  -- what isn't above a direct predecessor has that verdict, unless it is behind
  pub not_above_somewhere : (least : List Pair) (d : EventId) → IsReached t claimed f
      → BreaksRule t claimed full f (NotAbovePrevious d) ⊎ BreaksRule t claimed full f (NotAboveSend d)
      → (e : EventId) × (verdict_on t claimed least f ≡ NotAboveVerdict e)
  not_above_somewhere least d reads broken =
      let found = first_exists d broken in (found.0, not_above_told least found.0 reads found.1)

pub not_above_is_cause : NotAboveIsCause
not_above_is_cause t claimed least full f d =
    let own = pair_at claimed f in
    let floor = (clock_event_at t f).floor in (
      λ is.
          let parts = is_not_above t claimed least full f d (is_lt (stamp_cmp own floor)) is in
          first_if_told t claimed full f d (no_less own floor parts.0) parts.1,
      λ first. let told = told_if_first t claimed full f d first in not_above_told t claimed full f least d told.0 told.1,
    )

-- a low stamp is less than the least one, and in no disorder
low_only : (least low : Pair) (o : Ordering) (first : Option ℕ) → not_above_or first (verdict_by_least least o) ≡ Low low → o ≡ Less
low_only least low o (Some d) is = absurd cc
low_only least low Less None is = refl
low_only least low Equal None is = absurd cc
low_only least low Greater None is = absurd cc

low_is_below : (t : ClockEvents) (claimed least : List Pair) (f : ℕ) (low : Pair) → verdict_on t claimed least f ≡ Low low →
    IsBelow (pair_at claimed f) (pair_at least f)
low_is_below t claimed least f low is =
    let less = by_test (is_lt (stamp_cmp (pair_at claimed f) (clock_event_at t f).floor)) is in
    below_from_test (pair_at claimed f) (pair_at least f) (ap is_lt less)
  where
    by_test : (test : Bool) → cond test BehindVerdict (otherwise t claimed least 0 f) ≡ Low low →
        stamp_cmp (pair_at claimed f) (pair_at least f) ≡ Less
    by_test true is = absurd cc
    by_test false is = low_only (pair_at least f) low (stamp_cmp (pair_at claimed f) (pair_at least f)) (first_not_above t claimed f) is

low_none : (least low : Pair) (o : Ordering) (first : Option ℕ) → not_above_or first (verdict_by_least least o) ≡ Low low → first ≡ None
low_none least low o (Some d) is = absurd cc
low_none least low o None is = refl

low_in_order : (t : ClockEvents) (claimed least : List Pair) (f : ℕ) (low : Pair) → verdict_on t claimed least f ≡ Low low
    → (previous_if_not_above t claimed f ≡ None) × (send_if_not_above t claimed f ≡ None)
low_in_order t claimed least f low is =
    neither_of (previous_if_not_above t claimed f) (send_if_not_above t claimed f)
    (by_test (is_lt (stamp_cmp (pair_at claimed f) (clock_event_at t f).floor)) is)
  where
    by_test : (test : Bool) → cond test BehindVerdict (otherwise t claimed least 0 f) ≡ Low low → first_not_above t claimed f ≡ None
    by_test true is = absurd cc
    by_test false is = low_none (pair_at least f) low (stamp_cmp (pair_at claimed f) (pair_at least f)) (first_not_above t claimed f) is

low_if_ahead : (t : ClockEvents) (claimed least : List Pair) (full f : ℕ) (low : Pair) → verdict_on t claimed least f ≡ Low low → (cause : Cause) →
    BreaksRule t claimed full f cause → (p : Pair) × IsAheadOf t claimed full f p
low_if_ahead t claimed least full f low is Behind breaks = let behind = (behind_is_cause t claimed least full f).1 breaks in absurd cc
low_if_ahead t claimed least full f low is (NotAbovePrevious d) breaks =
    let none = (low_in_order t claimed least f low is).0 in
    let some : previous_if_not_above t claimed f ≡ Some d.0 = breaks in
    absurd cc
low_if_ahead t claimed least full f low is (NotAboveSend d) breaks =
    let none = (low_in_order t claimed least f low is).1 in
    let some : send_if_not_above t claimed f ≡ Some d.0 = breaks in
    absurd cc
low_if_ahead t claimed least full f low is (Ahead p) breaks = (p, breaks)

pub low_is_cause_if_ahead : LowIsCauseIfAhead
low_is_cause_if_ahead t claimed least full f low is =
    (λ h. low_if_ahead t claimed least full f low is h.0 h.1, λ h. (Ahead h.0, h.1))

-- a stamp is at least the least one, or one in disorder is in the past
module _ (t : ClockEvents) (claimed least : List Pair) (is_least : IsLeastFeasible t least) where
  abbrev IsDisorder : ℕ → Type 0
  IsDisorder e = ¬ IsInOrder (verdict_on t claimed least e)

  abbrev HasDisorderInPast : ℕ → Type 0
  HasDisorderInPast f = (e : ℕ) × IsInPast (clock_skeleton t) e f × IsDisorder e

  abbrev IsEnough : ℕ → Type 0
  IsEnough d = IsAtMost (pair_at least d) (pair_at claimed d)

  behind_is_disorder : (f : ℕ) → BreaksRule t claimed 0 f Behind → IsDisorder f
  behind_is_disorder f breaks in_order = subst IsInOrder ((behind_is_cause t claimed least 0 f).1 breaks) in_order

  not_above_is_disorder : (f : ℕ) (d : EventId) → IsReached t claimed f → first_not_above t claimed f ≡ Some d.0 → IsDisorder f
  not_above_is_disorder f d reads first in_order = subst IsInOrder (not_above_told t claimed 0 f least d reads first) in_order

  fit_by : (f : ℕ) → f < length t → IsReached t claimed f → (first : Option ℕ) → first_not_above t claimed f ≡ first →
      IsFit t claimed f ⊎ IsDisorder f
  fit_by f exists reads None none = inl (fit_in_order t claimed f exists reads none)
  fit_by f exists reads (Some d) first = inr (not_above_is_disorder f (event_of d) reads first)

  fit_or_disorder : (f : ℕ) → f < length t → IsFit t claimed f ⊎ IsDisorder f
  fit_or_disorder f exists = elim (below_or_at_most (pair_at claimed f) (clock_event_at t f).floor) [
    | inl behind ↦ inr (behind_is_disorder f behind)
    | inr reads ↦ fit_by f exists reads (first_not_above t claimed f) refl
  ]

  enough_where_fit : (f : ℕ) → f < length t → ((d : ℕ) → IsDirectPredecessor (clock_skeleton t) d f → IsEnough d) → IsFit t claimed f → IsEnough f
  enough_where_fit f exists enough fit =
      (each_from_least_feasible t least is_least f exists).least (pair_at claimed f) (record {
        not_below = fit.not_below;
        follows = λ d direct.
            at_most_follows (clock_event_at t f).ticks (pair_at least d) (pair_at claimed d) (pair_at claimed f) (enough d direct) (fit.follows d direct);
      })

  disorder_stays_in_past : (d f : ℕ) → IsDirectPredecessor (clock_skeleton t) d f → HasDisorderInPast d → HasDisorderInPast f
  disorder_stays_in_past d f direct (e, past, disorder) =
      let s = clock_skeleton t in (e, past_trans s e d f past (inr (direct_happened_before s d f direct)), disorder)

  enough_or_disorder : (n f : ℕ) → f < n → f < length t → IsEnough f ⊎ HasDisorderInPast f
  enough_or_disorder zero f lt exists = absurd (omega (arith, lt))
  enough_or_disorder (suc n) f lt exists =
      elim (fit_or_disorder f exists) [
        | inr disorder ↦ inr (f, inl refl, disorder)
        | inl fit ↦
            let before : (d : ℕ) → IsDirectPredecessor (clock_skeleton t) d f → IsEnough d ⊎ HasDisorderInPast f =
            λ d direct.
            let earlier = direct_earlier (clock_skeleton t) d f direct in
            elim (enough_or_disorder n d (omega arith) (omega arith)) [
              | inl enough ↦ inl enough
              | inr found ↦ inr (disorder_stays_in_past d f direct found)
            ] in
            elim (all_so (clock_skeleton t) IsEnough (HasDisorderInPast f) f (exists_there t claimed f exists) before) [
              | inr found ↦ inr found
              | inl enough ↦ inl (enough_where_fit f exists enough fit)
            ]
      ]

  heard_of : (f : ℕ) (low : Pair) → verdict_on t claimed least f ≡ Low low → HasDisorderInPast f →
      (e : ℕ) × HappenedBefore (clock_skeleton t) e f × IsDisorder e
  heard_of f low is (e, inr before, disorder) = (e, before, disorder)
  heard_of f low is (e, inl same, disorder) =
      let in_order : IsInOrder (Low low) = tt in
      let there : IsInOrder (verdict_on t claimed least f) = subst IsInOrder (sym is) in_order in
      absurd (disorder (subst (λ (x : ℕ). IsInOrder (verdict_on t claimed least x)) (sym same) there))

pub low_heard_of_disorder : LowHeardOfDisorder
low_heard_of_disorder t claimed least f low exists is_least is =
    elim (enough_or_disorder t claimed least is_least (suc f) f (omega arith) exists) [
      | inl enough ↦
          let below = low_is_below t claimed least f low is in
          absurd (not_below_itself (pair_at claimed f) (below_at_most (pair_at claimed f) (pair_at least f) (pair_at claimed f) below enough))
      | inr found ↦ heard_of t claimed least is_least f low is found
    ]

-- the least stamp that a verdict of ahead names is that of the event
ahead_only : (least x : Pair) (o : Ordering) (first : Option ℕ) → AheadVerdict x ≡ not_above_or first (verdict_by_least least o) → x ≡ least
ahead_only least x o (Some d) is = absurd cc
ahead_only least x Less None is = absurd cc
ahead_only least x Equal None is = absurd cc
ahead_only least x Greater None is = cc

pub ahead_of_least : (t : ClockEvents) (claimed least : List Pair) (f : ℕ) (x : Pair) → AheadVerdict x ≡ verdict_on t claimed least f →
    x ≡ pair_at least f
ahead_of_least t claimed least f x is = by_test (is_lt (stamp_cmp (pair_at claimed f) (clock_event_at t f).floor)) is
  where
    by_test : (test : Bool) → AheadVerdict x ≡ cond test BehindVerdict (otherwise t claimed least 0 f) → x ≡ pair_at least f
    by_test true is = absurd cc
    by_test false is = ahead_only (pair_at least f) x (stamp_cmp (pair_at claimed f) (pair_at least f)) (first_not_above t claimed f) is
