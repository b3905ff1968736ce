-- What a rule more changes: nothing at the places before it.
use Rattle.std.proofs.Common.{◌≡◌, ◌∙◌, ℕ, ◌+◌, ◌-◌, ◌<◌, ◌≤◌, inl, inr, List, [], ◌∷◌, ◌++◌, length, length-append, Option, Some, None, arith, refl, replicate, subst, sym, ap}
use Rattle.std.specs.Prelude.{IfSome}
use Rattle.std.proofs.lemmas.List.{append_assoc, get_or-append_right, get_or-replicate, get_or_append_left, get_or_past, get_or_push, length-replicate, length_push}
use Rattle.std.proofs.lemmas.Bool.{cases_lt}
use Rattle.hlc_causality.specs.declared.event_rule.EventRule.{EventRule}
use Rattle.hlc_causality.specs.Causality.{Skeleton}
use Rattle.hlc_causality.specs.ReceiveEvents.{ClockRules, clock_events, own_at}
use Rattle.hlc_causality.proofs.ReceiveEvents.{same_clock_events}
use Rattle.hlc_execution.specs.Rules.{HasSmallFloor, HaveSmallFloors, with_rule}

module _ (rules : ClockRules) (place : ℕ) (rule : EventRule) (none : length rules.own ≤ place) where
  -- the rules before it
  abbrev before : List (Option EventRule)
  before = rules.own ++ replicate (place - length rules.own) None

  own_is : (with_rule rules place rule).own ≡ before ++ Some rule ∷ []
  own_is = sym (append_assoc rules.own (replicate (place - length rules.own) None) (Some rule ∷ []))

  before_size : length before ≡ place
  before_size =
      let without = place - length rules.own in
      let many = length-replicate {A = Option EventRule} without None in
      let size = length-append rules.own (replicate without None) in
      omega (arith, none, many, size)

  -- how many there are then
  pub own_size : length (with_rule rules place rule).own ≡ place + 1
  own_size =
      ap (λ (own : List (Option EventRule)). length own) own_is ∙ length_push before (Some rule) ∙ ap (λ (n : ℕ). n + 1) before_size

  pub own_given : own_at (with_rule rules place rule) place ≡ Some rule
  own_given =
      ap (λ (own : List (Option EventRule)). own_at (record rules { own = own }) place) own_is
      ∙ get_or_push before (Some rule) None place before_size

  none_among : (k : ℕ) → length rules.own ≤ k → k < place → own_at (record rules { own = before }) k ≡ None
  none_among k past lt =
      let without = place - length rules.own in
      get_or-append_right rules.own (replicate without None) (length rules.own) k None refl past
      ∙ get_or-replicate {A = Option EventRule} without (k - length rules.own) None None (omega (arith, past, lt))

  pub own_before : (k : ℕ) → k < place → own_at (with_rule rules place rule) k ≡ own_at rules k
  own_before k lt =
      let left = get_or_append_left before (Some rule ∷ []) None k (omega (arith, before_size)) in
      let first = ap (λ (own : List (Option EventRule)). own_at (record rules { own = own }) k) own_is ∙ left in
      elim (cases_lt k (length rules.own)) [
        | inr past ↦ first ∙ none_among k past lt ∙ sym (get_or_past rules.own k None past)
        | inl here ↦ first ∙ get_or_append_left rules.own (replicate (place - length rules.own) None) None k here
      ]

  -- so the events that are there stay as clocks read them
  pub clock_events_before : (s : Skeleton) → length s ≤ place → clock_events (with_rule rules place rule) s ≡ clock_events rules s
  clock_events_before s few = same_clock_events (with_rule rules place rule) rules s refl (λ e exists. own_before e (omega (arith, few, exists)))

  pub small_floors_with : HasSmallFloor rule → HaveSmallFloors rules → HaveSmallFloors (with_rule rules place rule)
  small_floors_with small others k =
      let is = λ (o : Option EventRule) (same : own_at (with_rule rules place rule) k ≡ o) (h : IfSome o HasSmallFloor).
      subst (λ (x : Option EventRule). IfSome x HasSmallFloor) (sym same) h in
      elim (cases_lt k (place + 1)) [
        | inr past ↦ is None (get_or_past (with_rule rules place rule).own k None (omega (arith, own_size, past))) tt
        | inl lt ↦
            elim (cases_lt k place) [
              | inr at ↦
                  let same : place ≡ k = omega (arith, at, lt) in
                  is (Some rule) (ap (λ (n : ℕ). own_at (with_rule rules place rule) n) (sym same) ∙ own_given) small
              | inl below ↦ is (own_at rules k) (own_before k below) (others k)
            ]
      ]
