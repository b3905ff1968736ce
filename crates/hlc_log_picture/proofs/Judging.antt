-- Findings on events.
use Rattle.std.proofs.Common.{Bool, true, false, ◌≡◌, ◌↔◌, ℕ, ◌+◌, inl, inr, List, [], ◌∷◌, ◌++◌, Option, None, Some, arith, refl, subst, sym, ap, ◌∙◌}
use Rattle.std.specs.Prelude.{IsTrue, is_some, false}
use Rattle.std.proofs.lemmas.Bool.{cases_eq}
use Rattle.std.proofs.lemmas.List.{get_or_append_left, get_or_push, length_push}
use Rattle.hlc_stamp.specs.declared.id.EventId.{EventId}
use Rattle.hlc_causality.specs.Neighbours.{place_of}
use Rattle.hlc_causes.specs.Causes.{HasCause, NamesFirst}
use Rattle.hlc_causes.specs.declared.answers.Cause.{Cause}
use Rattle.hlc_causes.specs.declared.answers.Causes.{Causes}
use Rattle.hlc_ordered_log.specs.Found.{IsCauseAt, NamesCausesIn}
use Rattle.hlc_ordered_log.specs.InOrder.{LogInOrder, wrong_of}
use Rattle.hlc_log_picture.specs.Judged.{AreEventFindingsBefore, IsCauseIn, IsEventFinding, event_finding_at}
use Rattle.hlc_log_picture.specs.declared.event_finding.EventFinding.{EventFinding}

-- there is a first cause if there is one
pub first_is_named : (log : LogInOrder) (full k : ℕ) (causes : Causes) (first : Option Cause) → NamesCausesIn log full k causes
    → NamesFirst (HasCause causes) first → IsTrue (is_some first) ↔ IsCauseAt log full k
first_is_named log full k causes None names none =
    (λ is. absurd (cc), λ found. absurd (none found.0 ((names found.0).1 found.1)))
first_is_named log full k causes (Some cause) names first = (λ is. (cause, (names cause).0 first.is), λ found. refl)

-- a message carried another stamp if one is named
pub wrong_is_named : (named : Option EventId) (wrong : Option ℕ) → place_of named ≡ wrong → IsTrue (is_some named) ↔ ((d : ℕ) × (wrong ≡ Some d))
wrong_is_named None wrong is = (λ so. absurd (cc), λ found. absurd (cc (is, found.1)))
wrong_is_named (Some d) wrong is = (λ so. (d.0, sym is), λ found. refl)

-- a cause by the rule, and else one whose message carried another stamp
pub cause_by_rule : (log : LogInOrder) (full k : ℕ) (is : Bool) → is ≡ true → IsTrue is ↔ IsCauseAt log full k
    → IsTrue is ↔ IsCauseIn log full k
cause_by_rule log full k is so rule = (λ yes. inl (rule.0 yes), λ cause. so)

pub cause_by_carried : (log : LogInOrder) (full k : ℕ) (is wrong : Bool) → is ≡ false → IsTrue is ↔ IsCauseAt log full k
    → IsTrue wrong ↔ ((d : ℕ) × (wrong_of log k ≡ Some d)) → IsTrue wrong ↔ IsCauseIn log full k
cause_by_carried log full k is wrong unbroken rule carried = (λ yes. inr (carried.0 yes), by_side)
  where
    by_side : IsCauseIn log full k → IsTrue wrong
    by_side (inl broken) = let bad : true ≡ false = sym (rule.1 broken) ∙ unbroken in absurd (cc)
    by_side (inr another) = carried.1 another

-- one finding more
pub findings_push : (log : LogInOrder) (full n : ℕ) (findings : List EventFinding) (event_finding : EventFinding)
    → AreEventFindingsBefore log full n findings → IsEventFinding log full n event_finding
    → AreEventFindingsBefore log full (n + 1) (findings ++ event_finding ∷ [])
findings_push log full n findings event_finding before next = record {
  one_each = length_push findings event_finding ∙ ap (λ (m : ℕ). m + 1) before.one_each;
  each = λ k lt. elim (cases_eq k n) [
    | inl last ↦
        let size = before.one_each in
        let here : event_finding_at (findings ++ event_finding ∷ []) k ≡ event_finding =
        get_or_push findings event_finding (record { finding = None; is_cause = false }) k (omega arith) in
        subst (λ (j : EventFinding). IsEventFinding log full k j) (sym here) (subst (λ (m : ℕ). IsEventFinding log full m event_finding) (sym last) next)
    | inr ne ↦
        let size = before.one_each in
        let here : event_finding_at (findings ++ event_finding ∷ []) k ≡ event_finding_at findings k =
        get_or_append_left findings (event_finding ∷ []) (record { finding = None; is_cause = false }) k (omega arith) in
        subst (λ (j : EventFinding). IsEventFinding log full k j) (sym here) (before.each k (omega arith))
  ];
}
