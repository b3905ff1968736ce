-- Counts of one finding more.
use Rattle.std.proofs.Common.{◌≡◌, ℕ, ◌+◌, ◌≤◌, inl, inr, Bool, true, false, cond, Option, Some, None, List, [], ◌∷◌, ◌++◌, length, arith, refl, subst, sym, ap, ◌∙◌}
use Rattle.std.specs.Prelude.{count_by}
use Rattle.std.proofs.lemmas.Bool.{cases_eq}
use Rattle.std.proofs.lemmas.List.{get_or_append_left, get_or_push, length_push}
use Rattle.std.proofs.lemmas.List.Sums.{count_by-le-length, fold-append}
use Rattle.hlc_verdict.specs.declared.verdict.Verdict.TheVariants as verdict
use Rattle.hlc_causes.specs.declared.answers.Finding.{Finding}
use Rattle.hlc_causes.specs.declared.answers.Finding.TheVariants.{Judged, RolledOver}
use Rattle.hlc_ordered_log.specs.Found.{FindsAt}
use Rattle.hlc_ordered_log.specs.InOrder.{LogInOrder}
use Rattle.hlc_ordered_log.specs.Counts.{AreFindings, CanCountFinding, counts_of, is_ahead, is_behind, is_least, is_low, is_not_above, is_rolled_over, with_finding}

pub finding_can_be_counted : (findings : List (Option Finding)) → length findings ≤ 16777216 → CanCountFinding (counts_of findings)
finding_can_be_counted findings few =
    let behind = count_by-le-length is_behind findings in
    let not_above = count_by-le-length is_not_above findings in
    let low = count_by-le-length is_low findings in
    let least = count_by-le-length is_least findings in
    let ahead = count_by-le-length is_ahead findings in
    let rolled_over = count_by-le-length is_rolled_over findings in
    record {
      behind = omega arith;
      not_above = omega arith;
      low = omega arith;
      least = omega arith;
      ahead = omega arith;
      rolled_over = omega arith;
    }

-- one finding more, of which a test holds or doesn't
module _ (findings : List (Option Finding)) (f : Option Finding) where
  abbrev more : List (Option Finding)
  more = findings ++ f ∷ []

  counted : (p : Option Finding → Bool) → count_by p more ≡ count_by p findings + cond (p f) 1 0
  counted p = fold-append (λ (n : ℕ) (x : Option Finding). n + cond (p x) 1 0) 0 findings (f ∷ [])

  yes : (p : Option Finding → Bool) → p f ≡ true → count_by p more ≡ count_by p findings + 1
  yes p holds = counted p ∙ ap (λ (b : Bool). count_by p findings + cond b 1 0) holds

  no : (p : Option Finding → Bool) → p f ≡ false → count_by p more ≡ count_by p findings
  no p fails =
      let same = counted p ∙ ap (λ (b : Bool). count_by p findings + cond b 1 0) fails in
      omega arith

pub counts_push : (findings : List (Option Finding)) (f : Option Finding) → counts_of (findings ++ f ∷ []) ≡ with_finding (counts_of findings) f
counts_push fs None =
    let f : Option Finding = None in
    rw (no fs f is_behind refl, no fs f is_not_above refl, no fs f is_low refl, no fs f is_least refl, no fs f is_ahead refl, no fs f is_rolled_over refl) refl
counts_push fs (Some (Judged verdict.Behind)) =
    let f : Option Finding = Some (Judged verdict.Behind) in
    rw (yes fs f is_behind refl, no fs f is_not_above refl, no fs f is_low refl, no fs f is_least refl, no fs f is_ahead refl, no fs f is_rolled_over refl) refl
counts_push fs (Some (Judged (verdict.NotAbove d))) =
    let f : Option Finding = Some (Judged (verdict.NotAbove d)) in
    rw (no fs f is_behind refl, yes fs f is_not_above refl, no fs f is_low refl, no fs f is_least refl, no fs f is_ahead refl, no fs f is_rolled_over refl) refl
counts_push fs (Some (Judged (verdict.Low least))) =
    let f : Option Finding = Some (Judged (verdict.Low least)) in
    rw (no fs f is_behind refl, no fs f is_not_above refl, yes fs f is_low refl, no fs f is_least refl, no fs f is_ahead refl, no fs f is_rolled_over refl) refl
counts_push fs (Some (Judged verdict.Least)) =
    let f : Option Finding = Some (Judged verdict.Least) in
    rw (no fs f is_behind refl, no fs f is_not_above refl, no fs f is_low refl, yes fs f is_least refl, no fs f is_ahead refl, no fs f is_rolled_over refl) refl
counts_push fs (Some (Judged (verdict.Ahead least))) =
    let f : Option Finding = Some (Judged (verdict.Ahead least)) in
    rw (no fs f is_behind refl, no fs f is_not_above refl, no fs f is_low refl, no fs f is_least refl, yes fs f is_ahead refl, no fs f is_rolled_over refl) refl
counts_push fs (Some RolledOver) =
    let f : Option Finding = Some RolledOver in
    rw (no fs f is_behind refl, no fs f is_not_above refl, no fs f is_low refl, no fs f is_least refl, no fs f is_ahead refl, yes fs f is_rolled_over refl) refl

-- what is found of one event more
pub findings_push : (log : LogInOrder) (full n : ℕ) (findings : List (Option Finding)) (f : Option Finding)
    → AreFindings log full n findings → FindsAt log full n f → AreFindings log full (n + 1) (findings ++ f ∷ [])
findings_push log full n findings f are found = record {
  one_each = length_push findings f ∙ ap (λ (k : ℕ). k + 1) are.one_each;
  each = λ e within. elim (cases_eq e n) [
    | inl same ↦
        subst (FindsAt log full e) (sym (get_or_push findings f None e (are.one_each ∙ sym same)))
        (subst (λ (k : ℕ). FindsAt log full k f) (sym same) found)
    | inr ne ↦
        let size = are.one_each in
        subst (FindsAt log full e) (sym (get_or_append_left findings (f ∷ []) None e (omega arith))) (are.each e (omega arith))
  ];
}
