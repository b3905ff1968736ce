-- Counts tell whether there is a broken stamp.
use Rattle.std.proofs.Common.{◌≡◌, ◌⊎◌, ℕ, zero, suc, ◌+◌, ◌-◌, ◌<◌, ◌≤◌, inl, inr, Bool, true, List, length, take, get_or, Option, Some, None, arith, refl, subst, sym, ap, ◌∙◌}
use Rattle.std.specs.Prelude.{count_by, slice_index_or}
use Rattle.std.proofs.Math.Seq.{take-length}
use Rattle.std.specs.Ordering.{is_lt}
use Rattle.std.proofs.lemmas.Bool.{cases_Bool}
use Rattle.std.proofs.lemmas.List.Sums.{count_by_more_no, count_by_more_yes}
use Rattle.hlc_stamp.specs.declared.id.EventId.{EventId}
use Rattle.hlc_stamp.specs.Order.{stamp_cmp}
use Rattle.hlc_causality.specs.Assignment.{pair_at}
use Rattle.hlc_causality.specs.ClockEvents.{ClockEvents, clock_event_at}
use Rattle.hlc_verdict.specs.declared.verdict.Verdict.{Verdict}
use Rattle.hlc_verdict.specs.declared.verdict.Verdict.TheVariants as verdict
use Rattle.hlc_causes.specs.Causes.{BreaksRule, IsFirstOf}
use Rattle.hlc_causes.specs.Verdicts.{verdict_on}
use Rattle.hlc_causes.specs.declared.answers.Cause.TheVariants.{Behind, NotAbovePrevious, NotAboveSend}
use Rattle.hlc_causes.specs.declared.answers.Finding.{Finding}
use Rattle.hlc_causes.specs.declared.answers.Finding.TheVariants.{RolledOver, Judged}
use Rattle.hlc_causes.proofs.CauseLaws.{behind_is_cause, behind_tested, not_above_is_cause, not_above_somewhere, reached_tested}
use Rattle.hlc_causes.proofs.Disorder.{IsReached}
use Rattle.hlc_ordered_log.specs.Counts.{AreCounted, is_behind, is_not_above}
use Rattle.hlc_ordered_log.specs.Found.{BreaksAt, FindsAt}
use Rattle.hlc_ordered_log.specs.InOrder.{LogInOrder, clocks_of, seen_of, stamp_told}
use Rattle.hlc_ordered_log.specs.declared.counts.Counts.{Counts}
use Rattle.hlc_ordered_log.proofs.Found.{told_or_not}

-- something is counted exactly if it is there
module _ {X : Type 0} (p : X → Bool) (xs : List X) (d : X) where
  found_before : (n : ℕ) → n ≤ length xs → 0 < count_by p (take n xs) → (i : ℕ) × (i < n) × (p (get_or xs i d) ≡ true)
  found_before zero within some = absurd (omega arith)
  found_before (suc n) within some = elim (cases_Bool (p (get_or xs n d))) [
    | inl holds ↦ (n, omega arith, holds)
    | inr fails ↦
        let same = count_by_more_no p xs n d (omega arith) fails in
        let at : suc n ≡ n + 1 = omega arith in
        let more = subst (λ (m : ℕ). 0 < count_by p (take m xs)) at some in
        let earlier = found_before n (omega arith) (subst (λ (m : ℕ). 0 < m) same more) in
        (earlier.0, (let lt = earlier.1 in omega arith), earlier.2)
  ]

  counted_from : (i k : ℕ) → i + k < length xs → p (get_or xs i d) ≡ true → 0 < count_by p (take (i + k + 1) xs)
  counted_from i zero lt holds =
      let more = count_by_more_yes p xs i d (omega arith) holds in
      let at : i + 1 ≡ i + zero + 1 = omega arith in
      let some : 0 < count_by p (take i xs) + 1 = omega arith in
      subst (λ (m : ℕ). 0 < count_by p (take m xs)) at (subst (λ (m : ℕ). 0 < m) (sym more) some)
  counted_from i (suc k) lt holds =
      let before = counted_from i k (omega arith) holds in
      let at : i + k + 1 ≡ i + suc k = omega arith in
      elim (cases_Bool (p (get_or xs (i + suc k) d))) [
        | inl passes ↦ let more = count_by_more_yes p xs (i + suc k) d (omega arith) passes in omega arith
        | inr fails ↦
            let same = count_by_more_no p xs (i + suc k) d (omega arith) fails in
            let here = subst (λ (m : ℕ). 0 < count_by p (take m xs)) at before in
            omega arith
      ]

  pub counted_is_there : 0 < count_by p xs → (i : ℕ) × (i < length xs) × (p (get_or xs i d) ≡ true)
  counted_is_there some = found_before (length xs) (omega arith) (subst (λ (ys : List X). 0 < count_by p ys) (sym (take-length xs)) some)

  pub there_is_counted : (i : ℕ) → i < length xs → p (get_or xs i d) ≡ true → 0 < count_by p xs
  there_is_counted i lt holds =
      let rest = length xs - 1 - i in
      let end : i + rest + 1 ≡ length xs = omega arith in
      subst (λ (ys : List X). 0 < count_by p ys) (take-length xs)
      (subst (λ (m : ℕ). 0 < count_by p (take m xs)) end (counted_from i rest (omega arith) holds))

module _ (log : LogInOrder) (full : ℕ) where
  abbrev t : ClockEvents
  t = clocks_of log

  -- the verdict on the event at k, by the stamps that it saw claimed
  abbrev verdict_at : ℕ → Verdict
  verdict_at k = verdict_on t (seen_of log k) log.least k

  behind_found : (k : ℕ) (f : Option Finding) → is_behind f ≡ true → FindsAt log full k f → (stamp_told log k ≡ true) × (verdict_at k ≡ verdict.Behind)
  behind_found k None is named = absurd (cc)
  behind_found k (Some (Judged verdict.Behind)) is (told, named) = (told, sym named.0)
  behind_found k (Some (Judged (verdict.NotAbove d))) is named = absurd (cc)
  behind_found k (Some (Judged (verdict.Low p))) is named = absurd (cc)
  behind_found k (Some (Judged verdict.Least)) is named = absurd (cc)
  behind_found k (Some (Judged (verdict.Ahead p))) is named = absurd (cc)
  behind_found k (Some RolledOver) is named = absurd (cc)

  behind_shown : (k : ℕ) (f : Option Finding) → stamp_told log k ≡ true → verdict_at k ≡ verdict.Behind → FindsAt log full k f → is_behind f ≡ true
  behind_shown k None told is untold = told_or_not log full k told untold
  behind_shown k (Some (Judged v)) told is (_, named) = ap (λ (v : Verdict). is_behind (Some (Judged v))) (named.0 ∙ is)
  behind_shown k (Some RolledOver) told is (_, named) = let ahead = named.ahead in absurd (cc)

  not_above_found : (k : ℕ) (f : Option Finding) → is_not_above f ≡ true → FindsAt log full k f
      → (stamp_told log k ≡ true) × ((d : EventId) × (verdict_at k ≡ verdict.NotAbove d))
  not_above_found k None is named = absurd (cc)
  not_above_found k (Some (Judged verdict.Behind)) is named = absurd (cc)
  not_above_found k (Some (Judged (verdict.NotAbove d))) is (told, named) = (told, (d, sym named.0))
  not_above_found k (Some (Judged (verdict.Low p))) is named = absurd (cc)
  not_above_found k (Some (Judged verdict.Least)) is named = absurd (cc)
  not_above_found k (Some (Judged (verdict.Ahead p))) is named = absurd (cc)
  not_above_found k (Some RolledOver) is named = absurd (cc)

  not_above_shown : (k : ℕ) (f : Option Finding) (d : EventId) → stamp_told log k ≡ true → verdict_at k ≡ verdict.NotAbove d → FindsAt log full k f
      → is_not_above f ≡ true
  not_above_shown k None d told is untold = told_or_not log full k told untold
  not_above_shown k (Some (Judged v)) d told is (_, named) = ap (λ (v : Verdict). is_not_above (Some (Judged v))) (named.0 ∙ is)
  not_above_shown k (Some RolledOver) d told is (_, named) = let ahead = named.ahead in absurd (cc)

  module _ (counts : Counts) (are : AreCounted log full counts) where
    abbrev findings : List (Option Finding)
    findings = are.0

    abbrev found_at : ℕ → Option Finding
    found_at k = slice_index_or findings k None

    abbrev IsNotAbove : ℕ → EventId → Type 0
    IsNotAbove k d = BreaksAt log full k (NotAbovePrevious d) ⊎ BreaksAt log full k (NotAboveSend d)

    pub behind_there : 0 < counts.behind → (k : ℕ) × (k < length log.order) × BreaksAt log full k Behind
    behind_there some =
        let count = ap (λ (c : Counts). c.behind) are.2 in
        let at = counted_is_there is_behind findings None (omega arith) in
        let size = are.1.one_each in
        let lt : at.0 < length log.order = (let within = at.1 in omega arith) in
        let is = behind_found at.0 (found_at at.0) at.2 (are.1.each at.0 lt) in
        (at.0, lt, (is.0, (behind_is_cause t (seen_of log at.0) log.least full at.0).0 is.1))

    pub behind_counted : (k : ℕ) → k < length log.order → BreaksAt log full k Behind → 0 < counts.behind
    behind_counted k lt (told, breaks) =
        let count = ap (λ (c : Counts). c.behind) are.2 in
        let size = are.1.one_each in
        let is = (behind_is_cause t (seen_of log k) log.least full k).1 breaks in
        let shown = behind_shown k (found_at k) told is (are.1.each k lt) in
        let some = there_is_counted is_behind findings None k (omega arith) shown in
        omega arith

    pub not_above_there : 0 < counts.not_above → (k : ℕ) × (k < length log.order) × ((d : EventId) × IsNotAbove k d)
    not_above_there some =
        let count = ap (λ (c : Counts). c.not_above) are.2 in
        let at = counted_is_there is_not_above findings None (omega arith) in
        let size = are.1.one_each in
        let lt : at.0 < length log.order = (let within = at.1 in omega arith) in
        let is = not_above_found at.0 (found_at at.0) at.2 (are.1.each at.0 lt) in
        (at.0, lt, (is.1.0, by_first at.0 is.1.0 is.0 ((not_above_is_cause t (seen_of log at.0) log.least full at.0 is.1.0).0 is.1.1)))
      where
        by_first : (k : ℕ) (d : EventId) → stamp_told log k ≡ true
            → IsFirstOf (BreaksRule t (seen_of log k) full k) (NotAbovePrevious d) ⊎ IsFirstOf (BreaksRule t (seen_of log k) full k) (NotAboveSend d)
            → IsNotAbove k d
        by_first k d told (inl first) = inl (told, first.is)
        by_first k d told (inr first) = inr (told, first.is)

    not_above_told : (k : ℕ) (d : EventId) → IsNotAbove k d → stamp_told log k ≡ true
    not_above_told k d (inl previous) = previous.0
    not_above_told k d (inr send) = send.0

    either_rule : (k : ℕ) (d : EventId) → IsNotAbove k d
        → BreaksRule t (seen_of log k) full k (NotAbovePrevious d) ⊎ BreaksRule t (seen_of log k) full k (NotAboveSend d)
    either_rule k d (inl previous) = inl previous.1
    either_rule k d (inr send) = inr send.1

    -- but for those that are behind, too
    pub not_above_counted : (k : ℕ) (d : EventId) → k < length log.order → ¬ (0 < counts.behind) → IsNotAbove k d → 0 < counts.not_above
    not_above_counted k d lt none_behind breaks =
        let count = ap (λ (c : Counts). c.not_above) are.2 in
        let size = are.1.one_each in
        let seen = seen_of log k in
        let told = not_above_told k d breaks in
        let own = pair_at seen k in
        let floor = (clock_event_at t k).floor in
        let test = is_lt (stamp_cmp own floor) in
        let reached : IsReached t seen k = elim (cases_Bool test) [
          | inl below ↦ absurd (none_behind (behind_counted k lt (told, (behind_tested t seen k own floor test refl refl refl).0 below)))
          | inr reached ↦ reached_tested t seen k own floor test refl refl refl reached
        ] in
        let is = not_above_somewhere t seen full k log.least d reached (either_rule k d breaks) in
        let some = there_is_counted is_not_above findings None k (omega arith) (not_above_shown k (found_at k) is.0 told is.1 (are.1.each k lt)) in
        omega arith
