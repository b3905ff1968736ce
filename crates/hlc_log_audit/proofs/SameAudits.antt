-- Two audits of one log leave the same.
use Rattle.hlc_log_text.specs.declared.file_mark.FileMark.{FileMark}
use Rattle.std.proofs.Common.{◌≡◌, ◌∙◌, ◌⊎◌, Bool, true, false, ℕ, inl, inr, List, [], ◌∷◌, ◌++◌, Option, None, Some, append-nil, arith, refl, subst, sym, ap}
use Rattle.std.proofs.lemmas.Bool.{cases_eq, cases_order}
use Rattle.hlc_csv.specs.Rows.{Fields, text_of}
use Rattle.hlc_log.specs.declared.log_event.LogEvent.{LogEvent}
use Rattle.hlc_log.specs.declared.order_fault.OrderFault.{OrderFault}
use Rattle.hlc_log.specs.declared.order_fault.OrderFault.TheVariants.{Cycle, Memory, SentTwice, Unsent}
use Rattle.hlc_log.specs.CausalOrder.{IsCausalOrder, Waits}
use Rattle.hlc_log.specs.Events.{event_at}
use Rattle.hlc_log.specs.Faults.{IsFaultOf, IsFirst, StandsFirst}
use Rattle.hlc_log.specs.Messages.{AreMessagesSound, ReceivesUnsent, SendsAgain}
use Rattle.hlc_log.proofs.Agreement.{faults_leave_no_order}
use Rattle.hlc_log.proofs.StandingEvents.{stands_either_way}
use Rattle.hlc_log_text.specs.Question.{Asked}
use Rattle.hlc_log_text.specs.declared.bad_log.BadLine.{BadLine}
use Rattle.hlc_log_text.specs.ReadText.{LinesRise, ReadText}
use Rattle.hlc_log_text.specs.declared.question.LogQuestion.{LogQuestion}
use Rattle.hlc_log_text.specs.declared.skipped.Skipped.{Skipped}
use Rattle.hlc_log_audit.specs.Answers.{AreAnswers}
use Rattle.hlc_ordered_log.specs.InOrder.{AreFilled, IsInOrder, LogInOrder, filled_event}
use Rattle.hlc_ordered_log.proofs.Filled.{filled_causal, filled_itself, filled_sound}
use Rattle.hlc_ordered_log.proofs.GivenStamps.{filled_twice}
use Rattle.hlc_ordered_log.proofs.Rearranged.{given_stamps_agree, one_log, tell_the_same}
use Rattle.hlc_log_audit.proofs.SameAnswers.{answers_agree}
use Rattle.hlc_open_log.specs.Opened.{IsPartOf, OpenedLog, opened_events, resent_apart}
use Rattle.hlc_open_log.specs.Unopened.{IsRefused}
use Rattle.hlc_open_log.proofs.PartsOpened.{part_rises}
use Rattle.hlc_open_log.proofs.OpenedLogs.{one_text}
use Rattle.hlc_log_audit.specs.LeftOut.{left_out_rows}
use Rattle.hlc_log_audit.specs.Audit.{IsReportIf, is_reported, AreRowsTold, IsDisorderShown, IsTextAudited, IsTold, all_asked, missing_rows, taken_rows}
use Rattle.hlc_log_audit.specs.Laws.{AuditsAgree}
use Rattle.hlc_log_audit.specs.Report.{AreOverRows, IsReport}
use Rattle.hlc_log_audit.specs.declared.outcome.Outcome.{Outcome}
use Rattle.hlc_log_audit.specs.declared.outcome.Outcome.TheVariants as outcome
use Rattle.hlc_log_audit.specs.declared.rules.AuditRules.{AuditRules}
use Rattle.hlc_open_log.proofs.LinesKept.{rise_apart, rise_filled, rise_kept}
use Rattle.hlc_log_audit.proofs.OverRows.{same_over_rows}
use Rattle.hlc_log_audit.proofs.SameOutcomes.{outcomes_agree}
use Rattle.hlc_log_audit.proofs.SameReports.{reports_agree}
use Rattle.hlc_log_audit.proofs.SameParts.{no_fault_of_part, one_part}
use Rattle.hlc_log_audit.proofs.Telling.{opened_alike}

-- filled events, with the stamps that they had
pub unfilled : (events filled : List LogEvent) → AreFilled events filled → AreFilled filled events
unfilled events filled are =
    let size = are.one_each in
    record {
      one_each = sym size;
      each = λ e lt.
          let own = event_at events e in
          sym (ap (λ (x : LogEvent). filled_event x own.stamp) (are.each e (omega arith))
          ∙ filled_twice own (event_at filled e).stamp own.stamp ∙ filled_itself own);
    }

-- a log has one fault
one_first : (P : ℕ → Type 0) (d e : ℕ) → IsFirst P d → IsFirst P e → d ≡ e
one_first P d e a b = elim (cases_order d e) [
  | inl same ↦ same
  | inr differ ↦ elim differ [ inl lt ↦ absurd (b.first d lt a.has) | inr gt ↦ absurd (a.first e gt b.has) ]
]

one_stands_first : (events : List LogEvent) (P : ℕ → Type 0) (d e : ℕ) → StandsFirst events P d → StandsFirst events P e → d ≡ e
one_stands_first events P d e a b = elim (cases_eq d e) [
  | inl same ↦ same
  | inr differ ↦ elim (stands_either_way events d e differ) [ inl before ↦ absurd (b.first d before a.has) | inr after ↦ absurd (a.first e after b.has) ]
]

one_fault : (events : List LogEvent) (a b : OrderFault) → ¬ (a ≡ Memory) → ¬ (b ≡ Memory) → IsFaultOf events a → IsFaultOf events b → a ≡ b
one_fault events Memory b a_other b_other p q = absurd (a_other refl)
one_fault events (SentTwice d) (SentTwice e) a_other b_other p q = ap (λ (n : ℕ). SentTwice (record { 0 = n })) (one_first (SendsAgain events) d.0 e.0 p q)
one_fault events (SentTwice d) (Unsent e) a_other b_other p q = absurd (q.0 d.0 p.has)
one_fault events (SentTwice d) (Cycle e) a_other b_other p q = absurd (q.0.once d.0 p.has)
one_fault events (SentTwice d) Memory a_other b_other p q = absurd (b_other refl)
one_fault events (Unsent d) (SentTwice e) a_other b_other p q = absurd (p.0 e.0 q.has)
one_fault events (Unsent d) (Unsent e) a_other b_other p q = ap (λ (n : ℕ). Unsent (record { 0 = n })) (one_first (ReceivesUnsent events) d.0 e.0 p.1 q.1)
one_fault events (Unsent d) (Cycle e) a_other b_other p q = absurd (q.0.sent d.0 p.1.has)
one_fault events (Unsent d) Memory a_other b_other p q = absurd (b_other refl)
one_fault events (Cycle d) (SentTwice e) a_other b_other p q = absurd (p.0.once e.0 q.has)
one_fault events (Cycle d) (Unsent e) a_other b_other p q = absurd (p.0.sent e.0 q.1.has)
one_fault events (Cycle d) (Cycle e) a_other b_other p q = ap (λ (n : ℕ). Cycle (record { 0 = n })) (one_stands_first events (Waits events) d.0 e.0 p.1 q.1)
one_fault events (Cycle d) Memory a_other b_other p q = absurd (b_other refl)

-- if nothing is asked, the rows are the report, how many receives were taken as local, of how many events something isn't told, and which claims are
-- over the limit
no_answers : (files : List FileMark) (nodes : List (List ℕ)) (labels : List (ℕ × List ℕ)) (log : LogInOrder) (full : ℕ) (answers : List Fields)
    → AreAnswers files nodes labels log full [] answers → answers ≡ []
no_answers files nodes labels log full [] are = refl
no_answers files nodes labels log full (row ∷ rows) are = absurd are

pub told_report : (opened : OpenedLog) (rules : AuditRules) (asked : List Asked) (rows : List Fields) → asked ≡ [] → AreRowsTold opened rules asked rows
    → (report over : List Fields) × IsReport opened.files opened.nodes opened.log opened.full report × AreOverRows opened.files opened.nodes opened.log rules.limit over
    × (rows ≡ (((report ++ taken_rows opened.unsent opened.resent) ++ missing_rows opened.files opened.log.events opened.skipped) ++ left_out_rows opened.files opened.left_out) ++ over)
told_report opened rules asked rows nothing told =
    let alone : AreRowsTold opened rules [] rows = subst (λ (questions : List Asked). AreRowsTold opened rules questions rows) nothing told in
    let reported = alone.is_report in (
      reported.0,
      reported.1,
      reported.2,
      reported.3,
      alone.rows_are
          ∙ ap (λ (answers : List Fields). alone.report ++ answers)
          (no_answers opened.files opened.nodes opened.labels opened.log opened.full alone.answers alone.are_answers)
          ∙ append-nil alone.report ∙ reported.4,
    )

-- one report, if it is to be written, and one list of answers
module _ (files : List FileMark) (nodes : List (List ℕ)) (labels : List (ℕ × List ℕ)) (log other : LogInOrder) (full : ℕ)
    (ordered : IsInOrder log) (other_ordered : IsInOrder other) (clocks : other.receives ≡ log.receives)
    (same : other.events ≡ log.events) (rise : LinesRise log.events) where
  one_report : (is_told : Bool) (unsent resent : Option ℕ) (skipped : Option Skipped) (left_out : List BadLine) (limit : Option ℕ) (rows others : List Fields)
      → IsReportIf files is_told nodes log full unsent resent skipped left_out limit rows → IsReportIf files is_told nodes other full unsent resent skipped left_out limit others
      → others ≡ rows
  one_report false unsent resent skipped left_out limit rows others is other_is = other_is ∙ sym is
  one_report true unsent resent skipped left_out limit rows others (report, over, is_report, are_over, is) (other_report, other_over, other_is_report, other_are_over, other_is) =
      other_is
      ∙ ap (λ (r : List Fields). (((r ++ taken_rows unsent resent) ++ missing_rows files other.events skipped) ++ left_out_rows files left_out) ++ other_over)
      (reports_agree files nodes log other full report other_report ordered other_ordered clocks same is_report other_is_report)
      ∙ ap (λ (events : List LogEvent). (((report ++ taken_rows unsent resent) ++ missing_rows files events skipped) ++ left_out_rows files left_out) ++ other_over) same
      ∙ ap (λ (r : List Fields). (((report ++ taken_rows unsent resent) ++ missing_rows files log.events skipped) ++ left_out_rows files left_out) ++ r)
      (same_over_rows files nodes log other ordered other_ordered clocks same rise limit over other_over are_over other_are_over)
      ∙ sym is

  same_answers : (questions : List Asked) (rows others : List Fields) → AreAnswers files nodes labels log full questions rows
      → AreAnswers files nodes labels other full questions others → others ≡ rows
  same_answers [] [] [] are others_are = refl
  same_answers [] [] (other_row ∷ others) are others_are = absurd others_are
  same_answers [] (row ∷ rows) others are others_are = absurd are
  same_answers (question ∷ questions) [] others are others_are = absurd are
  same_answers (question ∷ questions) (row ∷ rows) [] are others_are = absurd others_are
  same_answers (question ∷ questions) (row ∷ rows) (other_row ∷ others) are others_are =
      ap (λ (r : Fields). r ∷ others) (answers_agree files nodes labels log other full question row other_row ordered other_ordered clocks same rise are.0 others_are.0)
      ∙ ap (λ (rs : List Fields). row ∷ rs) (same_answers questions rows others are.1 others_are.1)

module _ (text : ReadText) (rules : AuditRules) (asked : List LogQuestion)
    (rise : LinesRise text.log.events) (before after others : List ℕ) where
  abbrev events : List LogEvent
  events = opened_events rules.records text.messages text.log.events

  abbrev IsBad : List ℕ → Type 0
  IsBad bytes = IsDisorderShown rules.records.faults text.details.files text.message_names events (Some before) (Some bytes)

  abbrev Leaves : List ℕ → Outcome → Type 0
  Leaves bytes result = IsTold text rules asked (Some before) (Some bytes) result

  told_or_bad : (bytes : List ℕ) (result : Outcome) → IsTextAudited text rules asked (Some before) (Some bytes) result
      → Leaves bytes result ⊎ ((result ≡ outcome.BadLog) × IsBad bytes)
  told_or_bad bytes outcome.BadLog bad = inr (refl, bad)
  told_or_bad bytes outcome.Sound told = inl told
  told_or_bad bytes outcome.OverLimit told = inl told
  told_or_bad bytes (outcome.Broken over) told = inl told

  -- the events that are opened have an order
  rest_causal : (bytes : List ℕ) (result : Outcome) (told : Leaves bytes result) → IsCausalOrder told.is_opened.ordered.rest told.opened.log.order
  rest_causal bytes result told =
      let log = told.opened.log in
      let is = told.is_opened.ordered in
      filled_causal log.events is.rest (unfilled is.rest log.events is.filled) log.order is.in_order.causal

  rest_sound : (bytes : List ℕ) (result : Outcome) (told : Leaves bytes result) → AreMessagesSound told.is_opened.ordered.rest
  rest_sound bytes result told =
      let log = told.opened.log in
      let is = told.is_opened.ordered in
      filled_sound log.events is.rest (unfilled is.rest log.events is.filled) is.in_order.messages

  no_fault : (rest : List LogEvent) (kept : Option (List ℕ)) (lines : List BadLine) → IsPartOf rules.records.faults events rest kept lines
      → AreMessagesSound rest → (order : List ℕ) → IsCausalOrder rest order
      → (fault : OrderFault) → IsFaultOf events fault → IsRefused rules.records.faults fault → ¬ (fault ≡ Memory) → ⊥
  no_fault rest None lines is sound order causal fault is_fault refused known =
      faults_leave_no_order events fault is_fault known (subst AreMessagesSound is.0 sound) order
      (subst (λ (es : List LogEvent). IsCausalOrder es order) is.0 causal)
  no_fault rest (Some kept) lines is sound order causal fault is_fault refused known =
      no_fault_of_part rules.records.faults events rest kept lines is fault is_fault refused known

  not_both : (bytes other_bytes : List ℕ) (result : Outcome) → Leaves bytes result → IsBad other_bytes → ⊥
  not_both bytes other_bytes result told (bad, none, shown) =
      let is = told.is_opened.ordered in
      no_fault is.rest told.is_opened.kept told.is_opened.lines is.part (rest_sound bytes result told) told.opened.log.order (rest_causal bytes result told)
      none.fault none.is_fault none.refused none.known

  bad_bytes : IsBad after → IsBad others → others ≡ after
  bad_bytes (bad, none, shown) (other, other_none, other_shown) =
      let same : other_none.fault ≡ none.fault =
      one_fault events other_none.fault none.fault other_none.known none.known other_none.is_fault none.is_fault in
      other_shown ∙ ap (λ (row : List ℕ). before ++ row) (one_text rules.records.faults text.details.files text.message_names events bad other none other_none same) ∙ sym shown

  told_same : (result other_result : Outcome) → Leaves after result → Leaves others other_result → (other_result ≡ result) × (others ≡ after)
  told_same result other_result told other_told =
      let opened = told.opened in
      let log = opened.log in
      let other = other_told.opened.log in
      let is = told.is_opened.ordered in
      let other_is = other_told.is_opened.ordered in
      let clocks : other.receives ≡ log.receives = other_is.receives ∙ sym is.receives in
      let parts = one_part rules.records.faults events is.rest other_is.rest told.is_opened.kept other_told.is_opened.kept told.is_opened.lines
      other_told.is_opened.lines is.part other_is.part log.order (rest_causal after result told) other.order (rest_causal others other_result other_told) in
      let same : other.events ≡ log.events =
      given_stamps_agree is.rest log other clocks is.in_order other_is.in_order is.filled
      (subst (λ (es : List LogEvent). AreFilled es other.events) parts.1 other_is.filled) in
      let one = one_log log other clocks is.in_order other_is.in_order same in
      let log_rise : LinesRise log.events = rise_filled is.rest log.events is.filled (part_rises _ _ _ _ _ is.part
      (rise_kept rules.records.unsent_local
      (resent_apart rules.records.resent text.messages text.log.events) (rise_apart rules.records.resent text.messages text.log.events rise))) in
      let first = told.told in
      let second : AreRowsTold (record opened { log = other }) rules (all_asked opened.questions asked) other_told.rows =
      subst (λ (o : OpenedLog). AreRowsTold o rules (all_asked o.questions asked) other_told.rows)
      (opened_alike rules.records text opened other_told.opened told.is_opened other_told.is_opened parts.0 parts.2) other_told.told in
      let questions = all_asked opened.questions asked in
      let report =
      one_report opened.files opened.nodes opened.labels log other opened.full is.in_order other_is.in_order clocks same log_rise (is_reported rules questions)
      opened.unsent opened.resent opened.skipped opened.left_out rules.limit first.report second.report first.is_report second.is_report in
      let answers =
      same_answers opened.files opened.nodes opened.labels log other opened.full is.in_order other_is.in_order clocks same log_rise questions
      first.answers second.answers first.are_answers second.are_answers in
      let rows : other_told.rows ≡ told.rows =
      second.rows_are ∙ ap (λ (r : List Fields). r ++ second.answers) report ∙ ap (λ (r : List Fields). first.report ++ r) answers
      ∙ sym first.rows_are in (
        outcomes_agree log other (λ e. e) (λ e. e) (tell_the_same log other (λ e. e) (λ e. e) one) rules result other_result told.outcome other_told.outcome,
        other_told.written ∙ ap (λ (r : List Fields). before ++ text_of r) rows ∙ sym told.written,
      )

  both_left : (result other_result : Outcome) → Leaves after result ⊎ ((result ≡ outcome.BadLog) × IsBad after)
      → Leaves others other_result ⊎ ((other_result ≡ outcome.BadLog) × IsBad others) → (other_result ≡ result) × (others ≡ after)
  both_left result other_result (inl told) (inl other_told) = told_same result other_result told other_told
  both_left result other_result (inl told) (inr bad) = absurd (not_both after others result told bad.1)
  both_left result other_result (inr bad) (inl told) = absurd (not_both others after other_result told bad.1)
  both_left result other_result (inr bad) (inr other_bad) = (other_bad.0 ∙ sym bad.0, bad_bytes bad.1 other_bad.1)

pub audits_agree : AuditsAgree
audits_agree text rules asked before after others result other_result rise left other_left =
    both_left text rules asked rise before after others result other_result
    (told_or_bad text rules asked rise before after others after result left)
    (told_or_bad text rules asked rise before after others others other_result other_left)
