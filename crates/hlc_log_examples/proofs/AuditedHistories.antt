-- The audit of a history's own log.
use Rattle.hlc_log_text.specs.declared.file_mark.FileMark.{FileMark}
use Rattle.std.proofs.Common.{◌≡◌, ◌∙◌, Bool, false, true, cond, not, ℕ, zero, suc, ◌+◌, ◌<◌, inl, inr, List, [], ◌∷◌, ◌++◌, length, Option, None, append-nil, arith, refl, subst, sym, ap}
use Rattle.std.specs.Prelude.{codes, count_by}
use Rattle.std.proofs.lemmas.Bool.{cases_lt}
use Rattle.std.proofs.lemmas.List.{ext_get_or, get_or_past}
use Rattle.std.proofs.lemmas.List.Sums.{fold-append}
use Rattle.hlc_causality.specs.Places.{places_below}
use Rattle.hlc_causality.specs.declared.receives.Receives.TheVariants.{Tick}
use Rattle.hlc_arena.specs.History.{History}
use Rattle.hlc_csv.specs.Rows.{Fields}
use Rattle.hlc_log.specs.declared.log_event.LogEvent.{LogEvent}
use Rattle.hlc_log.specs.declared.log_event.LogKind.{LogKind}
use Rattle.hlc_log.specs.declared.log_event.LogKind.TheVariants as kind
use Rattle.hlc_log.specs.Events.{event_at, no_event, own_rule, rule_by}
use Rattle.hlc_log.specs.Faults.{IsFaultOf}
use Rattle.hlc_log.specs.Unsent.{with_unsent}
use Rattle.hlc_log.proofs.Agreement.{faults_leave_no_order}
use Rattle.hlc_log.proofs.UnsentEvents.{nothing_taken}
use Rattle.hlc_log_text.specs.ReadText.{ReadText}
use Rattle.hlc_log_text.specs.declared.question.LogQuestion.{LogQuestion}
use Rattle.hlc_log_audit.specs.Audit.{IsTextAudited, IsTold, all_asked, counted_row, missing_rows, taken_rows, unread_row, unstamped_row}
use Rattle.hlc_log_audit.specs.Laws.{IsCleanReport}
use Rattle.hlc_log_audit.specs.Report.{IsReport}
use Rattle.hlc_log_audit.specs.declared.outcome.Outcome.{Outcome}
use Rattle.hlc_log_audit.specs.declared.outcome.Outcome.TheVariants as outcome
use Rattle.hlc_log_audit.proofs.BrokenStamps.{counted_is_there}
use Rattle.hlc_ordered_log.specs.InOrder.{AreFilled, stamp_told}
use Rattle.hlc_ordered_log.specs.Outside.{is_from_outside}
use Rattle.hlc_ordered_log.specs.Unread.{is_unread}
use Rattle.hlc_ordered_log.specs.Unstamped.{is_unstamped}
use Rattle.hlc_ordered_log.proofs.Filled.{filled_told}
use Rattle.hlc_ordered_log.proofs.Ordering.{order_len}
use Rattle.hlc_log_audit.proofs.CleanReports.{least_stamps_are_sound, least_stamps_report_clean}
use Rattle.hlc_log_audit.proofs.SameAudits.{told_report}
use Rattle.hlc_log_audit.specs.LeftOut.{left_out_rows}
use Rattle.hlc_log_text.specs.declared.bad_log.BadLine.{BadLine}
use Rattle.hlc_open_log.proofs.PartsOpened.{all_opened}
use Rattle.hlc_history_log.specs.Laws.{IsClocked, IsLogRead}
use Rattle.hlc_history_log.proofs.HistoryLogs.{IsHistoryLog}
use Rattle.hlc_history_log.proofs.InOrder.{stamps_told}
use Rattle.hlc_history_log.proofs.LogLaws.{log_is_read, logs_audit_clean, logs_have_an_order, logs_tell_events_alone, logs_tell_nothing_carried, logs_tell_readings, logs_tell_stamps}
use Rattle.hlc_log_examples.specs.Laws.{HistoriesAuditSound, IsFoundSound, plain_rules}

-- what is so of no event has no row
none_counted : (word : List ℕ) (test : LogEvent → Bool) (events : List LogEvent)
    → ((e : ℕ) → e < length events → test (event_at events e) ≡ false) → counted_row word (count_by test events) ≡ []
none_counted word test events none = elim (cases_lt 0 (count_by test events)) [
  | inl some ↦
      let at = counted_is_there test events no_event some in
      absurd (let bad : ◌≡◌ {A = Bool} false true = sym (none at.0 at.1) ∙ at.2 in cc bad)
  | inr none_there ↦
      let zero : count_by test events ≡ 0 = omega arith in
      ap (counted_row word) zero
]

-- an event with no rule of its own isn't from outside
with_no_rule : (event : LogEvent) (k : LogKind) → rule_by Tick event k ≡ None → is_from_outside k ≡ false
with_no_rule event kind.Local none = refl
with_no_rule event (kind.Send m) none = refl
with_no_rule event (kind.Receive m) none = refl
with_no_rule event kind.Restart none = refl
with_no_rule event kind.Outside none = absurd (cc none)

-- so it is of events that tell their readings and their stamps and have no rule of their own
none_missing : (files : List FileMark) (events : List LogEvent) → ((e : ℕ) → e < length events → own_rule Tick (event_at events e) ≡ None)
    → ((e : ℕ) → e < length events → (event_at events e).has_reading ≡ true)
    → ((e : ℕ) → e < length events → (event_at events e).has_stamp ≡ true) → missing_rows files events None ≡ []
none_missing files events ruled read stamped =
    ap (λ (rows : List Fields). rows ++ (unread_row events ++ (unstamped_row events ++ [])))
    (none_counted (codes "outside") (λ event. is_from_outside event.kind) events (λ e lt. with_no_rule (event_at events e) (event_at events e).kind (ruled e lt)))
    ∙ ap (λ (rows : List Fields). rows ++ (unstamped_row events ++ []))
    (none_counted (codes "unread") is_unread events (λ e lt. ap not (read e lt)))
    ∙ append-nil (unstamped_row events)
    ∙ none_counted (codes "unstamped") is_unstamped events (λ e lt. ap not (stamped e lt))

-- events that tell their stamps are filled in as they are
all_told_filled : (events filled : List LogEvent) → ((e : ℕ) → e < length events → (event_at events e).has_stamp ≡ true) → AreFilled events filled
    → filled ≡ events
all_told_filled events filled told are =
    ext_get_or no_event filled events are.one_each (λ e lt.
    let size = are.one_each in
    let within : e < length events = omega arith in
    filled_told events filled are e within (told e within))

-- a test that holds of each place holds of all
all_counted : (test : ℕ → Bool) (n : ℕ) → ((k : ℕ) → k < n → test k ≡ true) → count_by test (places_below n) ≡ n
all_counted test zero each = refl
all_counted test (suc n) each =
    let before = all_counted test n (λ k lt. each k (omega arith)) in
    let last : ◌≡◌ {A = ℕ} (cond (test n) 1 0) 1 = ap (λ (b : Bool). cond b 1 0) (each n (omega arith)) in
    let more = fold-append (λ (m : ℕ) (k : ℕ). m + cond (test k) 1 0) 0 (places_below n) (n ∷ []) in
    omega (arith, more, before, last)

module _ (h : History) (clocked : IsClocked h) (report : Bool) (text : ReadText) (read : IsLogRead h text) where
  -- no message is told to have carried anything, so nothing came in from outside
  untold : (e : ℕ) → (event_at text.log.events e).carried ≡ None
  untold e = elim (cases_lt e (length text.log.events)) [
    | inl lt ↦ logs_tell_nothing_carried h text e clocked read lt
    | inr past ↦ ap (λ (event : LogEvent). event.carried) (get_or_past text.log.events e no_event (omega arith))
  ]

  taken : text.log.events ≡ with_unsent false text.log.events
  taken = nothing_taken text.log.events untold

  is_history : IsHistoryLog h.events text.log.events
  is_history = log_is_read h clocked text read

  nothing_missing : missing_rows text.details.files text.log.events None ≡ []
  nothing_missing = none_missing text.details.files text.log.events
      (λ e lt. is_history.no_rule Tick e (let size = is_history.size in omega arith))
      (λ e lt. logs_tell_readings h text e clocked read lt)
      (λ e lt. logs_tell_stamps h text e clocked read lt)

  told_sound : (before after : Option (List ℕ)) (result : Outcome) → IsTold text (plain_rules report) [] before after result
      → IsFoundSound h before after result
  told_sound before after result told =
      let rules = plain_rules report in
      let alone = logs_tell_events_alone h text clocked read in
      let opened = told.opened in
      let is = told.is_opened in
      let in_order = is.ordered.in_order in
      let log = opened.log in
      let all = all_opened rules.records.faults _ is.ordered.rest is.kept is.lines (λ first. cc first) is.ordered.part in
      let filled : AreFilled text.log.events log.events =
      subst (λ (events : List LogEvent). AreFilled events log.events) (all.0 ∙ sym taken) is.ordered.filled in
      let events : log.events ≡ text.log.events =
      all_told_filled text.log.events log.events (λ e lt. logs_tell_stamps h text e clocked read lt) filled in
      let told_each : (k : ℕ) → k < length log.order → stamp_told log k ≡ true =
      stamps_told h.events log (subst (IsHistoryLog h.events) (sym events) is_history) in_order.causal in
      let clean = logs_audit_clean h text log clocked read is.ordered.receives events in_order in
      let same = clean.0 in
      let right = clean.1 in
      let none_skipped : opened.skipped ≡ None = is.skipped ∙ alone.2 in
      let none_asked : all_asked opened.questions [] ≡ [] = ap (λ (questions : List LogQuestion). all_asked questions []) (is.questions ∙ alone.1) in
      let whole = told_report opened rules (all_asked opened.questions []) told.rows none_asked told.told in
      let is_report : IsReport opened.files opened.nodes log opened.full told.rows =
      subst (IsReport opened.files opened.nodes log opened.full)
      (sym (
      whole.4
      ∙ ap (λ (left_out : List BadLine). (((whole.0 ++ taken_rows opened.unsent opened.resent) ++ missing_rows opened.files log.events opened.skipped) ++ left_out_rows opened.files left_out) ++ whole.1)
      (is.left_out ∙ ap (λ (lines : List BadLine). text.details.left_out ++ lines) all.1 ∙ append-nil text.details.left_out ∙ alone.3)
      ∙ ap (λ (rows : List Fields). rows ++ whole.1) (append-nil ((whole.0 ++ taken_rows opened.unsent opened.resent) ++ missing_rows opened.files log.events opened.skipped))
      ∙ (λ i. ((whole.0 ++ taken_rows (is.ordered.taken i) (is.ordered.again i)) ++ missing_rows opened.files log.events opened.skipped) ++ whole.1)
      ∙ ap (λ (missing : List Fields). ((whole.0 ++ []) ++ missing) ++ whole.1) ((λ i. missing_rows (is.files i) (events i) (none_skipped i)) ∙ nothing_missing)
      ∙ ap (λ (over : List Fields). ((whole.0 ++ []) ++ []) ++ over) whole.3
      ∙ append-nil ((whole.0 ++ []) ++ []) ∙ append-nil (whole.0 ++ []) ∙ append-nil whole.0
      )) whole.2 in
      record {
        sound = least_stamps_are_sound log rules result in_order same right (λ beyond. beyond) told.outcome;
        text = text;
        read = read;
        log = log;
        receives = is.ordered.receives;
        events = events;
        in_order = in_order;
        rows = told.rows;
        one_each = ap (λ (all : List LogEvent). length all) events ∙ alone.0;
        all_told = all_counted (stamp_told log) (length log.order) told_each ∙ order_len log.events log.order in_order.causal;
        clean =
            subst (λ (nodes : List (List ℕ)). IsCleanReport text.details.files nodes log told.rows) is.nodes
            (subst (λ (files : List FileMark). IsCleanReport files opened.nodes log told.rows) is.files
            (least_stamps_report_clean opened.files opened.nodes log opened.full told.rows in_order same right is_report));
        written = told.written;
      }

  no_fault : (before after : Option (List ℕ)) → IsTextAudited text (plain_rules report) [] before after outcome.BadLog → ⊥
  no_fault before after (bad, none, shown) =
      let order = logs_have_an_order h text clocked read in
      let log = order.0 in
      let is_fault = subst (λ (events : List LogEvent). IsFaultOf events none.fault) (sym (order.2 ∙ taken)) none.is_fault in
      faults_leave_no_order log.events none.fault is_fault none.known order.3.messages log.order order.3.causal

  audited_sound : (before after : Option (List ℕ)) (result : Outcome) → IsTextAudited text (plain_rules report) [] before after result
      → IsFoundSound h before after result
  audited_sound before after outcome.BadLog left = absurd (no_fault before after left)
  audited_sound before after outcome.Sound told = told_sound before after outcome.Sound told
  audited_sound before after outcome.OverLimit told = told_sound before after outcome.OverLimit told
  audited_sound before after (outcome.Broken over) told = told_sound before after (outcome.Broken over) told

pub histories_audit_sound : HistoriesAuditSound
histories_audit_sound h report before after result clocked audited =
    audited_sound h clocked report audited.text audited.read before after result audited.left
