-- Which rows are told of a log.
use Rattle.std.proofs.Common.{◌≡◌, ◌∙◌, ◌==◌, true, false, ℕ, inl, inr, List, [], ◌∷◌, ◌++◌, Option, ap, length, refl, subst, sym}
use Rattle.std.specs.Io.KnownBytes.{Appends}
use Rattle.hlc_log_text.specs.declared.bad_log.BadLine.{BadLine}
use Rattle.hlc_log_text.specs.declared.log_rules.LogRules.{LogRules}
use Rattle.hlc_log_text.specs.ReadText.{ReadText}
use Rattle.hlc_log_text.specs.declared.question.LogQuestion.{LogQuestion}
use Rattle.hlc_open_log.specs.Opened.{IsOpened, IsOpenedOf, OpenedLog, labels_kept}
use Rattle.hlc_open_log.specs.Unopened.{ExplainsOpenFault, bad_text}
use Rattle.hlc_open_log.specs.declared.bad_input.BadInput.{BadInput}
use Rattle.hlc_open_log.specs.declared.bad_input.BadInput.TheVariants.{Events, Records}
use Rattle.hlc_open_log.specs.declared.fault.OpenFault.TheVariants.{Bad}
use Rattle.hlc_open_log.specs.declared.fault.OpenFault.{OpenFault}
use Rattle.hlc_csv.specs.Rows.{Fields, text_of}
use Rattle.hlc_csv.specs.declared.records_fault.RecordsFault.{RecordsFault}
use Rattle.hlc_csv.specs.declared.records_fault.RecordsFault.TheVariants as ended
use Rattle.hlc_log_audit.specs.Audit.{AreRowsTold, EndsAudit, IsAudited, IsBadTold, IsOutcome, IsTextAudited, IsTold, StopsAudit, StopsOpening, all_asked, is_reported}
use Rattle.hlc_log_audit.specs.declared.audited.Audited.{Audited}
use Rattle.hlc_log_audit.specs.declared.outcome.Outcome.{Outcome}
use Rattle.hlc_log_audit.specs.declared.outcome.Outcome.TheVariants.{BadLog, Broken, OverLimit, Sound}
use Rattle.hlc_log_audit.specs.declared.rules.AuditRules.{AuditRules}

-- if the log asks questions, the rules alone say whether the report is written
pub asked_in_log : (rules : AuditRules) (questions asked : List LogQuestion) → rules.report ≡ false → (length questions == 0) ≡ false
    → is_reported rules (all_asked questions asked) ≡ false
asked_in_log rules [] asked unwanted none = let both : true ≡ false = none in absurd cc
asked_in_log rules (q ∷ qs) asked unwanted none = unwanted

-- a log of which rows are told is no bad log
pub told_is_audited : (text : ReadText) (rules : AuditRules) (asked : List LogQuestion) (before after : Option (List ℕ)) (result : Outcome)
    → IsTold text rules asked before after result → IsTextAudited text rules asked before after result
told_is_audited text rules asked before after Sound told = told
told_is_audited text rules asked before after OverLimit told = told
told_is_audited text rules asked before after (Broken over) told = told
told_is_audited text rules asked before after BadLog told = absurd told.outcome

-- two logs that are opened of one text differ in their orders alone
pub opened_alike : (rules : LogRules) (text : ReadText) (one other : OpenedLog) (is : IsOpenedOf rules text one) (other_is : IsOpenedOf rules text other)
    → other_is.kept ≡ is.kept → other_is.lines ≡ is.lines → other ≡ record one { log = other.log }
opened_alike rules text one other is other_is kept lines =
    let files : other.files ≡ one.files = other_is.files ∙ sym is.files in
    let nodes : other.nodes ≡ one.nodes = other_is.nodes ∙ sym is.nodes in
    let labels : other.labels ≡ one.labels = other_is.labels ∙ ap (λ (k : Option (List ℕ)). labels_kept k text.details.labels) kept ∙ sym is.labels in
    let questions : other.questions ≡ one.questions = other_is.questions ∙ sym is.questions in
    let unsent : other.unsent ≡ one.unsent = other_is.ordered.taken ∙ sym is.ordered.taken in
    let resent : other.resent ≡ one.resent = other_is.ordered.again ∙ sym is.ordered.again in
    let skipped : other.skipped ≡ one.skipped = other_is.skipped ∙ sym is.skipped in
    let left_out : other.left_out ≡ one.left_out = other_is.left_out ∙ ap (λ (more : List BadLine). text.details.left_out ++ more) lines ∙ sym is.left_out in
    let full : other.full ≡ one.full = other_is.full ∙ sym is.full in
    λ i. record {
      log = other.log;
      files = files i;
      nodes = nodes i;
      labels = labels i;
      questions = questions i;
      unsent = unsent i;
      resent = resent i;
      skipped = skipped i;
      left_out = left_out i;
      full = full i;
    }

-- bad input of which the rows were written was audited
pub bad_is_audited : (rules : AuditRules) (most : ℕ) (asked : List LogQuestion) (bytes before after : Option (List ℕ)) (bad : BadInput)
    → ExplainsOpenFault rules.records most bytes (Bad bad) → Appends before after (bad_text bad) → IsAudited rules most asked bytes before after BadLog
bad_is_audited rules most asked bytes before after (Records records) read shown =
    inr (record { told = records.items; read = read; text = shown; is_bad = refl })
bad_is_audited rules most asked bytes before after (Events events) (text, read, none) shown =
    inl (record { text = text; read = read; left = (events.items, none, shown) })

module _ (rules : AuditRules) (most : ℕ) (asked : List LogQuestion) (bytes before after : Option (List ℕ)) where
  -- so ends the audit of a log that was opened, of which rows were told
  pub opened_ends : (opened : OpenedLog) (audited : Audited) → IsOpened rules.records most bytes opened
      → ((told : List Fields) × AreRowsTold opened rules (all_asked opened.questions asked) told × Appends before after (text_of told)
      × IsOutcome rules opened.log audited.outcome) → audited.events ≡ length opened.log.events
      → EndsAudit rules most asked bytes before after audited
  opened_ends opened audited is told counted = (
    inl (record {
      text = is.0;
      read = is.1;
      left =
          told_is_audited is.0 rules asked before after audited.outcome
          (record { opened = opened; is_opened = is.2; rows = told.0; told = told.1; written = told.2; outcome = told.3 });
    }),
    λ _. (opened, is, counted),
  )

  -- and so that of bad input, of which that was told
  pub bad_ends : (fault : OpenFault) (audited : Audited) → ExplainsOpenFault rules.records most bytes fault → IsBadTold fault before after audited
      → EndsAudit rules most asked bytes before after audited
  bad_ends fault audited explained (bad, is, shown, is_bad) = (
    subst (IsAudited rules most asked bytes before after) (sym is_bad)
        (bad_is_audited rules most asked bytes before after bad (subst (ExplainsOpenFault rules.records most bytes) is explained) shown),
    λ good. absurd (good is_bad),
  )

-- why an input couldn't be read is why its audit ends before
pub stops_with : {W : Type 0} (rules : LogRules) (most : ℕ) (bytes : Option (List ℕ)) (old new : W) (fault : OpenFault)
    → ExplainsOpenFault rules most bytes fault → (why : RecordsFault) → StopsOpening fault old new why → StopsAudit rules most bytes old new why
stops_with rules most bytes old new fault explained ended.Read stops = stops.1
stops_with rules most bytes old new fault explained ended.Write stops = tt
stops_with rules most bytes old new fault explained ended.TooLong stops =
    (subst (ExplainsOpenFault rules most bytes) stops.0 explained, stops.1)
stops_with rules most bytes old new fault explained ended.Memory stops = tt
