-- Records that are taken, one by one.
use Rattle.std.proofs.Common.{◌≡◌, ◌∙◌, ◌∷◌, [], List, Option, Some, None, Result, Ok, ℕ, ap, refl, subst, sym}
use Rattle.std.specs.Prelude.{unwrap_or}
use Rattle.std.specs.Io.KnownBytes.{Appends}
use Rattle.hlc_csv.specs.Rows.{Fields, field_of, text_of}
use Rattle.hlc_log.specs.declared.log_event.LogEvent.{LogEvent}
use Rattle.hlc_log_text.specs.LogItem.{LogItem, Tells}
use Rattle.hlc_log_text.specs.NamedEvent.{NamedEvent, if_message, message_place, told_by, with_extras}
use Rattle.hlc_log_text.specs.declared.bad_log.BadLog.{BadLog}
use Rattle.hlc_log_text.specs.declared.extras.Extras.{Extras}
use Rattle.hlc_log_text.specs.declared.log_header.RecordItem.TheVariants.{Event}
use Rattle.hlc_log_text.specs.declared.record_head.RecordHead.{RecordHead}
use Rattle.hlc_watch.specs.declared.file_line.FileLine.{FileLine}
use Rattle.hlc_watch.specs.declared.records.Records.{Records}
use Rattle.hlc_watched_log.specs.Files.{line_here}
use Rattle.hlc_watched_log.specs.Taken.{IsTaken, TakesEvent, TakesItem, TakesOr, ends_with}
use Rattle.hlc_watched_log.specs.Watched.{WatchedLog, bad_of, bad_row, complete_as, due_rows, event_by, event_on, event_rows, log_by, rows_by, said_event, unwatched, unwatched_by, with_event, with_named, without_bad}
use Rattle.hlc_watched_log.specs.Numbers.{name_number}
use Rattle.hlc_watched_log.specs.declared.log_names.LogNames.{LogNames}
use Rattle.hlc_watched_log.specs.declared.watch_rules.WatchRules.{WatchRules}
use Rattle.hlc_watched_log.proofs.RowsAdded.{appends_joined}

module _ (rules : WatchRules) (old : WatchedLog) (head : RecordHead) (extras : Extras) (placed : Fields) (from label : Option (List ℕ)) where
  abbrev pub named : NamedEvent
  named = with_extras extras (told_by head (field_of placed 1) (field_of placed (message_place rules.records.form)) from label)

  abbrev pub node : List ℕ
  node = field_of placed 1

  abbrev pub message : List ℕ
  message = unwrap_or (if_message head.word (field_of placed (message_place rules.records.form))) []

  -- an event is added by numbers, and told of
  pub event_taken : (event : LogEvent) (complete : List Records) (new : WatchedLog) (names : LogNames) (line : FileLine) (before mid after : Option (List ℕ))
      → None ≡ unwatched_by rules.records.form head.word head.has_stamp message (name_number old.names.nodes node)
      → event ≡ event_by old head extras node → complete ≡ complete_as rules old.kept old.files.current event message
      → new ≡ with_event rules old node message event → names ≡ new.names → line ≡ line_here new.files
      → Appends before mid (text_of (event_rows rules names complete line event))
      → Appends mid after (text_of (due_rows rules.every new))
      → (None ≡ unwatched rules.records.form old.names.nodes named) × TakesOr rules old (Some named) before after new None
  event_taken event complete new names line before mid after good event_is complete_is new_is names_are line_is first then =
      let here = event_on old named in
      let kept : new ≡ with_named rules old named = new_is ∙ ap (λ (e : LogEvent). with_event rules old node message e) event_is in
      let complete_here = complete_as rules old.kept old.files.current here message in
      let rows : event_rows rules names complete line event ≡ event_rows rules (with_named rules old named).names complete_here (line_here old.files) here =
      λ i. event_rows rules ((names_are ∙ ap (λ (l : WatchedLog). l.names) kept) i)
      ((complete_is ∙ ap (λ (e : LogEvent). complete_as rules old.kept old.files.current e message) event_is) i)
      ((line_is ∙ ap (λ (l : WatchedLog). line_here l.files) kept) i) (event_is i) in (
        good,
        (
          kept,
          appends_joined before mid after (event_rows rules (with_named rules old named).names complete_here (line_here old.files) here)
              (due_rows rules.every (with_named rules old named))
              (subst (λ (rows : List Fields). Appends before mid (text_of rows)) rows first)
              (subst (λ (l : WatchedLog). Appends mid after (text_of (due_rows rules.every l))) kept then),
        ),
      )

-- so is what a record tells of an event
pub item_taken : (rules : WatchRules) (head : RecordHead) (extras : Extras) (placed : Fields) (old : WatchedLog)
    (before after : Option (List ℕ)) (new : WatchedLog) (found : Option BadLog) → TakesEvent rules head extras placed old before after new found
    → TakesItem rules (Ok (Event head extras)) placed old before after new found
item_taken rules head extras placed old before after new found takes said is =
    let event = with_extras extras (told_by head (field_of placed 1) (field_of placed (message_place rules.records.form)) is.2.0 is.2.1) in
    let told : said ≡ Ok (Tells event) = is.1 ∙ ap (λ (item : LogItem). (let r : Result LogItem BadLog = Ok item in r)) is.2.2 in
    subst (λ (s : Result LogItem BadLog). (found ≡ bad_of rules.records.form old.names.nodes s) × TakesOr rules old (said_event s) before after new found)
    (sym told) (takes event (is.2.0, is.2.1, refl))

module _ (rules : WatchRules) (said : Result LogItem BadLog) (old : WatchedLog) (before after : Option (List ℕ)) (new : WatchedLog) where
  -- a record that isn't bad is answered
  pub good_taken : None ≡ bad_of rules.records.form old.names.nodes said → TakesOr rules old (said_event said) before after new None
      → IsTaken rules said old before after new None
  good_taken good takes = record {
    kept = takes.0 ∙ ap (λ (o : Option BadLog). log_by rules old o (said_event said)) good;
    written = subst (λ (o : Option BadLog). Appends before after (text_of (rows_by rules old o (said_event said)))) good takes.1;
    ends = ap (ends_with rules.records.faults) good;
  }

  -- a bad one is told of
  pub bad_taken : (why : BadLog) (mid : WatchedLog) (begun : Option (List ℕ)) (found : Option BadLog)
      → (let o : Option BadLog = Some why in o ≡ bad_of rules.records.form old.names.nodes said) → mid ≡ old → begun ≡ before
      → Appends begun after (text_of (bad_row mid.names.files (line_here mid.files) why ∷ [])) → new ≡ without_bad mid → found ≡ ends_with rules.records.faults (Some why)
      → IsTaken rules said old before after new found
  bad_taken why mid begun found bad same begins written new_is ends = record {
    kept = new_is ∙ ap without_bad same ∙ ap (λ (o : Option BadLog). log_by rules old o (said_event said)) bad;
    written =
        subst (λ (o : Option BadLog). Appends before after (text_of (rows_by rules old o (said_event said)))) bad
        (subst (λ (b : Option (List ℕ)). Appends b after (text_of (bad_row old.names.files (line_here old.files) why ∷ []))) begins
        (subst (λ (l : WatchedLog). Appends begun after (text_of (bad_row l.names.files (line_here l.files) why ∷ []))) same written));
    ends = ends ∙ ap (ends_with rules.records.faults) bad;
  }
