-- What a record says that is no header, by the word with which it begins.
use Rattle.std.proofs.Common.{◌≡◌, ◌∙◌, Bool, true, false, cond, ℕ, List, Option, Some, None, Result, Ok, Err, ap, length, refl}
use Rattle.std.specs.Prelude.{◌==◌}
use Rattle.hlc_csv.specs.Rows.{Fields, field_of}
use Rattle.hlc_log_text.specs.Columns.{arranged_after_word, columns_of, extras_after_word, from_in, no_extras}
use Rattle.hlc_log_text.specs.LogItem.{LogItem, Skips, asks, begins_as_skip, columns_after, events_in, extend, header_item, is_header, item_after, item_after_word, item_by_file, item_from, item_in, other_item, skip_item, unless_missing, unless_sent}
use Rattle.hlc_log_text.specs.FaultRule.{leaves_sent}
use Rattle.hlc_log_text.specs.FileMarks.{begun_file}
use Rattle.hlc_log_text.specs.NamedEvent.{NamedEvent}
use Rattle.hlc_log_text.specs.Question.{Asked, asked_of}
use Rattle.hlc_log_text.specs.declared.bad_log.BadLog.{BadLog}
use Rattle.hlc_log_text.specs.declared.bad_log.BadLog.TheVariants as bad
use Rattle.hlc_log_text.specs.LogWord.{log_word_of}
use Rattle.hlc_log_text.specs.Missing.{missing_after_word, missing_by}
use Rattle.hlc_log_text.specs.declared.columns.Columns.{Columns}
use Rattle.hlc_log_text.specs.declared.log_column.LogColumn.{LogColumn}
use Rattle.hlc_log_text.specs.declared.log_rules.LogRules.{LogRules}
use Rattle.hlc_log_text.specs.declared.log_word.LogWord.{LogWord}
use Rattle.hlc_log_text.specs.declared.record_syntax.RecordSyntax.{RecordSyntax}
use Rattle.hlc_log_text.specs.declared.record_syntax.RecordSyntax.TheVariants.{Csv, JsonLines}
use Rattle.hlc_log_text.specs.declared.stamp_form.StampForm.{StampForm}
use Rattle.hlc_log_text.proofs.ExtendedItems.{other_extended}

-- a record that is no header, and lacks a column or doesn't
pub unheaded : (rules : LogRules) (items : List LogItem) (fields : Fields) (missing : Option LogColumn) → is_header rules.syntax items fields ≡ false
    → missing_by rules.syntax rules.form fields ≡ missing → item_after rules items fields
    ≡ unless_missing missing (unless_sent (leaves_sent rules.faults rules.resent) (events_in items) (item_in rules (columns_after rules items) fields))
unheaded rules items fields missing plain is =
    let said = unless_sent (leaves_sent rules.faults rules.resent) (events_in items) (item_in rules (columns_after rules items) fields) in
    ap (λ (test : Bool). cond test (header_item rules.form (columns_of fields)) (unless_missing (missing_by rules.syntax rules.form fields) said)) plain
    ∙ ap (λ (m : Option LogColumn). unless_missing m said) is

-- one that begins with no word of an event lacks none
lacks_none : (syntax : RecordSyntax) (form : StampForm) (fields : Fields) → log_word_of (field_of fields 0) ≡ None → missing_by syntax form fields ≡ None
lacks_none Csv form fields none = refl
lacks_none JsonLines form fields none = ap (λ (w : Option LogWord). missing_after_word form w fields) none

-- and says what it says whatever the columns are
other_in : (rules : LogRules) (columns : Option Columns) (fields : Fields) → log_word_of (field_of fields 0) ≡ None → item_in rules columns fields ≡ other_item fields
other_in rules None fields none = ap (λ (w : Option LogWord). item_after_word rules None w fields) none
other_in rules (Some columns) fields none =
    ap (λ (w : Option LogWord). extend (extras_after_word rules.form columns w fields) (item_from rules (from_in columns fields) (arranged_after_word rules.form columns w fields))) none
    ∙ ap (λ (w : Option LogWord). extend (Ok no_extras) (item_after_word rules (from_in columns fields) w fields)) none
    ∙ other_extended no_extras fields

-- and isn't one of a send
other_unless_sent : (is_bad : Bool) (events : List NamedEvent) (fields : Fields) → unless_sent is_bad events (other_item fields) ≡ other_item fields
other_unless_sent false events fields = refl
other_unless_sent true events fields = by_file (begun_file fields) where
  asks_too : (asked : Result Asked BadLog) → unless_sent true events (asks asked) ≡ asks asked
  asks_too (Ok asked) = refl
  asks_too (Err why) = refl

  skips_too : (test : Bool) → (let r : Result LogItem BadLog = cond test (Ok Skips) (Err bad.Fields) in unless_sent true events r ≡ r)
  skips_too true = refl
  skips_too false = refl

  by_skip : (test : Bool) → unless_sent true events (cond test (skip_item fields) (asks (asked_of fields))) ≡ cond test (skip_item fields) (asks (asked_of fields))
  by_skip true = skips_too (length fields == 1)
  by_skip false = asks_too (asked_of fields)

  by_file : (file : Option (List ℕ)) → unless_sent true events (item_by_file file fields) ≡ item_by_file file fields
  by_file None = by_skip (begins_as_skip fields)
  by_file (Some name) = refl

pub other_after : (rules : LogRules) (items : List LogItem) (fields : Fields) → is_header rules.syntax items fields ≡ false → log_word_of (field_of fields 0) ≡ None
    → item_after rules items fields ≡ other_item fields
other_after rules items fields plain none =
    let is_bad = leaves_sent rules.faults rules.resent in
    unheaded rules items fields None plain (lacks_none rules.syntax rules.form fields none)
    ∙ ap (unless_sent is_bad (events_in items)) (other_in rules (columns_after rules items) fields none) ∙ other_unless_sent is_bad (events_in items) fields
