-- What a record says with the stamp that it tells as carried and its seq.
use Rattle.std.proofs.Common.{◌≡◌, ◌∙◌, ◌&&◌, Bool, true, false, cond, List, ℕ, Option, Some, None, Ok, Err, Result, ap, length, ◌==◌, refl}
use Rattle.hlc_csv.specs.Rows.{Fields, field_of}
use Rattle.hlc_log_text.specs.Columns.{no_extras}
use Rattle.hlc_log_text.specs.LogItem.{LogItem, Skips, Tells, asks, begins_as_skip, extend, item_after_word, item_by_file, item_from, other_item, skip_item, tells, unless_sent}
use Rattle.hlc_log_text.specs.FileMarks.{begun_file}
use Rattle.hlc_log_text.specs.LogWord.{log_word_of}
use Rattle.hlc_log_text.specs.NamedEvent.{NamedEvent, head_of, head_with_extras, label_of, message_place, named_event_from, sends_again, told_by, whole_head_of, with_extras}
use Rattle.hlc_log_text.specs.Question.{Asked, asked_of}
use Rattle.hlc_log_text.specs.declared.bad_log.BadLog.{BadLog}
use Rattle.hlc_log_text.specs.declared.bad_log.BadLog.TheVariants as bad
use Rattle.hlc_log_text.specs.declared.extras.Extras.{Extras}
use Rattle.hlc_log_text.specs.declared.log_column.LogColumn.{LogColumn}
use Rattle.hlc_log_text.specs.declared.log_rules.LogRules.{LogRules}
use Rattle.hlc_log_text.specs.declared.log_word.LogWord.{LogWord}
use Rattle.hlc_log_text.specs.declared.record_head.RecordHead.{RecordHead}
use Rattle.hlc_log_text.specs.declared.stamp_form.StampForm.{StampForm}

-- what a record says by what it says but for its names
abbrev pub said_by : StampForm → LogWord → (from : Option (List ℕ)) → Fields → Result (RecordHead × Extras) BadLog → Result LogItem BadLog
said_by form w from fields (Ok (head, extras)) =
    Ok (Tells (with_extras extras (told_by head (field_of fields 1) (field_of fields (message_place form)) from (label_of form w fields))))
said_by form w from fields (Err why) = Err why

by_head : (form : StampForm) (w : LogWord) (from : Option (List ℕ)) (fields : Fields) (head : Result RecordHead BadLog) (extras : Result Extras LogColumn)
    → extend extras (tells (named_event_from form w from fields head)) ≡ said_by form w from fields (head_with_extras head extras)
by_head form w from fields (Ok head) (Err column) = refl
by_head form w from fields (Ok head) (Ok extras) = refl
by_head form w from fields (Err why) (Err column) = refl
by_head form w from fields (Err why) (Ok extras) = refl

pub extended_item : (rules : LogRules) (w : LogWord) (from : Option (List ℕ)) (fields : Fields) (extras : Result Extras LogColumn) → log_word_of (field_of fields 0) ≡ Some w
    → extend extras (item_from rules from fields) ≡ said_by rules.form w from fields (whole_head_of rules w from fields extras)
extended_item rules w from fields extras is =
    ap (λ (word : Option LogWord). extend extras (item_after_word rules from word fields)) is
    ∙ by_head rules.form w from fields (head_of rules w from fields) extras

-- what it tells of, if it is well written
pub told_item : (rules : LogRules) (w : LogWord) (from : Option (List ℕ)) (fields : Fields) (extras : Result Extras LogColumn) (head : RecordHead)
    (told : Extras) (node message : List ℕ) (label : Option (List ℕ)) → log_word_of (field_of fields 0) ≡ Some w
    → whole_head_of rules w from fields extras ≡ Ok (head, told) → field_of fields 1 ≡ node → field_of fields (message_place rules.form) ≡ message
    → label_of rules.form w fields ≡ label
    → extend extras (item_from rules from fields) ≡ Ok (Tells (with_extras told (told_by head node message from label)))
told_item rules w from fields extras head told node message label is said named sent labelled =
    extended_item rules w from fields extras is ∙ ap (said_by rules.form w from fields) said
    ∙ (λ i. (let r : Result LogItem BadLog = Ok (Tells (with_extras told (told_by head (named i) (sent i) from (labelled i)))) in r))

-- a record that tells of no event says what it says
asked_extended : (extras : Extras) (asked : Result Asked BadLog) → extend (Ok extras) (asks asked) ≡ asks asked
asked_extended extras (Ok asked) = refl
asked_extended extras (Err why) = refl

pub other_extended : (extras : Extras) (fields : Fields) → extend (Ok extras) (other_item fields) ≡ other_item fields
other_extended extras fields = by_file (begun_file fields)
  where
    by_count : (test : Bool) → (let r : Result LogItem BadLog = cond test (Ok Skips) (Err bad.Fields) in extend (Ok extras) r ≡ r)
    by_count true = refl
    by_count false = refl

    by_word : (test : Bool) → (let r : Result LogItem BadLog = cond test (skip_item fields) (asks (asked_of fields)) in extend (Ok extras) r ≡ r)
    by_word true = by_count (length fields == 1)
    by_word false = asked_extended extras (asked_of fields)

    by_file : (file : Option (List ℕ)) → extend (Ok extras) (item_by_file file fields) ≡ item_by_file file fields
    by_file None = by_word (begins_as_skip fields)
    by_file (Some name) = refl

-- where there are no such columns, one that tells of an event does
pub plain_extended : (rules : LogRules) (from : Option (List ℕ)) (fields : Fields) → extend (Ok no_extras) (item_from rules from fields) ≡ item_from rules from fields
plain_extended rules from fields = by_word (log_word_of (field_of fields 0))
  where
    by_told : (form : StampForm) (w : LogWord) (head : Result RecordHead BadLog)
        → extend (Ok no_extras) (tells (named_event_from form w from fields head)) ≡ tells (named_event_from form w from fields head)
    by_told form w (Ok head) = refl
    by_told form w (Err why) = refl

    by_word : (word : Option LogWord) → extend (Ok no_extras) (item_after_word rules from word fields) ≡ item_after_word rules from word fields
    by_word None = other_extended no_extras fields
    by_word (Some w) = by_told rules.form w (head_of rules w from fields)

-- a bad record says nothing, whatever was sent before
pub bad_anyway : (is_bad : Bool) (events : List NamedEvent) (why : BadLog) → unless_sent is_bad events (Err why) ≡ Err why
bad_anyway true events why = refl
bad_anyway false events why = refl

-- one that sends what is sent already is bad, if such records are
pub sent_already : (is_bad : Bool) (events : List NamedEvent) (event : NamedEvent) → (is_bad && sends_again events event) ≡ true
    → unless_sent is_bad events (Ok (Tells event)) ≡ Err bad.SentTwice
sent_already true events event is = ap (λ (test : Bool). (let r : Result LogItem BadLog = cond test (Err bad.SentTwice) (Ok (Tells event)) in r)) is
sent_already false events event is = absurd (cc)

pub sent_first : (is_bad : Bool) (events : List NamedEvent) (event : NamedEvent) → (is_bad && sends_again events event) ≡ false
    → unless_sent is_bad events (Ok (Tells event)) ≡ Ok (Tells event)
sent_first true events event is = ap (λ (test : Bool). (let r : Result LogItem BadLog = cond test (Err bad.SentTwice) (Ok (Tells event)) in r)) is
sent_first false events event is = refl
