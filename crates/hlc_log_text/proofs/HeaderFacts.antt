-- Records of a log, each read by itself.
use Rattle.std.proofs.Common.{◌≡◌, ◌∙◌, ◌++◌, ◌∷◌, [], Bool, Bor, true, false, cond, List, ℕ, Option, Some, None, Result, Ok, Err, ap, refl, subst, sym}
use Rattle.std.specs.Prelude.{is_some, option_map}
use Rattle.std.proofs.lemmas.List.Sums.{fold-append}
use Rattle.hlc_csv.specs.Rows.{Fields, field_of}
use Rattle.hlc_log_text.specs.Columns.{arranged, arranged_after_word, carried_for, columns_by, columns_of, extras_after_word, extras_for, from_in, seq_in}
use Rattle.hlc_log_text.specs.FileMarks.{begun_file}
use Rattle.hlc_log_text.specs.LogWord.{log_word_of}
use Rattle.hlc_log_text.specs.NamedEvent.{head_with_extras, label_of, message_place, told_by, whole_head_of, with_extras}
use Rattle.hlc_log_text.specs.Question.{Asked, asked_of}
use Rattle.hlc_log_text.specs.declared.log_word.LogWord.{LogWord}
use Rattle.hlc_log_text.proofs.ExtendedItems.{extended_item, said_by}
use Rattle.hlc_log_text.proofs.ReadingFacts.{AreSmallExtras, carried_for_small, extras_with_small}
use Rattle.hlc_log_text.specs.FaultRule.{leaves_sent}
use Rattle.hlc_log_text.specs.LogHeader.{BeginsFile, HasSmallHead, IsHeadSaid, IsHeaderAfter, IsPassed, IsSaid, PassesNext, asked_fault, said_item}
use Rattle.hlc_log_text.specs.LogItem.{Asks, Begins, Fails, LogItem, Names, Skips, Tells, asks, begins_as_skip, columns_after, columns_then, events_in, extend, header_columns, header_item, if_file, is_at_start, is_header, item_after, item_by_file, item_from, item_in, other_item, skip_item, unless_missing, unless_sent}
use Rattle.hlc_log_text.specs.Missing.{missing_by}
use Rattle.hlc_log_text.specs.declared.bad_log.BadLog.{BadLog}
use Rattle.hlc_log_text.specs.declared.columns.Columns.{Columns}
use Rattle.hlc_log_text.specs.declared.extras.Extras.{Extras}
use Rattle.hlc_log_text.specs.declared.log_column.LogColumn.{LogColumn}
use Rattle.hlc_log_text.specs.declared.log_header.LogHeader.{LogHeader}
use Rattle.hlc_log_text.specs.declared.log_header.RecordItem.{RecordItem}
use Rattle.hlc_log_text.specs.declared.log_header.RecordItem.TheVariants.{Event}
use Rattle.hlc_log_text.specs.declared.log_rules.LogRules.{LogRules}
use Rattle.hlc_log_text.specs.declared.record_head.RecordHead.{RecordHead}
use Rattle.hlc_log_text.specs.declared.stamp_form.StampForm.{StampForm}
use Rattle.hlc_log_text.proofs.TakenItems.{unheaded}

-- the columns after one more record, and whether the next is the first of a file
pub header_columns-more : (items : List LogItem) (item : LogItem) → header_columns (items ++ item ∷ []) ≡ columns_then (header_columns items) item
header_columns-more items item = fold-append columns_then None items (item ∷ [])

at_start-more : (items : List LogItem) (item : LogItem) → is_at_start (items ++ item ∷ []) ≡ is_some (if_file item)
at_start-more items item = fold-append (λ (_ : Bool) (item : LogItem). is_some (if_file item)) true items (item ∷ [])

-- what is kept after a record that names columns, after one that begins a file, and after any other
pub headed_by : (columns : Columns) (items : List LogItem) (new : LogHeader) → new.columns ≡ Some columns → new.at_start ≡ false
    → IsHeaderAfter (items ++ Names columns ∷ []) new
headed_by columns items new named start = record {
  columns = named ∙ sym (header_columns-more items (Names columns));
  at_start = start ∙ sym (at_start-more items (Names columns));
}

pub begun_by : (items : List LogItem) (name : List ℕ) (new : LogHeader) → new.columns ≡ None → new.at_start ≡ true
    → IsHeaderAfter (items ++ Begins name ∷ []) new
begun_by items name new none start = record {
  columns = none ∙ sym (header_columns-more items (Begins name));
  at_start = start ∙ sym (at_start-more items (Begins name));
}

pub passes : (old new : LogHeader) → new.columns ≡ old.columns → new.at_start ≡ false → PassesNext old new
passes old new same start items item passed h = record {
  columns = same ∙ h.columns ∙ sym (header_columns-more items item ∙ passed.1 (header_columns items));
  at_start = start ∙ sym (at_start-more items item ∙ ap is_some passed.0);
}

-- the next record says this, which is told so
pub says_next : (rules : LogRules) (items : List LogItem) (fields placed : Fields) (new : LogHeader) (said : Result LogItem BadLog)
    (told : Result RecordItem BadLog) → item_after rules items fields ≡ said → IsSaid rules.form placed said told → IsHeaderAfter (items ++ said_item said ∷ []) new
    → IsSaid rules.form placed (item_after rules items fields) told × IsHeaderAfter (items ++ said_item (item_after rules items fields) ∷ []) new
says_next rules items fields placed new said told is tells after =
    subst (λ (r : Result LogItem BadLog). IsSaid rules.form placed r told × IsHeaderAfter (items ++ said_item r ∷ []) new) (sym is) (tells, after)

-- a header
pub headed : (rules : LogRules) (items : List LogItem) (fields : Fields) → is_header rules.syntax items fields ≡ true
    → item_after rules items fields ≡ header_item rules.form (columns_of fields)
headed rules items fields is =
    ap (λ (test : Bool). cond test (header_item rules.form (columns_of fields)) (unless_missing (missing_by rules.syntax rules.form fields)
    (unless_sent (leaves_sent rules.faults rules.resent) (events_in items) (item_in rules (columns_after rules items) fields)))) is

-- a record that is no header and lacks no column, where sends of what is sent already aren't left out
by_columns : (rules : LogRules) (items : List LogItem) (fields : Fields) → leaves_sent rules.faults rules.resent ≡ false
    → is_header rules.syntax items fields ≡ false → missing_by rules.syntax rules.form fields ≡ None
    → item_after rules items fields ≡ item_in rules (columns_after rules items) fields
by_columns rules items fields leaves plain none =
    unheaded rules items fields None plain none
    ∙ ap (λ (is_bad : Bool). unless_sent is_bad (events_in items) (item_in rules (columns_after rules items) fields)) leaves

-- what a record of an event says, but for its names
head_by : (form : StampForm) (w : LogWord) (from : Option (List ℕ)) (placed : Fields) (told : Result (RecordHead × Extras) BadLog)
    → IsHeadSaid form placed (said_by form w from placed told) told
head_by form w from placed (Ok (head, extras)) = (
  Tells (with_extras extras (told_by head (field_of placed 1) (field_of placed (message_place form)) from (label_of form w placed))),
  refl,
  (from, label_of form w placed, refl),
)
head_by form w from placed (Err why) = refl

pub head_said : (rules : LogRules) (w : LogWord) (from : Option (List ℕ)) (placed : Fields) (extras : Result Extras LogColumn)
    (told : Result (RecordHead × Extras) BadLog) → log_word_of (field_of placed 0) ≡ Some w → told ≡ whole_head_of rules w from placed extras
    → IsHeadSaid rules.form placed (extend extras (item_from rules from placed)) told
head_said rules w from placed extras told word is =
    subst (λ (r : Result (RecordHead × Extras) BadLog). IsHeadSaid rules.form placed (extend extras (item_from rules from placed)) r) (sym is)
    (subst (λ (r : Result LogItem BadLog). IsHeadSaid rules.form placed r (whole_head_of rules w from placed extras))
    (sym (extended_item rules w from placed extras word)) (head_by rules.form w from placed (whole_head_of rules w from placed extras)))

-- with its fields in columns
pub in_columns : (rules : LogRules) (columns : Columns) (w : LogWord) (fields : Fields) → log_word_of (field_of fields 0) ≡ Some w
    → item_in rules (Some columns) fields
    ≡ extend (extras_for rules.form columns w fields) (item_from rules (from_in columns fields) (arranged rules.form columns w fields))
in_columns rules columns w fields is =
    ap (λ (word : Option LogWord).
    extend (extras_after_word rules.form columns word fields) (item_from rules (from_in columns fields) (arranged_after_word rules.form columns word fields))) is

-- a stamp that it tells as carried leaves room
pub small_head : (head : Result RecordHead BadLog) (extras : Result Extras LogColumn) → AreSmallExtras extras → HasSmallHead (head_with_extras head extras)
small_head (Ok head) (Ok extras) small = small
small_head (Err why) (Ok extras) small = tt
small_head (Ok head) (Err column) small = tt
small_head (Err why) (Err column) small = tt

pub small_extras : (form : StampForm) (columns : Columns) (w : LogWord) (fields : Fields) → AreSmallExtras (extras_for form columns w fields)
small_extras form columns w fields = extras_with_small (carried_for form columns w fields) (seq_in columns fields) (carried_for_small form columns w fields)

-- a record that begins a file, or doesn't
pub file_begun : (fields : Fields) (name : Option (Bor (List ℕ))) → option_map (λ (name : Bor (List ℕ)). name.now) name ≡ begun_file fields
    → is_some name ≡ true → (name : List ℕ) × (other_item fields ≡ Ok (Begins name))
file_begun fields None is some = absurd (cc)
file_begun fields (Some name) is some = (name.now, ap (λ (file : Option (List ℕ)). item_by_file file fields) (sym is))

none_begun : (fields : Fields) (name : Option (Bor (List ℕ))) → option_map (λ (name : Bor (List ℕ)). name.now) name ≡ begun_file fields
    → is_some name ≡ false → other_item fields ≡ cond (begins_as_skip fields) (skip_item fields) (asks (asked_of fields))
none_begun fields None is none = ap (λ (file : Option (List ℕ)). item_by_file file fields) (sym is)
none_begun fields (Some name) is none = absurd (cc)

pub question_said : (fields : Fields) (name : Option (Bor (List ℕ))) (skips : Bool) → option_map (λ (name : Bor (List ℕ)). name.now) name ≡ begun_file fields
    → is_some name ≡ false → skips ≡ begins_as_skip fields → skips ≡ false → other_item fields ≡ asks (asked_of fields)
question_said fields name skips is none test so =
    none_begun fields name is none ∙ ap (λ (skips : Bool). cond skips (skip_item fields) (asks (asked_of fields))) (sym test ∙ so)

abbrev pub asked_as : Option BadLog → Result Bool BadLog
asked_as None = Ok false
asked_as (Some why) = Err why

pub question_told : (fields : Fields) (asked : Result Asked BadLog) (why : Option BadLog) → other_item fields ≡ asks asked → why ≡ asked_fault asked
    → BeginsFile (other_item fields) (asked_as why)
question_told fields (Ok asked) why is at =
    subst (λ (o : Option BadLog). BeginsFile (other_item fields) (asked_as o)) (sym at) (Asks asked, is, (refl, (refl, λ columns. refl)))
question_told fields (Err reason) why is at = subst (λ (o : Option BadLog). BeginsFile (other_item fields) (asked_as o)) (sym at) is

-- an event changes no columns, and a bad record none
abbrev pub told_so : Result (RecordHead × Extras) BadLog → Result RecordItem BadLog
told_so (Ok (head, extras)) = Ok (Event head extras)
told_so (Err why) = Err why

event_said : (form : StampForm) (placed : Fields) (items : List LogItem) (said : Result LogItem BadLog) (told : Result (RecordHead × Extras) BadLog)
    (old new : LogHeader) → IsHeaderAfter items old → PassesNext old new → IsHeadSaid form placed said told
    → IsSaid form placed said (told_so told) × IsHeaderAfter (items ++ said_item said ∷ []) new
event_said form placed items said (Ok (head, extras)) old new h passes is = (
  is,
  subst (λ (r : Result LogItem BadLog). IsHeaderAfter (items ++ said_item r ∷ []) new) (sym is.1)
      (passes items is.0 (subst IsPassed (sym is.2.2) (refl, λ columns. refl)) h),
)
event_said form placed items said (Err why) old new h passes is =
    (is, subst (λ (r : Result LogItem BadLog). IsHeaderAfter (items ++ said_item r ∷ []) new) (sym is) (passes items (Fails why) (refl, λ columns. refl) h))

pub event_next : (rules : LogRules) (items : List LogItem) (fields placed : Fields) (columns : Option Columns) (told : Result (RecordHead × Extras) BadLog)
    (old new : LogHeader) → leaves_sent rules.faults rules.resent ≡ false → is_header rules.syntax items fields ≡ false
    → missing_by rules.syntax rules.form fields ≡ None → IsHeaderAfter items old → PassesNext old new
    → ((items : List LogItem) → IsHeaderAfter items new → columns ≡ columns_after rules items)
    → IsHeadSaid rules.form placed (item_in rules columns fields) told
    → IsSaid rules.form placed (item_after rules items fields) (told_so told) × IsHeaderAfter (items ++ said_item (item_after rules items fields) ∷ []) new
event_next rules items fields placed columns told old new leaves plain none h passes are is =
    let kept : columns ≡ columns_after rules items =
    are (items ++ Skips ∷ []) (passes items Skips (refl, λ columns. refl) h) ∙ ap (columns_by rules.syntax) (header_columns-more items Skips) in
    let said = event_said rules.form placed items (item_in rules columns fields) told old new h passes is in
    says_next rules items fields placed new (item_in rules columns fields) (told_so told)
    (by_columns rules items fields leaves plain none ∙ ap (λ (columns : Option Columns). item_in rules columns fields) (sym kept)) said.0 said.1
