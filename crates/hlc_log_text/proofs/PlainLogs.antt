-- Logs without a header.
use Rattle.std.proofs.Common.{◌≡◌, ◌∙◌, ℕ, Bool, true, false, List, [], ◌∷◌, ◌++◌, Option, Some, None, Ok, Err, Result, ap, cond, inl, inr, map, refl, subst, sym}
use Rattle.std.specs.Prelude.{◌==◌, ◌&&◌, bytes_eq, codes, length}
use Rattle.std.specs.Cmp.Lexicographic.{bytes_decides}
use Rattle.hlc_csv.specs.Rows.{Fields, field_of}
use Rattle.hlc_log_text.specs.Columns.{begins_as_header, columns_by, columns_of}
use Rattle.hlc_log_text.specs.LogItem.{Asks, Begins, Fails, LogItem, Names, Skips, Tells, asks, begins_as_skip, columns_after, columns_then, header_columns, header_item, is_at_start, is_header, item_after, item_after_word, item_by_file, item_in, item_of, other_item, skip_item, tells, unless_missing, events_in, unless_sent}
use Rattle.hlc_log_text.specs.FaultRule.{leaves_sent}
use Rattle.hlc_log_text.specs.declared.fault_rule.FaultRule.{FaultRule}
use Rattle.hlc_log_text.specs.LogWord.{log_word_of}
use Rattle.hlc_log_text.specs.FileMarks.{begun_file, file_name}
use Rattle.hlc_log_text.specs.Missing.{missing_by}
use Rattle.hlc_log_text.specs.NamedEvent.{NamedEvent, named_event_of}
use Rattle.hlc_log_text.specs.PartialLog.{SaysAfter}
use Rattle.hlc_log_text.specs.Question.{Asked, asked_after_word, asked_of, question_word_of}
use Rattle.hlc_log_text.specs.ReadLog.{SayAfter}
use Rattle.hlc_log_text.specs.declared.bad_log.BadLog.{BadLog}
use Rattle.hlc_log_text.specs.declared.bad_log.BadLog.TheVariants as bad
use Rattle.hlc_log_text.specs.declared.columns.Columns.{Columns}
use Rattle.hlc_log_text.specs.declared.fault_rule.FaultRule.TheVariants.{First}
use Rattle.hlc_log_text.specs.declared.log_word.LogWord.{LogWord}
use Rattle.hlc_log_text.specs.declared.question_word.QuestionWord.{QuestionWord}
use Rattle.hlc_log_text.specs.declared.log_rules.LogRules.{LogRules}
use Rattle.hlc_log_text.specs.declared.record_syntax.RecordSyntax.{RecordSyntax}
use Rattle.hlc_log_text.specs.declared.record_syntax.RecordSyntax.TheVariants.{Csv, JsonLines}
use Rattle.hlc_log_text.proofs.HeaderFacts.{header_columns-more}

-- what is told or asked names no columns
tells_names : (r : Result NamedEvent BadLog) (columns : Columns) → tells r ≡ Ok (Names columns) → ⊥
tells_names (Ok event) columns is = cc
tells_names (Err why) columns is = cc

asks_names : (r : Result Asked BadLog) (columns : Columns) → asks r ≡ Ok (Names columns) → ⊥
asks_names (Ok asked) columns is = cc
asks_names (Err why) columns is = cc

other_names : (fields : Fields) (columns : Columns) → other_item fields ≡ Ok (Names columns) → ⊥
other_names fields columns is = by_file (begun_file fields) is where
  by_count : (test : Bool) → (let r : Result LogItem BadLog = cond test (Ok Skips) (Err bad.Fields) in r) ≡ Ok (Names columns) → ⊥
  by_count true is = cc
  by_count false is = cc

  by_word : (test : Bool) → cond test (skip_item fields) (asks (asked_of fields)) ≡ Ok (Names columns) → ⊥
  by_word true is = by_count (length fields == 1) is
  by_word false is = asks_names (asked_of fields) columns is

  by_file : (file : Option (List ℕ)) → item_by_file file fields ≡ Ok (Names columns) → ⊥
  by_file None is = by_word (begins_as_skip fields) is
  by_file (Some name) is = cc

placed_names : (rules : LogRules) (w : Option LogWord) (fields : Fields) (columns : Columns) → item_after_word rules None w fields ≡ Ok (Names columns) → ⊥
placed_names rules None fields columns is = other_names fields columns is
placed_names rules (Some w) fields columns is = tells_names (named_event_of rules w None fields) columns is

-- a record that says something by the places of its fields is no header
no_header : (rules : LogRules) (fields : Fields) (item : LogItem) → item_of rules fields ≡ Ok item → begins_as_header fields ≡ false
no_header rules fields item is = by_test (begins_as_header fields) refl where
  no_file : (test : Bool) → file_name (field_of fields 0) ≡ None → cond test (file_name (field_of fields 0)) None ≡ None
  no_file true none = none
  no_file false none = refl

  by_test : (test : Bool) → begins_as_header fields ≡ test → test ≡ false
  by_test false has = refl
  by_test true has =
      let kind : field_of fields 0 ≡ codes "kind" = (bytes_decides (field_of fields 0) (codes "kind")).0 has in
      let other : other_item fields ≡ Ok item = subst (λ (w : Option LogWord). item_after_word rules None w fields ≡ Ok item) (ap log_word_of kind) is in
      let no_mark : begun_file fields ≡ None = no_file (length fields == 1) (ap file_name kind) in
      let no_skip : begins_as_skip fields ≡ false = ap (λ (field : List ℕ). bytes_eq field (codes "skipped")) kind in
      let asked : asks (asked_of fields) ≡ Ok item =
      subst (λ (test : Bool). cond test (skip_item fields) (asks (asked_of fields)) ≡ Ok item) no_skip
      (subst (λ (file : Option (List ℕ)). item_by_file file fields ≡ Ok item) no_mark other) in
      let none : asks (asked_after_word None fields) ≡ Ok item =
      subst (λ (w : Option QuestionWord). asks (asked_after_word w fields) ≡ Ok item) (ap question_word_of kind) asked in
      absurd (cc)

-- so what it says doesn't depend on those before it, if there are no columns
placed_after : (rules : LogRules) (before : List LogItem) (fields : Fields) (item : LogItem) → rules.faults ≡ First → columns_after rules before ≡ None
    → item_of rules fields ≡ Ok item → item_after rules before fields ≡ Ok item
placed_after rules before fields item first none is = by_syntax rules.syntax none where
  plain : (at_start : Bool) → (at_start && begins_as_header fields) ≡ false
  plain true = no_header rules fields item is
  plain false = refl

  by_syntax : (syntax : RecordSyntax) → columns_by syntax (header_columns before) ≡ None
      → cond (is_header syntax before fields) (header_item rules.form (columns_of fields))
      (unless_missing (missing_by syntax rules.form fields) (unless_sent (leaves_sent rules.faults rules.resent) (events_in before)
      (item_in rules (columns_by syntax (header_columns before)) fields))) ≡ Ok item
  by_syntax JsonLines none = absurd (cc none)
  by_syntax Csv none =
      ap (λ (test : Bool). cond test (header_item rules.form (columns_of fields)) (unless_sent (leaves_sent rules.faults rules.resent) (events_in before)
      (item_in rules (header_columns before) fields))) (plain (is_at_start before))
      ∙ ap (λ (rule : FaultRule). unless_sent (leaves_sent rule rules.resent) (events_in before) (item_in rules (header_columns before) fields)) first
      ∙ ap (λ (columns : Option Columns). item_in rules columns fields) none ∙ is

none_after : (rules : LogRules) (before : List LogItem) (fields : Fields) (item : LogItem) → columns_after rules before ≡ None
    → item_of rules fields ≡ Ok item → columns_after rules (before ++ item ∷ []) ≡ None
none_after rules before fields item none is =
    ap (columns_by rules.syntax) (header_columns-more before item) ∙ still_none item is rules.syntax (header_columns before) none where
      still_none : (item : LogItem) → item_of rules fields ≡ Ok item → (syntax : RecordSyntax) (columns : Option Columns) → columns_by syntax columns ≡ None
          → columns_by syntax (columns_then columns item) ≡ None
      still_none item is JsonLines columns none = absurd (cc none)
      still_none (Tells event) is Csv columns none = none
      still_none (Asks asked) is Csv columns none = none
      still_none Skips is Csv columns none = none
      still_none (Begins name) is Csv columns none = refl
      still_none (Fails why) is Csv columns none = none
      still_none (Names named) is Csv columns none = absurd (placed_names rules (log_word_of (field_of fields 0)) fields named is)

-- records that say things by the places of their fields say them as records of a log without a header
pub placed_say : (rules : LogRules) (before : List LogItem) (records : List Fields) (items : List LogItem) → rules.faults ≡ First
    → columns_after rules before ≡ None
    → map (item_of rules) records ≡ map (λ (item : LogItem). (let r : Result LogItem BadLog = Ok item in r)) items → SayAfter rules before records items
placed_say rules before [] [] first none same = tt
placed_say rules before [] (item ∷ items) first none same = absurd (cc)
placed_say rules before (fields ∷ records) [] first none same = absurd (cc)
placed_say rules before (fields ∷ records) (item ∷ items) first none same =
    let here : item_of rules fields ≡ Ok item = cc in (
      inl (placed_after rules before fields item first none here),
      placed_say rules (before ++ item ∷ []) records items first (none_after rules before fields item none here) (cc),
    )

-- where no record is left out, what records say is one list
one_said : (rules : LogRules) (before : List LogItem) (fields : Fields) (item o : LogItem) → rules.faults ≡ First → SaysAfter rules before fields item
    → SaysAfter rules before fields o → item ≡ o
one_said rules before fields item o first (inr left) also = let left_out = left.1.1 in absurd (cc)
one_said rules before fields item o first (inl said) (inr left) = let left_out = left.1.1 in absurd (cc)
one_said rules before fields item o first (inl said) (inl also) = cc

pub said_once : (rules : LogRules) (before : List LogItem) (records : List Fields) (items others : List LogItem) → rules.faults ≡ First
    → SayAfter rules before records items → SayAfter rules before records others → items ≡ others
said_once rules before [] [] [] first say also = refl
said_once rules before [] [] (o ∷ others) first say also = absurd also
said_once rules before [] (item ∷ items) others first say also = absurd say
said_once rules before (fields ∷ records) [] others first say also = absurd say
said_once rules before (fields ∷ records) (item ∷ items) [] first say also = absurd also
said_once rules before (fields ∷ records) (item ∷ items) (o ∷ others) first say also =
    let one = one_said rules before fields item o first say.0 also.0 in
    let rest = said_once rules (before ++ item ∷ []) records items others first say.1
    (subst (λ (x : LogItem). SayAfter rules (before ++ x ∷ []) records others) (sym one) also.1) in
    λ i. one i ∷ rest i
