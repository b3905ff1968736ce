-- What paths and values of JSON lines mean.
use Rattle.std.specs.Prelude.{◌==◌, ◌&&◌, ℕ, Bool, true, false, List, [], ◌∷◌, ◌++◌, Option, Some, None, if◌then◌else◌, bytes_eq, length, nat_lt, option_and_then, option_map}
use Rattle.std.specs.List.{after_first, before_first, list_any, position_or_len, slice_split}
use Rattle.hlc_log_text.specs.LogColumn.{column_name, column_named}
use Rattle.hlc_log_text.specs.LogWord.{log_word_of, word_text}
use Rattle.hlc_log_text.specs.declared.log_column.LogColumn.{LogColumn}
use Rattle.hlc_log_text.specs.declared.log_column.LogColumn.TheVariants as column
use Rattle.hlc_log_text.specs.declared.log_word.LogWord.{LogWord}
use Rattle.hlc_json_lines.specs.Paths.{Key, has_empty_part, path_of_text}
use Rattle.hlc_json_lines.specs.declared.field_name.FieldName.{FieldName}

-- what was given, in order: paths with the fields that they are of, and words with the values that mean them
pub record Rules : Type 0 where
  pub paths : List (FieldName × List Key)
  pub kinds : List (LogWord × List (List ℕ))

-- nothing was given
abbrev pub no_rules : Rules
no_rules = record { paths = []; kinds = [] }

-- whether two columns are one
abbrev pub is_same : LogColumn → LogColumn → Bool
is_same first second = bytes_eq (column_name first) (column_name second)

-- whether what is given for the events of a word, or of all, holds for an event of a word; of that of an event whose word isn't known yet
-- nothing holds that is given for one word
abbrev pub is_for : (given word : Option LogWord) → Bool
is_for None word = true
is_for (Some given) None = false
is_for (Some given) (Some word) = bytes_eq (word_text given) (word_text word)

-- whether a name is one of a column of an event of a word
abbrev pub is_named : FieldName → Option LogWord → LogColumn → Bool
is_named name word column = is_for name.word word && is_same name.column column

-- the last path that was given for a column of events of a word, or this one
abbrev pub last_path : List Key → List (FieldName × List Key) → Option LogWord → LogColumn → List Key
last_path keys [] word column = keys
last_path keys (rule ∷ rules) word column = last_path (if is_named rule.0 word column then rule.1 else keys) rules word column

-- the path of a column of events of a word: the last one that was given, or its name alone
abbrev pub path_of : List (FieldName × List Key) → Option LogWord → LogColumn → List Key
path_of rules word column = last_path (column_name column ∷ []) rules word column

-- whether a text is one of these values
abbrev pub is_among : List (List ℕ) → List ℕ → Bool
is_among values text = list_any (λ value. bytes_eq value text) values

-- the word that a text means: the first that was given with it, or the one that it spells
abbrev pub word_of : List (LogWord × List (List ℕ)) → List ℕ → Option LogWord
word_of [] text = log_word_of text
word_of (rule ∷ rules) text = if is_among rule.1 text then Some rule.0 else word_of rules text

-- what stands before the first `=` of a text, and what after it
abbrev pub before_equals : List ℕ → List ℕ
before_equals text = before_first (λ byte. byte == 61) text

abbrev pub after_equals : List ℕ → List ℕ
after_equals text = after_first (λ byte. byte == 61) text

-- whether a point stands in a text; what stands before the first, and what after it
abbrev pub has_point : List ℕ → Bool
has_point text = nat_lt (position_or_len (λ byte. byte == 46) text) (length text)

abbrev pub before_point : List ℕ → List ℕ
before_point text = before_first (λ byte. byte == 46) text

abbrev pub after_point : List ℕ → List ℕ
after_point text = after_first (λ byte. byte == 46) text

-- a column that may differ from word to word: that of the words themselves is none
abbrev pub column_of_word : LogColumn → Option LogColumn
column_of_word column.Kind = None
column_of_word other = Some other

-- a column of the events of a word, or of all
abbrev pub name_of_all : LogColumn → FieldName
name_of_all column = record { word = None; column = column }

abbrev pub name_of_word : LogWord → LogColumn → FieldName
name_of_word word column = record { word = Some word; column = column }

-- the name that a text `WORD.NAME` or `NAME` gives
abbrev pub field_name_of : List ℕ → Option FieldName
field_name_of text =
    if has_point text then
    option_and_then (λ word. option_map (name_of_word word) (option_and_then column_of_word (column_named (after_point text)))) (log_word_of (before_point text))
    else option_map name_of_all (column_named text)

-- the name and the path of a text `NAME=PATH`, or `WORD.NAME=PATH`
abbrev pub field_of_text : List ℕ → Option (FieldName × List Key)
field_of_text text =
    option_and_then (λ name. option_map (λ keys. (name, keys)) (path_of_text (after_equals text))) (field_name_of (before_equals text))

-- the values of a text that has a comma between each two of them, if none is empty
abbrev pub values_of_text : List ℕ → Option (List (List ℕ))
values_of_text text = if has_empty_part 44 text then None else Some (slice_split (λ byte. byte == 44) text)

-- the word and the values of a text `WORD=VALUE,VALUE`
abbrev pub kind_of_text : List ℕ → Option (LogWord × List (List ℕ))
kind_of_text text =
    option_and_then (λ word. option_map (λ values. (word, values)) (values_of_text (after_equals text))) (log_word_of (before_equals text))

-- a path was given, if this is one
abbrev pub with_field : Rules → Option (FieldName × List Key) → Rules
with_field rules None = rules
with_field rules (Some rule) = record rules { paths = rules.paths ++ rule ∷ [] }

-- values of a word were given, if these are some
abbrev pub with_kind : Rules → Option (LogWord × List (List ℕ)) → Rules
with_kind rules None = rules
with_kind rules (Some rule) = record rules { kinds = rules.kinds ++ rule ∷ [] }
