-- The text of the row of an event.
use Rattle.std.proofs.Common.{◌≡◌, ◌∙◌, ◌++◌, ◌∷◌, ℕ, Bool, true, false, List, [], Some, None, append-nil, arith, cond, length, refl, sym, ap, append_assoc}
use Rattle.std.specs.Prelude.{◌≢◌, ◌==◌, codes, if◌then◌else◌}
use Rattle.std.proofs.lemmas.Bool.{ne_eqb}
use Rattle.csv.specs.Writing.{escaped, field_text, fields_text, is_blank, needs_quotes}
use Rattle.serde_json.specs.Data.{Data}
use Rattle.serde_json.specs.Read.{read}
use Rattle.std.specs.Str.{IsUtf8, is_utf8}
use Rattle.std.proofs.lemmas.Str.{IsUtf8-from_is_utf8, is_utf8-from_IsUtf8}
use Rattle.hlc_csv.specs.Rows.{row_setup, text_of_row}
use Rattle.hlc_log_text.specs.LogWord.{word_text}
use Rattle.hlc_log_text.specs.declared.log_word.LogWord.{LogWord}
use Rattle.hlc_log_text.specs.declared.log_word.LogWord.TheVariants as word
use Rattle.hlc_json_lines.specs.EventRow.{column_fields, event_columns, event_row, skipped_row, value_of}
use Rattle.hlc_json_lines.specs.Rules.{Rules}

-- no word needs quotes
word-plain : (w : LogWord) → field_text row_setup (word_text w) ≡ word_text w
word-plain word.Local = refl
word-plain word.Send = refl
word-plain word.Receive = refl
word-plain word.Restart = refl

-- the row of an event, in its parts
pub event-row : (before : List ℕ) (rules : Rules) (value : Data) (w : LogWord)
    → ((before ++ word_text w) ++ fields_text row_setup (column_fields rules w value event_columns)) ++ 10 ∷ [] ≡ before ++ text_of_row (event_row rules value (Some w))
unfolding text_of_row is_blank
event-row before rules value w =
    let fields = fields_text row_setup (column_fields rules w value event_columns) in
    append_assoc (before ++ word_text w) fields (10 ∷ []) ∙ append_assoc before (word_text w) (fields ++ 10 ∷ [])
    ∙ ap (λ (t : List ℕ). before ++ t) (sym (rw (word-plain w) (append_assoc (word_text w) fields (10 ∷ []))))

-- a field that isn't empty shows something
shown : (field : List ℕ) → length field ≢ 0 → (length (field_text row_setup field) == 0) ≡ false
shown field some = by (needs_quotes row_setup field) where
  by : (test : Bool) → (length (cond test (34 ∷ (escaped row_setup field ++ 34 ∷ [])) field) == 0) ≡ false
  by true = ne_eqb _ 0 (λ none. absurd (omega (arith, none)))
  by false = ne_eqb (length field) 0 some

-- the row of such a field
pub one-field : (before field : List ℕ) → length field ≢ 0 → (before ++ field_text row_setup field) ++ 10 ∷ [] ≡ before ++ text_of_row (field ∷ [])
unfolding text_of_row is_blank fields_text
one-field before field some =
    append_assoc before (field_text row_setup field) (10 ∷ [])
    ∙ ap (λ (t : List ℕ). before ++ t) (sym (rw (append-nil (field_text row_setup field), shown field some) refl))

-- the row of a line that tells of no event
pub skipped-row : text_of_row skipped_row ≡ codes "skipped\n"
unfolding text_of_row is_blank fields_text
skipped-row = refl

-- bytes that are read
pub value-read : (bytes : List ℕ) (value : Data) → IsUtf8 bytes → read bytes ≡ Some value → value_of bytes ≡ Some value
value-read bytes value utf8 is = rw (is_utf8-from_IsUtf8 bytes utf8) is

-- bytes that aren't
pub value-none : (bytes : List ℕ) → (IsUtf8 bytes → read bytes ≡ None) → value_of bytes ≡ None
value-none bytes none = by (is_utf8 bytes) refl where
  by : (test : Bool) → is_utf8 bytes ≡ test → (if test then read bytes else None) ≡ None
  by true is = none (IsUtf8-from_is_utf8 bytes is)
  by false is = refl
