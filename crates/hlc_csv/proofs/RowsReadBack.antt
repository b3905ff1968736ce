-- The text of rows is read back as the rows.
use Rattle.std.proofs.Common.{◌≡◌, ◌∙◌, ℕ, List, [], ◌∷◌, ◌++◌, Some, map, refl, subst, sym, ap}
use Rattle.std.specs.Prelude.{cond, ◌==◌}
use Rattle.csv.specs.Machine.{next_record}
use Rattle.csv.specs.Reading.{Reached, default_config, strip_bom}
use Rattle.csv.specs.Writing.{default_writer, escaped, field_text, fields_text, is_blank, needs_quotes, row_text}
use Rattle.csv.specs.declared.parser.State.TheVariants as st
use Rattle.csv.proofs.RoundTrip.{read-write}
use Rattle.hlc_csv.specs.Records.{AreAllOf, IsOnly}
use Rattle.hlc_csv.specs.Rows.{Fields, row_setup, text_of, text_of_row}
use Rattle.hlc_csv.proofs.RecordFacts.{are_all-only}

-- rows of different lengths are written as rows of one length are
escaped-same : (field : List ℕ) → escaped row_setup field ≡ escaped default_writer field
unfolding escaped
escaped-same [] = refl
escaped-same (b ∷ field) = ap (λ (rest : List ℕ). cond (b == 34) (34 ∷ b ∷ rest) (b ∷ rest)) (escaped-same field)

field_text-same : (field : List ℕ) → field_text row_setup field ≡ field_text default_writer field
field_text-same field = ap (λ (rest : List ℕ). cond (needs_quotes default_writer field) (34 ∷ (rest ++ 34 ∷ [])) field) (escaped-same field)

fields_text-same : (fields : Fields) → fields_text row_setup fields ≡ fields_text default_writer fields
unfolding fields_text
fields_text-same [] = refl
fields_text-same (field ∷ fields) = rw (field_text-same field, fields_text-same fields) refl

-- a row has two fields or more
abbrev pub HasTwoFields : Fields → Type 0
HasTwoFields [] = ⊥
HasTwoFields (x ∷ []) = ⊥
HasTwoFields (x ∷ y ∷ fields) = Unit {0}

-- such a row, and text after it, is read back
pub read_row : (row : Fields) (tail : List ℕ) → HasTwoFields row
    → next_record default_config st.StartRecord [] [] (text_of_row row ++ tail) ≡ Some (row, st.StartRecord, tail)
unfolding text_of_row is_blank
read_row [] tail two = absurd two
read_row (x ∷ []) tail two = absurd two
read_row (x ∷ y ∷ fields) tail two =
    let same : text_of_row (x ∷ y ∷ fields) ≡ row_text default_writer (x ∷ y ∷ fields) =
    rw (field_text-same x, fields_text-same (y ∷ fields)) refl in
    ap (λ (text : List ℕ). next_record default_config st.StartRecord [] [] (text ++ tail)) same ∙ read-write (x ∷ y ∷ fields) tail

-- a text begins with no byte order mark
abbrev pub HasNoMark : List ℕ → Type 0
HasNoMark text = strip_bom text ≡ text

-- rows of two fields or more, none of which begins with a byte order mark
module _ {A : Type 0} (row : A → Fields) (two : (a : A) → HasTwoFields (row a)) (unmarked : (a : A) (tail : List ℕ) → HasNoMark (text_of_row (row a) ++ tail)) where
  reached_rows : (items : List A) → Reached default_config st.StartRecord (text_of (map row items)) (map row items) st.StartRecord []
  unfolding Reached
  reached_rows [] = (refl, refl)
  reached_rows (a ∷ items) = (
    (row a, st.StartRecord, text_of (map row items)),
    read_row (row a) (text_of (map row items)) (two a),
    refl,
    reached_rows items,
  )

  no_mark : (items : List A) → HasNoMark (text_of (map row items))
  unfolding strip_bom
  no_mark [] = refl
  no_mark (a ∷ items) = unmarked a (text_of (map row items))

  all_read : (items : List A) → AreAllOf (Some (text_of (map row items))) (map row items)
  unfolding next_record
  all_read items = (
    st.StartRecord,
    [],
    subst (λ (text : List ℕ). Reached default_config st.StartRecord text (map row items) st.StartRecord []) (sym (no_mark items)) (reached_rows items),
    refl,
  )

  -- their text is read back as they are, and as no others
  pub rows_read_back : (items : List A)
      → AreAllOf (Some (text_of (map row items))) (map row items) × IsOnly (Some (text_of (map row items))) (map row items)
  rows_read_back items = (all_read items, are_all-only (Some (text_of (map row items))) (map row items) (all_read items))
