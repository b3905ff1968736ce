-- What an audit found, as text for people.
use Rattle.std.specs.Prelude.{◌≡◌, ℕ, Bool, List, [], ◌∷◌, ◌++◌, Option, Some, None, codes, filter, if◌then◌else◌}
use Rattle.std.specs.List.{flat_map}
use Rattle.hlc_csv.specs.Rows.{Fields, field_of}
use Rattle.hlc_audit_forms.specs.ToldRows.{AreRowsOf}
use Rattle.hlc_audit_forms.specs.TextPiece.{pieces_text}
use Rattle.hlc_audit_forms.specs.TextSection.{has_word, section_pieces, section_title}
use Rattle.hlc_audit_forms.specs.Told.{asking_pieces, telling_row, told_text}
use Rattle.hlc_audit_forms.specs.declared.text_section.TextSection.{TextSection}
use Rattle.hlc_audit_forms.specs.declared.text_section.TheConstants.{SECTIONS}

-- whether a row is one of a section
abbrev pub is_row_of : TextSection → Fields → Bool
is_row_of s fields = has_word s (field_of fields 0)

-- the line of a row of a section
abbrev pub row_text : TextSection → Fields → List ℕ
row_text s fields = pieces_text fields (section_pieces s fields)

-- what stands before the line of a row: the title, if it is the first
abbrev pub title_before : TextSection → (is_first : Bool) → List ℕ
title_before s is_first = if is_first then section_title s else []

-- lines below a title; nothing, if there is none
abbrev pub below_title : TextSection → List Fields → List ℕ
below_title s [] = []
below_title s (first ∷ rows) = section_title s ++ (row_text s first ++ flat_map (row_text s) rows)

-- a section: the lines of its rows, below its title
unfoldable pub section_text : List Fields → TextSection → List ℕ
section_text rows s = below_title s (filter (is_row_of s) rows)

-- all sections, in their order
unfoldable pub sections_text : List Fields → List ℕ
sections_text rows = flat_map (section_text rows) SECTIONS

-- what is said first of the row that tells most, if there is one, and what to ask next of it
abbrev pub telling_text : List Fields → Option Fields → List ℕ
telling_text rows None = codes "The log has no event.\n"
telling_text rows (Some fields) = told_text rows fields

abbrev pub asking_text : Option Fields → List ℕ
asking_text None = []
asking_text (Some fields) = pieces_text fields (asking_pieces fields)

-- rows as text
unfoldable pub audit_text : List Fields → List ℕ
audit_text rows = telling_text rows (telling_row rows) ++ (sections_text rows ++ asking_text (telling_row rows))

-- a text of rows is told by this one
abbrev pub IsTextOf : (rows_text text : List ℕ) → Type 0
IsTextOf rows_text text = (rows : List Fields) × AreRowsOf rows_text rows × (text ≡ audit_text rows)
