-- The pieces of which lines for people are made.
use Rattle.std.specs.Prelude.{◌==◌, ◌&&◌, ◌-◌, ℕ, List, [], ◌∷◌, ◌++◌, codes, drop, if◌then◌else◌, length, nat_le, not, replicate}
use Rattle.std.specs.List.{flat_map, list_any}
use Rattle.hlc_csv.specs.Rows.{Fields, field_of}
use Rattle.hlc_audit_forms.specs.Hex.{hex_byte}
use Rattle.hlc_audit_forms.specs.declared.text_piece.TextPiece.{TextPiece}
use Rattle.hlc_audit_forms.specs.declared.text_piece.TextPiece.TheVariants as piece

-- a byte by its number, as `\x0a`
abbrev pub numbered_byte : ℕ → List ℕ
numbered_byte byte = codes "\\x" ++ hex_byte byte

-- a byte as it is shown: a printable character of ASCII as it is, a backslash twice, and each other byte, and an apostrophe, by its
-- number: so it ends no text between apostrophes
abbrev pub plain_byte : ℕ → List ℕ
plain_byte byte =
    if byte == 92 then 92 ∷ 92 ∷ []
    else if nat_le 32 byte && nat_le byte 126 && not (byte == 39) then byte ∷ []
    else numbered_byte byte

-- a field as it is shown: no terminal takes a byte of it for its own
abbrev pub plain_text : List ℕ → List ℕ
plain_text field = flat_map plain_byte field

-- a line as it is named: in a file by that, and else by its number
abbrev pub line_name : List ℕ → List ℕ
line_name line = (if list_any (λ byte. byte == 58) line then [] else codes "line ") ++ plain_text line

-- a field in a column so wide, at its left side or at its right one
abbrev pub at_left : (width : ℕ) → List ℕ → List ℕ
at_left width field = plain_text field ++ replicate (width - length field) 32

abbrev pub at_right : (width : ℕ) → List ℕ → List ℕ
at_right width field = replicate (width - length field) 32 ++ plain_text field

-- a field behind a blank
abbrev pub spaced : List ℕ → List ℕ
spaced field = 32 ∷ plain_text field

-- a piece of a line about a row: a text, or what the row has at a place: a field as it is, a line by its name, a field in a column, or all fields from
-- there on
pub data ToldPiece : Type 0 where
  said : List ℕ → ToldPiece
  plain : ℕ → ToldPiece
  line : ℕ → ToldPiece
  left : (place width : ℕ) → ToldPiece
  right : (place width : ℕ) → ToldPiece
  rest : (place : ℕ) → ToldPiece

-- a piece as it is kept
abbrev pub told_piece : TextPiece → ToldPiece
told_piece (piece.Said text) = said text.now
told_piece (piece.Plain place) = plain place
told_piece (piece.Line place) = line place
told_piece (piece.Left place width) = left place width
told_piece (piece.Right place width) = right place width
told_piece (piece.Rest place) = rest place

-- the text of a piece
abbrev pub piece_text : Fields → ToldPiece → List ℕ
piece_text fields (said text) = text
piece_text fields (plain place) = plain_text (field_of fields place)
piece_text fields (line place) = line_name (field_of fields place)
piece_text fields (left place width) = at_left width (field_of fields place)
piece_text fields (right place width) = at_right width (field_of fields place)
piece_text fields (rest place) = flat_map spaced (drop place fields)

-- the pieces, one after the other
abbrev pub pieces_text : Fields → List ToldPiece → List ℕ
pieces_text fields pieces = flat_map (piece_text fields) pieces
