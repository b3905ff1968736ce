-- Texts and lists as JSON writes them.
use Rattle.std.specs.Prelude.{◌==◌, ◌&&◌, ◌||◌, ℕ, Bool, not, List, [], ◌∷◌, ◌++◌, codes, if◌then◌else◌, nat_lt}
use Rattle.std.specs.List.{flat_map, join_with_byte}
use Rattle.std.specs.Str.{is_utf8}
use Rattle.hlc_audit_forms.specs.Hex.{hex_byte}

-- a byte as the character of its number, as `\u000a`
abbrev pub numbered_byte : ℕ → List ℕ
numbered_byte byte = codes "\\u00" ++ hex_byte byte

-- a byte of a text that is UTF-8 or not: quotation marks and backslashes get a backslash before them, characters of control have their number, and so
-- have the bytes of other characters than those of ASCII if the text is no UTF-8
abbrev pub string_byte : (in_utf8 : Bool) → ℕ → List ℕ
string_byte in_utf8 byte =
    if (byte == 34) || (byte == 92) then 92 ∷ byte ∷ []
    else if nat_lt byte 32 || (nat_lt 127 byte && not in_utf8) then numbered_byte byte
    else byte ∷ []

-- a text between quotation marks
abbrev pub json_string : List ℕ → List ℕ
json_string text = 34 ∷ (flat_map (string_byte (is_utf8 text)) text ++ 34 ∷ [])

-- what stands before an item of a list or an object
abbrev pub comma_before : (is_first : Bool) → List ℕ
comma_before is_first = if is_first then [] else 44 ∷ []

-- a list of what has these texts, and an object of such members
abbrev pub json_list : List (List ℕ) → List ℕ
json_list texts = 91 ∷ (join_with_byte 44 texts ++ 93 ∷ [])

abbrev pub json_object : List (List ℕ) → List ℕ
json_object members = 123 ∷ (join_with_byte 44 members ++ 125 ∷ [])

-- a member of an object, by its name and the text of its value
abbrev pub json_member : (name value : List ℕ) → List ℕ
json_member name value = json_string name ++ 58 ∷ value
