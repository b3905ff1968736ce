-- Names, keys and values as text of a picture.
use Rattle.std.specs.Prelude.{ℕ, zero, suc, ◌+◌, ◌-◌, ◌/◌, ◌%◌, ◌==◌, ◌&&◌, ◌++◌, List, [], ◌∷◌, Option, Some, None, codes, encode_utf8, if◌then◌else◌, nat_le, nat_lt}
use Rattle.std.specs.Char.{len_utf8}
use Rattle.hlc_svg.specs.Letters.{letter_at}
use Rattle.hlc_svg.specs.declared.label.Shown.{Shown}
use Rattle.hlc_svg.specs.declared.label.Shown.TheVariants.{Byte, Letter}
use Rattle.hlc_svg.specs.declared.label.TheConstants.{FIRST_WIDE}

-- a digit in base 16
abbrev pub hex_digit : ℕ → ℕ
hex_digit d = if nat_lt d 10 then 48 + d else 87 + d

-- a byte by its number, as `\x0a`
abbrev pub number_text : ℕ → List ℕ
number_text b = codes "\\x" ++ hex_digit (b / 16) ∷ hex_digit (b % 16) ∷ []

-- a character that is seen as it is, or a byte by its number
abbrev pub plain_text : ℕ → List ℕ
plain_text b = if nat_le 32 b && nat_le b 126 then b ∷ [] else number_text b

-- a byte as it is shown: `<`, `>`, `&` and quotes by XML's names for them, and the backslash twice
abbrev pub byte_text : ℕ → List ℕ
byte_text b =
    if b == 60 then codes "&lt;" else if b == 62 then codes "&gt;" else if b == 38 then codes "&amp;" else if b == 34 then codes "&quot;"
    else if b == 39 then codes "&apos;" else if b == 92 then codes "\\\\" else plain_text b

-- how many characters are seen of a byte
abbrev pub byte_width : ℕ → ℕ
byte_width b = if b == 92 then 2 else if nat_le 32 b && nat_le b 126 then 1 else 4

-- what is shown of the beginning of bytes: the letter there, or else the first byte
abbrev pub letter_or_byte : Option ℕ → ℕ → Shown
letter_or_byte (Some code) b = Letter code
letter_or_byte None b = Byte b

unfoldable pub shown_at : List ℕ → Shown
shown_at [] = Byte 0
shown_at (b ∷ bytes) = letter_or_byte (letter_at (b ∷ bytes)) b

-- its text, which is a letter's own UTF-8
abbrev pub shown_text : Shown → List ℕ
shown_text (Letter code) = encode_utf8 code
shown_text (Byte b) = byte_text b

-- how many characters wide that is: of some scripts a letter is as wide as two of ASCII
abbrev pub letter_width : ℕ → ℕ
letter_width code = if nat_lt code FIRST_WIDE then 1 else 2

abbrev pub shown_width : Shown → ℕ
shown_width (Letter code) = letter_width code
shown_width (Byte b) = byte_width b

-- and how many bytes it is made of
abbrev pub shown_len : Shown → ℕ
shown_len (Letter code) = len_utf8 code
shown_len (Byte b) = 1

-- bytes as they are shown after so many that were shown before, as long as there is room, and then two dots
abbrev pub label_after : (passed room : ℕ) → List ℕ → List ℕ
label_after passed room [] = []
label_after (suc passed) room (b ∷ bytes) = label_after passed room bytes
label_after zero room (b ∷ bytes) =
    if nat_lt room (shown_width (shown_at (b ∷ bytes))) then codes ".." else
    shown_text (shown_at (b ∷ bytes)) ++ label_after (shown_len (shown_at (b ∷ bytes)) - 1) (room - shown_width (shown_at (b ∷ bytes))) bytes

abbrev pub label_text : (room : ℕ) → List ℕ → List ℕ
label_text room bytes = label_after 0 room bytes

-- how many characters are seen of that
abbrev pub width_after : (passed room : ℕ) → List ℕ → ℕ
width_after passed room [] = 0
width_after (suc passed) room (b ∷ bytes) = width_after passed room bytes
width_after zero room (b ∷ bytes) =
    if nat_lt room (shown_width (shown_at (b ∷ bytes))) then 2 else
    shown_width (shown_at (b ∷ bytes)) + width_after (shown_len (shown_at (b ∷ bytes)) - 1) (room - shown_width (shown_at (b ∷ bytes))) bytes

abbrev pub label_width : (room : ℕ) → List ℕ → ℕ
label_width room bytes = width_after 0 room bytes
