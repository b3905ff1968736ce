-- Letters of other scripts than ASCII's, in UTF-8.
use Rattle.std.specs.Prelude.{ℕ, ◌+◌, ◌-◌, ◌*◌, ◌&&◌, Bool, List, [], ◌∷◌, Option, Some, None, if◌then◌else◌, nat_le, nat_lt}
use Rattle.std.specs.List.{list_any}
use Rattle.hlc_svg.specs.declared.letters.Letters.{Letters}
use Rattle.hlc_svg.specs.declared.letters.TheConstants.{FIRST_LONG, LETTERS, SURROGATES}

-- whether a character is one of some letters
unfoldable pub is_among : List Letters → ℕ → Bool
is_among some code = list_any (λ letters. nat_le letters.first code && nat_le code letters.last) some

-- whether it is one of those that are shown as they are
unfoldable pub is_letter : ℕ → Bool
is_letter code = nat_lt code SURROGATES && is_among LETTERS code

-- a character, if it is one of these
abbrev pub letter_of : ℕ → Option ℕ
letter_of code = if is_letter code then Some code else None

-- whether a byte goes on with a character
abbrev pub continues : ℕ → Bool
continues b = nat_le 128 b && nat_lt b 192

-- the letter of two bytes, and of three
abbrev pub two_letter : (a b : ℕ) → Option ℕ
two_letter a b = if (nat_le 194 a && nat_lt a 224) && continues b then letter_of ((a - 192) * 64 + (b - 128)) else None

abbrev pub long_letter : ℕ → Option ℕ
long_letter code = if nat_le FIRST_LONG code then letter_of code else None

abbrev pub three_letter : (a b c : ℕ) → Option ℕ
three_letter a b c =
    if ((nat_le 224 a && nat_lt a 240) && continues b) && continues c then long_letter ((a - 224) * 4096 + (b - 128) * 64 + (c - 128)) else None

-- that of three, if there are that many
abbrev pub letter_with : (a b : ℕ) → List ℕ → Option ℕ
letter_with a b [] = None
letter_with a b (c ∷ rest) = three_letter a b c

-- the letter with which bytes begin, if they begin with one
abbrev pub letter_at : List ℕ → Option ℕ
letter_at [] = None
letter_at (a ∷ []) = None
letter_at (a ∷ b ∷ rest) = if nat_lt a 224 then two_letter a b else letter_with a b rest
