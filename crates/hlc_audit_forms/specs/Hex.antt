-- Numbers in base 16.
use Rattle.std.specs.Prelude.{◌/◌, ◌%◌, ℕ, List, [], ◌∷◌}
use Rattle.std.specs.Char.{digit_char}

-- the two digits of a byte
abbrev pub hex_byte : ℕ → List ℕ
hex_byte byte = digit_char (byte / 16) ∷ digit_char (byte % 16) ∷ []
