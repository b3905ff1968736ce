-- Texts that stand on one line as they are.
use Rattle.std.specs.Prelude.{ℕ, ◌||◌, Bool, List, Option, Some, None, if◌then◌else◌, nat_lt}
use Rattle.std.specs.List.{list_any}

-- a byte that is no printable character of ASCII
abbrev pub is_hidden : ℕ → Bool
is_hidden byte = nat_lt byte 32 || nat_lt 126 byte

-- a text, unless a byte of it is hidden
abbrev pub if_plain : List ℕ → Option (List ℕ)
if_plain text = if list_any is_hidden text then None else Some text
