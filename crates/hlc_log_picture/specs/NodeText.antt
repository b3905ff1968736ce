-- How the nodes of a log are spelled.
use Rattle.std.specs.Prelude.{ℕ, ◌==◌, ◌||◌, Bool, List, ◌++◌, codes, decimal, if◌then◌else◌, map, nat_lt}
use Rattle.std.specs.List.{list_any}
use Rattle.hlc_log_text.specs.LogText.{name_of}

-- a byte that doesn't stand in the text of a node as it is: a blank, a quotation mark, a backslash, a tilde, or what is no printable character of ASCII
abbrev pub is_replaced : ℕ → Bool
is_replaced byte = nat_lt byte 33 || byte == 34 || byte == 92 || nat_lt 125 byte

-- what stands for a byte: an underscore for such a one
abbrev pub shown_byte : ℕ → ℕ
shown_byte byte = if is_replaced byte then 95 else byte

-- a name as the text of the node of this number: if a byte doesn't stand there as it is, the number follows after a tilde, so that no other node has the text
abbrev pub spelled_name : (name : List ℕ) → (number : ℕ) → List ℕ
spelled_name name number = if list_any is_replaced name then map shown_byte name ++ codes "~" ++ decimal number else name

-- the text of a node, by its number
abbrev pub node_text : (names : List (List ℕ)) → (number : ℕ) → List ℕ
node_text names number = spelled_name (name_of names number) number
