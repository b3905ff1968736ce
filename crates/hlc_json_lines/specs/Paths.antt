-- Where in an object the value of a column stands.
use Rattle.std.specs.Prelude.{◌==◌, ◌&&◌, ℕ, Bool, not, List, [], ◌∷◌, Option, Some, None, if◌then◌else◌, length, option_and_then}
use Rattle.std.specs.List.{list_any, slice_split}
use Rattle.serde_json.specs.Data.{Data}
use Rattle.serde_json.specs.Find.{get}

-- a key of an object
abbrev pub Key : Type 0
Key = List ℕ

-- the keys of a text that has a point between each two of them
abbrev pub keys_in : List ℕ → List Key
keys_in text = slice_split (λ byte. byte == 46) text

-- the value that a path leads to: the first key stands in the value, the others in what is found there
abbrev pub value_at : List Key → Data → Option Data
value_at [] value = Some value
value_at (key ∷ keys) value = option_and_then (value_at keys) (get key value)

-- whether some part of a text is empty, where a byte stands between each two parts
abbrev pub has_empty_part : ℕ → List ℕ → Bool
has_empty_part mark text = list_any (λ part. length part == 0) (slice_split (λ byte. byte == mark) text)

-- the keys of a path that is written as jq does, a point before each
abbrev pub path_of_text : List ℕ → Option (List Key)
path_of_text [] = None
path_of_text (byte ∷ text) = if (byte == 46) && not (has_empty_part 46 text) then Some (keys_in text) else None
