-- The numbers of nodes and of files, by their names.
use Rattle.std.specs.Prelude.{◌==◌, ℕ, List, [], ◌∷◌, ◌++◌, bytes_eq, if◌then◌else◌, length, position, unwrap_or}

-- the number of a name: its place among the names, which a new one takes at their end
abbrev pub name_number : (names : List (List ℕ)) → (name : List ℕ) → ℕ
name_number names name = unwrap_or (position (bytes_eq name) names) (length names)

-- what is kept of each by its number, the last of which may be new
abbrev pub with_number : {A : Type 0} → (new : A) → List A → (number : ℕ) → List A
with_number new all number = if number == length all then all ++ new ∷ [] else all
