-- The labels of events.
use Rattle.std.specs.Prelude.{◌≡◌, ◌==◌, ℕ, List, Option, Some, None, if◌then◌else◌, nat_eq}
use Rattle.std.specs.Map.{lookup}

-- the label of the event at a place, if it has one
abbrev pub label_at : List (ℕ × List ℕ) → ℕ → Option (List ℕ)
label_at labels place = lookup (nat_eq place) labels

-- the event at a place has this label now, if there is one, and each other one has the label that it had
abbrev pub GivesLabel : (old new : List (ℕ × List ℕ)) → ℕ → Option (List ℕ) → Type 0
GivesLabel old new place None = (e : ℕ) → label_at new e ≡ label_at old e
GivesLabel old new place (Some label) = (e : ℕ) → label_at new e ≡ (if e == place then Some label else label_at old e)
