-- Entries in a ring.
use Rattle.std.specs.Prelude.{◌≡◌, ◌^◌, ◌<◌, ◌≤◌, ℕ, List, ◌++◌, bytes_eq, drop, length, take}
use Rattle.std.specs.List.{IsDistinct}
use Rattle.std.specs.Map.{keys_of}

-- the items from a place on, and then those before it
abbrev pub items_from : {X : Type 0} → ℕ → List X → List X
items_from i xs = drop i xs ++ take i xs

-- a ring of so many places, which begins somewhere: as long as some places aren't taken, with the first; and no name is there twice
pub record IsRing {X : Type 0} (places first : ℕ) (entries : List (List ℕ × X)) : Type 0 where
  pub begins : first < places
  pub within : length entries ≤ places
  pub partly : length entries < places → first ≡ 0
  pub fits : places < 2 ^ 32
  pub once : IsDistinct bytes_eq (keys_of entries)
