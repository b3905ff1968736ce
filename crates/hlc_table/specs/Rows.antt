-- A table as the list of its rows.
use Rattle.std.specs.Prelude.{◌≡◌, ◌≢◌, ◌⊎◌, ℕ, Bool, true, Option, Some, None, List, [], ◌∷◌, map, position, AllPairs, if◌then◌else◌}
use Rattle.std.specs.Ordering.{is_lt}
use Rattle.std.specs.Str.{bytes_eq}
use Rattle.hlc_stamp.specs.Order.{rank_cmp}
use Rattle.hlc_stamp.specs.declared.rank.Rank.{Rank}
use Rattle.hlc_table.specs.declared.entry.Entry.{Entry}

-- a key with its entry
pub record Row : Type 0 where
  pub key : List ℕ
  pub entry : Entry

-- the keys of rows, in their order
abbrev pub keys_in : List Row → List (List ℕ)
keys_in rows = map (λ row. row.key) rows

-- no key stands in two rows
abbrev pub EachKeyOnce : List Row → Type 0
EachKeyOnce rows = AllPairs (λ a b. a ≢ b) (keys_in rows)

-- the row of a key stands at a place
abbrev pub IsPlaceOf : List Row → List ℕ → ℕ → Type 0
IsPlaceOf rows key place = position (bytes_eq key) (keys_in rows) ≡ Some place

-- the entry of a key, if the key stands in a row
abbrev pub entry_at : List Row → List ℕ → Option Entry
entry_at [] key = None
entry_at (row ∷ rows) key = if bytes_eq key row.key then Some row.entry else entry_at rows key

-- the rank of one entry is less than that of another
abbrev pub ranks_below : Entry → Entry → Bool
ranks_below a b = is_lt (rank_cmp a.rank b.rank)

-- of two entries the one of greater rank, and at equal rank the one that was held
abbrev pub greater_entry : Entry → Entry → Entry
greater_entry held new = if ranks_below held new then new else held

-- the rows after an entry is learnt for a key: a known key keeps its place and the greater entry, and a new one goes last
abbrev pub learn_entry : List Row → List ℕ → Entry → List Row
learn_entry [] key entry = record { key = key; entry = entry } ∷ []
learn_entry (row ∷ rows) key entry =
    if bytes_eq key row.key then record { key = row.key; entry = greater_entry row.entry entry } ∷ rows else row ∷ learn_entry rows key entry

-- a rank is news beside what is held: nothing is, or an entry of a lesser rank
abbrev pub is_news : Option Entry → Rank → Bool
is_news None rank = true
is_news (Some held) rank = is_lt (rank_cmp held.rank rank)

-- the entry of a key is this one, or one of greater rank
abbrev pub HoldsAtLeast : List Row → List ℕ → Entry → Type 0
HoldsAtLeast rows key entry = (held : Entry) × (entry_at rows key ≡ Some held) × ((held ≡ entry) ⊎ (ranks_below entry held ≡ true))

-- the row of a key and its entry in a map
abbrev pub row_of : List ℕ × Entry → Row
row_of pair = record { key = pair.0; entry = pair.1 }

abbrev pub rows_of_entries : List (List ℕ × Entry) → List Row
rows_of_entries pairs = map row_of pairs
