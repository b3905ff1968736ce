-- What a table holds after it learnt a list of writes.
use Rattle.std.specs.Prelude.{◌≡◌, ℕ, true, false, not, List, [], ◌∷◌, ◌++◌, fold, filter, map, All, MatchOption}
use Rattle.std.specs.Str.{bytes_eq}
use Rattle.hlc_table.specs.declared.entry.Entry.{Entry}
use Rattle.hlc_table.specs.Rows.{EachKeyOnce, Row, entry_at, keys_in, learn_entry, ranks_below}

-- the rows after the empty table learnt keys with their entries, one by one
abbrev pub all_learnt : List Row → List Row
all_learnt learns = fold (λ rows learn. learn_entry rows learn.key learn.entry) [] learns

-- what was learnt for a key, in order
abbrev pub learnt_of : List Row → List ℕ → List Entry
learnt_of learns key = map (λ learn. learn.entry) (filter (λ learn. bytes_eq key learn.key) learns)

-- an entry is among others, with lesser ranks alone before it and no greater rank after it
pub record IsFirstOfGreatestRank (entries : List Entry) (entry : Entry) : Type 0 where
  pub earlier : List Entry
  pub later : List Entry
  pub among : entries ≡ earlier ++ entry ∷ later
  pub above_earlier : All (λ other. ranks_below other entry ≡ true) earlier
  pub not_below_later : All (λ other. ranks_below entry other ≡ false) later

-- each key has the first of the entries of greatest rank that were learnt for it, and no other key has one
abbrev pub GreatestRankWins : Type 0
GreatestRankWins = (learns : List Row) (key : List ℕ) →
    MatchOption (entry_at (all_learnt learns) key) (learnt_of learns key ≡ []) (λ entry. IsFirstOfGreatestRank (learnt_of learns key) entry)

-- each key once, in the order of the first occurrences
abbrev pub first_occurrences : List (List ℕ) → List (List ℕ)
first_occurrences [] = []
first_occurrences (key ∷ keys) = key ∷ filter (λ other. not (bytes_eq key other)) (first_occurrences keys)

-- the keys stand in the order in which they were first learnt
abbrev pub KeysInFirstLearntOrder : Type 0
KeysInFirstLearntOrder = (learns : List Row) → keys_in (all_learnt learns) ≡ first_occurrences (keys_in learns)

-- no key stands in two rows
abbrev pub NoKeyTwice : Type 0
NoKeyTwice = (learns : List Row) → EachKeyOnce (all_learnt learns)
