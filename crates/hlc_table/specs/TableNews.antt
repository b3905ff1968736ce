-- What is news to a table.
use Rattle.std.specs.Prelude.{◌≡◌, ℕ, ◌<◌, All, List, [], length, slice_index_or}
use Rattle.std.specs.List.{fold}
use Rattle.hlc_arena.specs.History.{StampedEvent}
use Rattle.hlc_table.specs.Rows.{IsPlaceOf, Row, keys_in, learn_entry}
use Rattle.hlc_table.specs.Tables.{rows_with}
use Rattle.hlc_table.specs.declared.news.News.{News}

-- the key at a place
abbrev pub key_in : List Row → ℕ → List ℕ
key_in rows place = slice_index_or (keys_in rows) place []

-- each place is there, and is that of its key
abbrev pub HavePlaces : List Row → List News → Type 0
HavePlaces rows news = All (λ one. (one.place < length rows) × IsPlaceOf rows (key_in rows one.place) one.place) news

-- rows after some news are learnt, in turn
abbrev pub rows_with_news : List Row → List News → List Row
rows_with_news rows news = fold (λ before one. learn_entry before (key_in rows one.place) one.entry) rows news

-- rows have learnt the writes whose keys were new, and to learn these news is to learn the others
pub record AreNews (events : List StampedEvent) (old new : List Row) (writes : List ℕ) (news : List News) : Type 0 where
  pub places : HavePlaces new news
  pub learnt : rows_with_news new news ≡ rows_with events old writes
