-- The table of a node, as rows with ranks.
use Rattle.std.specs.Prelude.{◌≡◌, ◌↔◌, ℕ, ◌<◌, All, AllPairs, Contains, IfSome, IsSome, List, [], ◌∷◌, length, map}
use Rattle.std.specs.List.{fold}
use Rattle.hlc_arena.specs.EntryLaws.{IsGreatestKnown}
use Rattle.hlc_arena.specs.History.{StampedEvent, event_at}
use Rattle.hlc_arena.specs.Known.{everywhere, key_at, known_writes, rank_at, table_of, writes_learnt}
use Rattle.hlc_arena.specs.KnownSteps.{rows_from}
use Rattle.hlc_arena.specs.TableLaws.{BecameKnownBefore, IsKeyAmong}
use Rattle.hlc_table.specs.declared.entry.Entry.{Entry}
use Rattle.hlc_table.specs.Rows.{EachKeyOnce, Row, entry_at, keys_in, learn_entry}

-- a write as an entry: its event and its rank
abbrev pub entry_for : List StampedEvent → ℕ → Entry
entry_for events w = record { write = record { 0 = w }; rank = rank_at events w }

-- a key with the write that is its entry, as a table has it
abbrev pub table_row : List StampedEvent → List ℕ × ℕ → Row
table_row events row = record { key = row.0; entry = entry_for events row.1 }

-- the table of a node after all events, as it is kept
abbrev pub table_rows : List StampedEvent → ℕ → List Row
table_rows events node = map (table_row events) (table_of events everywhere node)

-- the rows of a node from the events before a place
abbrev pub rows_before : List StampedEvent → ℕ → ℕ → List Row
rows_before events node n = map (table_row events) (rows_from events everywhere node n)

-- rows after some writes are learnt, in turn
abbrev pub rows_with : List StampedEvent → List Row → List ℕ → List Row
rows_with events rows writes = fold (λ before w. learn_entry before (key_at events w) (entry_for events w)) rows writes

-- the writes that the event at a place makes known at its node
abbrev pub writes_at : List StampedEvent → ℕ → List ℕ
writes_at events e = writes_learnt events e (event_at events e).kind

-- rows learn some writes without memory: there are none, or one whose key stands in a row
abbrev pub NeedNoMemory : List StampedEvent → List Row → List ℕ → Type 0
NeedNoMemory events rows [] = Unit {0}
NeedNoMemory events rows (w ∷ []) = IsSome (entry_at rows (key_at events w))
NeedNoMemory events rows (v ∷ w ∷ more) = ⊥

-- an entry is that of a key at a node: the known write of the key that none exceeds in rank
abbrev pub IsEntryOf : List StampedEvent → ℕ → List ℕ → Entry → Type 0
IsEntryOf events node key entry = (w : ℕ) × IsGreatestKnown events everywhere node key w × (entry ≡ entry_for events w)

-- rows are a node's table: their keys are those of the writes that the node knows, each once, in the order in which they became known, and
-- each has its entry
pub record IsTableOf (events : List StampedEvent) (node : ℕ) (rows : List Row) : Type 0 where
  pub keys : (key : List ℕ) → Contains (keys_in rows) key ↔ IsKeyAmong events (known_writes events everywhere node) key
  pub once : EachKeyOnce rows
  pub order : AllPairs (BecameKnownBefore events (known_writes events everywhere node)) (keys_in rows)
  pub entries : All (λ row. IsEntryOf events node row.key row.entry) rows

-- of rows, the entry of each key is the one event of its rank
abbrev pub OneWriteARank : List StampedEvent → List Row → Type 0
OneWriteARank events rows = (key : List ℕ) (w : ℕ) → w < length events →
    IfSome (entry_at rows key) (λ held. held.rank ≡ rank_at events w → held.write ≡ record { 0 = w })
