-- Rows of writes and ranks, as a table learns them.
use Rattle.std.proofs.Common.{◌≡◌, ◌∙◌, ℕ, Bool, true, false, cond, List, [], ◌∷◌, map, refl, ap, Some}
use Rattle.std.specs.Ordering.{is_lt}
use Rattle.std.specs.Str.{bytes_eq}
use Rattle.hlc_stamp.specs.Order.{rank_cmp}
use Rattle.hlc_arena.specs.History.{StampedEvent}
use Rattle.hlc_arena.specs.Known.{key_at, rank_at}
use Rattle.hlc_arena.specs.KnownSteps.{later_of, rows_after, rows_learnt}
use Rattle.hlc_arena.proofs.RowSteps.{Key}
use Rattle.hlc_table.specs.declared.entry.Entry.{Entry}
use Rattle.hlc_table.specs.Rows.{Row, greater_entry, learn_entry}
use Rattle.hlc_table.specs.Tables.{entry_for, rows_with, table_row}

entry_for-cond : (events : List StampedEvent) (t : Bool) (w b : ℕ)
    → entry_for events (cond t w b) ≡ cond t (entry_for events w) (entry_for events b)
entry_for-cond events true w b = refl
entry_for-cond events false w b = refl

row_learnt : (events : List StampedEvent) (key : Key) (w : ℕ) (row : Key × ℕ) (rows : List (Key × ℕ)) (t : Bool)
    → map (table_row events) (rows_after (rank_at events) rows key w) ≡ learn_entry (map (table_row events) rows) key (entry_for events w)
    → map (table_row events)
    (cond t ((row.0, later_of (rank_at events) (Some row.1) w) ∷ rows) (row ∷ rows_after (rank_at events) rows key w))
    ≡ cond t
    (record { key = row.0; entry = greater_entry (entry_for events row.1) (entry_for events w) } ∷ map (table_row events) rows)
    (table_row events row ∷ learn_entry (map (table_row events) rows) key (entry_for events w))
row_learnt events key w row rows true more =
    let is_news : Bool = is_lt (rank_cmp (rank_at events row.1) (rank_at events w)) in
    let with_entry : Entry → List Row = λ entry. record { key = row.0; entry = entry } ∷ map (table_row events) rows in
    ap with_entry (entry_for-cond events is_news w row.1)
row_learnt events key w row rows false more = ap (λ (rs : List Row). table_row events row ∷ rs) more

-- a write that is learnt, as a table learns it
rows_after-learn_entry : (events : List StampedEvent) (key : Key) (w : ℕ) (rows : List (Key × ℕ))
    → map (table_row events) (rows_after (rank_at events) rows key w) ≡ learn_entry (map (table_row events) rows) key (entry_for events w)
rows_after-learn_entry events key w [] = refl
rows_after-learn_entry events key w (row ∷ rows) =
    row_learnt events key w row rows (bytes_eq key row.0) (rows_after-learn_entry events key w rows)

-- and some, in turn
pub rows_learnt-with : (events : List StampedEvent) (rows : List (Key × ℕ)) (writes : List ℕ)
    → map (table_row events) (rows_learnt events rows writes) ≡ rows_with events (map (table_row events) rows) writes
rows_learnt-with events rows [] = refl
rows_learnt-with events rows (w ∷ writes) =
    rows_learnt-with events (rows_after (rank_at events) rows (key_at events w) w) writes
    ∙ ap (λ (rs : List Row). rows_with events rs writes) (rows_after-learn_entry events (key_at events w) w rows)
