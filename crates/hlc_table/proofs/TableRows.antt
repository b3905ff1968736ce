-- The table of a node: with one more event, and what a look-up in it finds.
use Rattle.std.proofs.Common.{◌≡◌, ◌∙◌, ℕ, ◌<◌, Bool, true, false, List, [], ◌∷◌, ◌++◌, length, refl, ap, Option, Some}
use Rattle.std.specs.Prelude.{cond, filter, map, option_map}
use Rattle.std.specs.List.{AllByRecursion}
use Rattle.std.specs.Str.{bytes_eq}
use Rattle.std.proofs.lemmas.List.Elements.{All-filter}
use Rattle.hlc_arena.specs.History.{StampedEvent}
use Rattle.hlc_arena.specs.Known.{Rows, entry_of, everywhere, first_keys, greatest_of_key, key_at, known_writes, rank_at, table_of, table_writes}
use Rattle.hlc_arena.specs.KnownSteps.{AllNameEarlier, learnt_next}
use Rattle.hlc_arena.specs.TableLaws.{write_in}
use Rattle.hlc_arena.proofs.TableRows.{tables_show_entries_lem}
use Rattle.hlc_arena.proofs.KnownMore.{earlier_before, known_are_events}
use Rattle.hlc_arena.proofs.Places.{stamped_at-before}
use Rattle.hlc_arena.proofs.Ranks.{greatest_has}
use Rattle.hlc_arena.proofs.RowSteps.{Key, rows_by-have}
use Rattle.hlc_arena.proofs.TableSteps.{tables_step_lem}
use Rattle.hlc_table.specs.declared.entry.Entry.{Entry}
use Rattle.hlc_table.specs.Rows.{Row, entry_at}
use Rattle.hlc_table.specs.Tables.{entry_for, rows_with, table_row, table_rows}
use Rattle.hlc_table.proofs.RowsLearnt.{rows_learnt-with}
use Rattle.hlc_table.proofs.Ranks.{entry_of_event}

-- each row's write is an event
pub table_below : (events : List StampedEvent) (node : ℕ) → AllNameEarlier events
    → AllByRecursion (λ row. row.1 < length events) (table_of events everywhere node)
table_below events node all =
    let ws = known_writes events everywhere node in
    rows_by-have (λ row. row.1 < length events) (greatest_of_key events ws) (first_keys (map (key_at events) ws))
    (λ key w is. greatest_has (rank_at events) (λ v. v < length events) (filter (λ v. bytes_eq key (key_at events v)) ws) w
    (All-filter (λ v. bytes_eq key (key_at events v)) (λ v. v < length events) ws (known_are_events events all everywhere node)) is)

rows_stay : (others : List StampedEvent) (x : StampedEvent) (rows : List (Key × ℕ)) → AllByRecursion (λ row. row.1 < length others) rows
    → map (table_row (others ++ x ∷ [])) rows ≡ map (table_row others) rows
rows_stay others x [] all = refl
rows_stay others x (row ∷ rows) all =
    let more = map (table_row (others ++ x ∷ [])) rows in
    let with_row : StampedEvent → List Row = λ y. record { key = row.0; entry = entry_of_event row.1 y } ∷ more in
    ap with_row (stamped_at-before others x row.1 all.0)
    ∙ ap (λ (rs : List Row). table_row others row ∷ rs) (rows_stay others x rows all.1)

writes_kept : (events : List StampedEvent) (rows : Rows)
    → map (λ (row : Row). row.entry.write.0) (map (table_row events) rows) ≡ map (λ row. row.1) rows
writes_kept events [] = refl
writes_kept events (row ∷ rows) = ap (λ (ws : List ℕ). row.1 ∷ ws) (writes_kept events rows)

-- the writes of the rows that are kept for a node are those of its table
pub writes_of_table_rows : (events : List StampedEvent) (node : ℕ)
    → map (λ (row : Row). row.entry.write.0) (table_rows events node) ≡ table_writes events everywhere node
writes_of_table_rows events node = writes_kept events (table_of events everywhere node)

-- the table of a node after one more event
pub table_rows-push : (others : List StampedEvent) (x : StampedEvent) (node : ℕ) → AllNameEarlier (others ++ x ∷ []) →
    table_rows (others ++ x ∷ []) node ≡ rows_with (others ++ x ∷ []) (table_rows others node) (learnt_next others x.event node)
table_rows-push others x node earlier =
    let more = others ++ x ∷ [] in
    let rows = table_of others everywhere node in
    ap (map (table_row more)) (tables_step_lem others x node earlier)
    ∙ rows_learnt-with more rows (learnt_next others x.event node)
    ∙ ap (λ (rs : List Row). rows_with more rs (learnt_next others x.event node))
    (rows_stay others x rows (table_below others node (earlier_before others x earlier)))

option_map-cond : (events : List StampedEvent) (t : Bool) (w : ℕ) (o : Option ℕ)
    → cond t (Some (entry_for events w)) (option_map (entry_for events) o) ≡ option_map (entry_for events) (cond t (Some w) o)
option_map-cond events true w o = refl
option_map-cond events false w o = refl

-- a look-up in rows as a table has them
pub entry_at-rows : (events : List StampedEvent) (rows : Rows) (key : List ℕ)
    → entry_at (map (table_row events) rows) key ≡ option_map (entry_for events) (write_in rows key)
entry_at-rows events [] key = refl
entry_at-rows events (row ∷ rows) key =
    ap (λ (o : Option Entry). cond (bytes_eq key row.0) (Some (entry_for events row.1)) o) (entry_at-rows events rows key)
    ∙ option_map-cond events (bytes_eq key row.0) row.1 (write_in rows key)

pub entry_at-table_rows : (events : List StampedEvent) (node : ℕ) (key : List ℕ)
    → entry_at (table_rows events node) key ≡ option_map (entry_for events) (entry_of events everywhere node key)
entry_at-table_rows events node key =
    entry_at-rows events (table_of events everywhere node) key
    ∙ ap (option_map (entry_for events)) (tables_show_entries_lem events everywhere node key)
