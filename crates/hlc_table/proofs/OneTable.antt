-- The rows that are kept for a node are its table, and no others are.
use Rattle.std.proofs.Common.{◌≡◌, ◌↔◌, ◌∙◌, ℕ, List, [], ◌∷◌, map, refl, subst, sym, ap}
use Rattle.std.specs.Prelude.{All, AllPairs, Contains}
use Rattle.std.proofs.lemmas.List.Elements.{All-from_recursion, All-head, All-map, All-tail}
use Rattle.hlc_arena.specs.EntryLaws.{AllNamesFit, StampsRise}
use Rattle.hlc_arena.specs.History.{StampedEvent}
use Rattle.hlc_arena.specs.Known.{Rows, everywhere, first_keys, greatest_of_key, key_at, known_writes, table_of}
use Rattle.hlc_arena.specs.TableLaws.{BecameKnownBefore, IsKeyAmong}
use Rattle.hlc_arena.proofs.Entries.{entries_are_greatest_lem, greatest_is_entry}
use Rattle.hlc_arena.proofs.KnownOrder.{keys_in_order_differ, one_known_order, row_keys, table_keys_known, table_keys_ordered}
use Rattle.hlc_arena.proofs.RowSteps.{Key, rows_by-have}
use Rattle.hlc_table.specs.declared.entry.Entry.{Entry}
use Rattle.hlc_table.specs.Rows.{Row, keys_in}
use Rattle.hlc_table.specs.Tables.{IsEntryOf, IsTableOf, entry_for, table_row, table_rows}

keys_kept : (events : List StampedEvent) (rows : Rows) → keys_in (map (table_row events) rows) ≡ row_keys rows
keys_kept events [] = refl
keys_kept events (row ∷ rows) = ap (λ (keys : List Key). row.0 ∷ keys) (keys_kept events rows)

-- rows of the same keys are the same if a key has only one entry
same_rows : (P : Key → Entry → Type 0) → ((key : Key) (a b : Entry) → P key a → P key b → a ≡ b)
    → (rows others : List Row) → keys_in rows ≡ keys_in others
    → All (λ row. P row.key row.entry) rows → All (λ row. P row.key row.entry) others → rows ≡ others
same_rows P one [] [] keys all alls = refl
same_rows P one [] (other ∷ others) keys all alls = absurd (cc)
same_rows P one (row ∷ rows) [] keys all alls = absurd (cc)
same_rows P one (row ∷ rows) (other ∷ others) keys all alls =
    let key : row.key ≡ other.key = cc in
    let rest : keys_in rows ≡ keys_in others = cc in
    let Holds : Row → Type 0 = λ row. P row.key row.entry in
    let there : P row.key other.entry = subst (λ (k : Key). P k other.entry) (sym key) (All-head Holds other others alls) in
    let entry : row.entry ≡ other.entry = one row.key row.entry other.entry (All-head Holds row rows all) there in
    let more = same_rows P one rows others rest (All-tail Holds row rows all) (All-tail Holds other others alls) in
    let same : row ≡ other = λ i. record { key = key i; entry = entry i } in
    cc

module _ (events : List StampedEvent) (node : ℕ) (fit : AllNamesFit events) where
  abbrev pub table : Rows
  table = table_of events everywhere node

  abbrev pub known : List ℕ
  known = known_writes events everywhere node

  abbrev pub IsBefore : Key → Key → Type 0
  IsBefore a b = BecameKnownBefore events known a b

  same_keys : keys_in (table_rows events node) ≡ row_keys table
  same_keys = keys_kept events table

  kept_keys : (key : Key) → Contains (keys_in (table_rows events node)) key ↔ IsKeyAmong events known key
  kept_keys key =
      let among = table_keys_known events everywhere node fit key in
      subst (λ (keys : List Key). Contains keys key ↔ IsKeyAmong events known key) (sym same_keys) among

  kept_order : AllPairs IsBefore (keys_in (table_rows events node))
  kept_order = subst (AllPairs IsBefore) (sym same_keys) (table_keys_ordered events everywhere node fit)

  kept_entries : All (λ row. IsEntryOf events node row.key row.entry) (table_rows events node)
  kept_entries =
      let HasEntry : Key × ℕ → Type 0 = λ row. IsEntryOf events node row.0 (entry_for events row.1) in
      All-map (λ row. IsEntryOf events node row.key row.entry) (table_row events) table
      (All-from_recursion HasEntry table
      (rows_by-have HasEntry (greatest_of_key events known) (first_keys (map (key_at events) known))
      (λ key w is. (w, entries_are_greatest_lem events everywhere node key w fit is, refl))))

  -- the rows that are kept for a node are its table
  pub kept_is_table : IsTableOf events node (table_rows events node)
  kept_is_table = record {
    keys = kept_keys;
    once = keys_in_order_differ events known (keys_in (table_rows events node)) kept_order;
    order = kept_order;
    entries = kept_entries;
  }

  module _ (rise : StampsRise events) where
    one_entry : (key : Key) (a b : Entry) → IsEntryOf events node key a → IsEntryOf events node key b → a ≡ b
    one_entry key a b (w, greatest, is) (v, greatest', is') =
        let at_w = (greatest_is_entry events everywhere node key w fit rise).1 greatest in
        let at_v = (greatest_is_entry events everywhere node key v fit rise).1 greatest' in
        let same : w ≡ v = cc in
        is ∙ ap (entry_for events) same ∙ sym is'

    pub one_table : (rows : List Row) → IsTableOf events node rows → rows ≡ table_rows events node
    one_table rows is =
        let keys = one_known_order events known (keys_in rows) (keys_in (table_rows events node)) is.order kept_order
        (λ key. (λ among. (kept_keys key).1 ((is.keys key).0 among), λ among. (is.keys key).1 ((kept_keys key).0 among))) in
        same_rows (IsEntryOf events node) one_entry rows (table_rows events node) keys is.entries kept_entries
