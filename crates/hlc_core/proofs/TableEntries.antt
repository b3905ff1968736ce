-- What a table answers for a key is the node's entry.
use Rattle.std.proofs.Common.{◌≡◌, ◌∙◌, ℕ, ◌<◌, List, [], arith, sym, ap, Option, Some, None}
use Rattle.std.proofs.lemmas.List.{get_or_default}
use Rattle.std.specs.Prelude.{option_map, slice_index_or}
use Rattle.hlc_arena.specs.History.{History, StampedEvent}
use Rattle.hlc_arena.specs.Known.{entry_of, everywhere, table_writes}
use Rattle.hlc_table.specs.declared.entry.Entry.{Entry}
use Rattle.hlc_table.specs.Rows.{Row, entry_at}
use Rattle.hlc_arena.proofs.Entries.{nodes_converge_lem}
use Rattle.hlc_arena.proofs.Following.{well_formed_names_fit}
use Rattle.hlc_arena.proofs.KnownWrites.{fit_names_are_earlier}
use Rattle.hlc_arena.proofs.StampsRise.{allowed_stamps_rise}
use Rattle.hlc_core.specs.Effect.{writes_in}
use Rattle.hlc_core.specs.Laws.{TablesConverge}
use Rattle.hlc_core.specs.Tables.{HoldTables}
use Rattle.hlc_table.specs.Tables.{entry_for, table_rows}
use Rattle.hlc_table.proofs.TableRows.{entry_at-table_rows, writes_of_table_rows}

-- the write of an entry that was found
pub entry_for-write : (events : List StampedEvent) (o : Option ℕ) (r : Option Entry) → r ≡ option_map (entry_for events) o →
    option_map (λ (e : Entry). e.write.0) r ≡ o
entry_for-write events None r is = ap (option_map (λ (e : Entry). e.write.0)) is
entry_for-write events (Some w) r is = ap (option_map (λ (e : Entry). e.write.0)) is

module _
    {h : History} {tables : List (List Row)} (hold : HoldTables h tables) (node : ℕ) (exists : node < h.nodes)
    {table : List Row} (here : table ≡ slice_index_or tables node table) where
  -- the table that is kept for a node is its own
  pub held_table : table ≡ table_rows h.events node
  held_table = here ∙ get_or_default tables node table [] (omega (arith, exists, hold.one_each)) ∙ hold.each node exists

  -- the writes of its rows are those of the node's entries
  pub held_writes : writes_in table ≡ table_writes h.events everywhere node
  held_writes = ap writes_in held_table ∙ writes_of_table_rows h.events node

  -- what is found in it is the entry
  pub found_entry : (key : List ℕ) (r : Option Entry) → r ≡ entry_at table key →
      option_map (λ (e : Entry). e.write.0) r ≡ entry_of h.events everywhere node key
  found_entry key r is =
      entry_for-write h.events (entry_of h.events everywhere node key) r
      (is ∙ ap (λ (t : List Row). entry_at t key) held_table ∙ entry_at-table_rows h.events node key)

-- nodes that know the same writes show the same entries
pub tables_converge_lem : TablesConverge
tables_converge_lem s node other sound same key =
    let events = s.history.events in
    let earlier = fit_names_are_earlier events (well_formed_names_fit s.history sound.lawful.history.well_formed) in
    let one : entry_of events everywhere node key ≡ entry_of events everywhere other key =
    nodes_converge_lem events everywhere everywhere node other earlier (allowed_stamps_rise events sound.least.allowed) same key in
    entry_at-table_rows events node key ∙ ap (option_map (entry_for events)) one ∙ sym (entry_at-table_rows events other key)
