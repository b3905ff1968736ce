-- The writes of a table are earlier writes of different keys, so that a sync may carry them.
use Rattle.std.proofs.Common.{◌≡◌, ◌≢◌, ℕ, ◌<◌, Bool, List, [], get_or, length, map, arith, sym, ap, ◌∙◌}
use Rattle.std.specs.Prelude.{All, AllPairs}
use Rattle.std.proofs.lemmas.List.{get_or-map, length-map}
use Rattle.std.proofs.lemmas.List.Elements.{All-from_recursion, All-map, All-weaker}
use Rattle.hlc_arena.specs.Arena.{MayBeCarried}
use Rattle.hlc_arena.specs.EntryLaws.{AllNamesFit, IsKnownWriteOf, NamesFit}
use Rattle.hlc_arena.specs.History.{AreWrites, IsWrite, StampedEvent, Synced, event_at}
use Rattle.hlc_arena.specs.Known.{Rows, first_keys, greatest_of_key, key_at, known_writes, table_of, table_writes}
use Rattle.hlc_arena.proofs.Entries.{entries_are_known_lem}
use Rattle.hlc_arena.proofs.RowSteps.{Key, rows_by-have}
use Rattle.hlc_arena.proofs.TableRows.{keys_stand_once}

module _ (events : List StampedEvent) (places : ℕ → Bool) (node : ℕ) (fit : AllNamesFit events) where
  -- a row has a known write of its key
  abbrev pub IsRow : Key × ℕ → Type 0
  IsRow row = IsKnownWriteOf events places node row.0 row.1

  table_is_known : All IsRow (table_of events places node)
  table_is_known =
      let known = known_writes events places node in
      let keys = first_keys (map (key_at events) known) in
      let entry_is_known = λ (key : Key) (w : ℕ). entries_are_known_lem events places node key w fit in
      All-from_recursion IsRow (table_of events places node) (rows_by-have IsRow (greatest_of_key events known) keys entry_is_known)

  table_writes_are_writes : AreWrites events (table_writes events places node)
  table_writes_are_writes =
      let IsWriteThere : ℕ → Type 0 = λ w. (w < length events) × IsWrite (event_at events w).kind in
      All-map IsWriteThere (λ (row : Key × ℕ). row.1) (table_of events places node)
      (All-weaker IsRow (λ row. IsWriteThere row.1) (λ row is. (is.exists, is.write.0)) (table_of events places node) table_is_known)

  -- so a sync may name them
  pub synced_entries_fit : (to : ℕ) → NamesFit events (Synced to (table_writes events places node))
  synced_entries_fit to = record {
    earlier = record { carried = λ i d lt. (table_writes_are_writes i d lt).0; delivered = tt };
    writes = λ i d lt. (table_writes_are_writes i d lt).1;
  }

  table_writes_differ : AllPairs (λ v w. key_at events v ≢ key_at events w) (table_writes events places node)
  table_writes_differ i j d lt in_range same =
      let rows : Rows = table_of events places node in
      let none : Key × ℕ = ([], d) in
      let size = length-map rows (λ (row : Key × ℕ). row.1) in
      let key_of_row : (k : ℕ) → k < length rows → key_at events (get_or (table_writes events places node) k d) ≡ (get_or rows k none).0 =
      λ k within. ap (key_at events) (get_or-map (λ (row : Key × ℕ). row.1) rows k none d within) ∙ (table_is_known k none within).write.1 in
      keys_stand_once events places node i j none lt (omega arith) (sym (key_of_row i (omega arith)) ∙ same ∙ key_of_row j (omega arith))

  -- and carry them, if there are any
  pub table_may_be_carried : table_writes events places node ≢ [] → MayBeCarried events (table_writes events places node)
  table_may_be_carried some = record { some = some; different = table_writes_differ }
