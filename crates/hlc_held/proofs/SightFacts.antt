-- What a look at a table shows is what the definitions show.
use Rattle.std.proofs.Common.{◌≡◌, ◌∙◌, ℕ, List, refl, ap, Option, Some, None}
use Rattle.std.specs.Prelude.{option_map}
use Rattle.hlc_arena.specs.History.{StampedEvent, event_at}
use Rattle.hlc_arena.specs.Known.{entry_of, everywhere, value_of}
use Rattle.hlc_table.specs.declared.entry.Entry.{Entry}
use Rattle.hlc_table.specs.Rows.{Row, entry_at}
use Rattle.hlc_table.specs.Tables.{entry_for, table_rows}
use Rattle.hlc_table.proofs.TableRows.{entry_at-table_rows}
use Rattle.hlc_held.specs.LogEntry.{Sight}
use Rattle.hlc_held.specs.Sights.{sight_of_key, sight_of_write}

abbrev sight_with : List StampedEvent → Entry → Sight
sight_with events entry = record { entry = entry; value = value_of (event_at events entry.write.0).kind }

sight_found : (events : List StampedEvent) (o : Option ℕ) (entry : Entry) → Some entry ≡ option_map (entry_for events) o
    → Some (sight_with events entry) ≡ option_map (sight_of_write events) o
sight_found events None entry found = absurd (cc found)
sight_found events (Some w) entry found =
    let same : entry ≡ entry_for events w = cc found in
    ap (λ (e : Entry). Some (sight_with events e)) same

-- a key that stands in the table
pub sight_of_key-found : (events : List StampedEvent) (node : ℕ) (key : List ℕ) (table : List Row) (entry : Entry) (sight : Sight)
    → table ≡ table_rows events node → Some entry ≡ entry_at table key
    → sight ≡ record { entry = entry; value = value_of (event_at events entry.write.0).kind }
    → Some sight ≡ sight_of_key events everywhere node key
sight_of_key-found events node key table entry sight rows found is =
    ap (λ (s : Sight). Some s) is
    ∙ sight_found events (entry_of events everywhere node key) entry
    (found ∙ ap (λ (t : List Row). entry_at t key) rows ∙ entry_at-table_rows events node key)

sight_missing : (events : List StampedEvent) (o : Option ℕ) → ◌≡◌ {A = Option Entry} None (option_map (entry_for events) o)
    → ◌≡◌ {A = Option Sight} None (option_map (sight_of_write events) o)
sight_missing events None missing = refl
sight_missing events (Some w) missing = absurd (cc missing)

-- a key that doesn't
pub sight_of_key-missing : (events : List StampedEvent) (node : ℕ) (key : List ℕ) (table : List Row)
    → table ≡ table_rows events node → None ≡ entry_at table key → None ≡ sight_of_key events everywhere node key
sight_of_key-missing events node key table rows missing =
    sight_missing events (entry_of events everywhere node key)
    (missing ∙ ap (λ (t : List Row). entry_at t key) rows ∙ entry_at-table_rows events node key)
