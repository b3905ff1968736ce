-- What the watch of a log writes, whose records come one after another.
use Rattle.std.specs.Prelude.{◌≡◌, ◌⊎◌, ◌+◌, ℕ, false, List, [], ◌∷◌, ◌++◌, Option, None, Some, Result, fold, map, slice_index_or, slice_set}
use Rattle.std.specs.Io.KnownBytes.{Appends}
use Rattle.hlc_csv.specs.RecordReader.{AreAll, AreAllOpen, AreFirst}
use Rattle.hlc_csv.specs.Rows.{Fields, text_of}
use Rattle.hlc_log.specs.declared.resent.Resent.TheVariants.{Last}
use Rattle.hlc_log_text.specs.FaultRule.{leaves_out}
use Rattle.hlc_log_text.specs.FileMarks.{begun_file}
use Rattle.hlc_log_text.specs.LogHeader.{said_item}
use Rattle.hlc_log_text.specs.LogItem.{LogItem, item_after}
use Rattle.hlc_log_text.specs.declared.bad_log.BadLog.{BadLog}
use Rattle.hlc_log_text.specs.declared.bad_log.BadLog.TheVariants as bad
use Rattle.hlc_log_text.specs.declared.log_rules.LogRules.{LogRules}
use Rattle.hlc_watched_log.specs.Files.{line_here}
use Rattle.hlc_watched_log.specs.Numbers.{name_number, with_number}
use Rattle.hlc_watched_log.specs.Watched.{WatchedLog, bad_of, bad_row, in_file, log_at, no_events, on_line, rows_at, summary_rows}
use Rattle.hlc_watched_log.specs.declared.outcome.WatchOutcome.{WatchOutcome}
use Rattle.hlc_watched_log.specs.declared.outcome.WatchOutcome.TheVariants as outcome
use Rattle.hlc_watched_log.specs.declared.watch_rules.WatchRules.{WatchRules}

-- how records are read in a watch: a message that is sent again is the one that was sent last
abbrev pub read_rules : LogRules → LogRules
read_rules rules = record rules { resent = Some Last }

-- what the records of each file so far say, by its number, and what is kept of them
pub record WatchState : Type 0 where
  pub items : List (List LogItem)
  pub log : WatchedLog

-- nothing came
abbrev pub at_first : WatchRules → WatchState
at_first rules = record { items = [] ∷ []; log = no_events rules.keep }

-- a record with its line
abbrev pub Placed : Type 0
Placed = Fields × ℕ

-- what the records of a file say, with one more
abbrev pub with_item : List (List LogItem) → (file : ℕ) → LogItem → List (List LogItem)
with_item items file item = slice_set items file (slice_index_or items file [] ++ item ∷ [])

-- what the next record is to say, after those of its file
abbrev pub said_next : WatchRules → WatchState → Placed → Result LogItem BadLog
said_next rules state next = item_after (read_rules rules.records) (slice_index_or state.items state.log.files.current []) next.0

-- what it is answered with, if it doesn't mark a file of a name
abbrev pub rows_by_mark : WatchRules → WatchState → Placed → (mark : Option (List ℕ)) → List Fields
rows_by_mark rules state next None = rows_at rules (on_line state.log next.1) (said_next rules state next)
rows_by_mark rules state next (Some name) = []

abbrev pub rows_next : WatchRules → WatchState → Placed → List Fields
rows_next rules state next = rows_by_mark rules state next (begun_file next.0)

-- why it is bad, if it is
abbrev pub bad_by_mark : WatchRules → WatchState → Placed → (mark : Option (List ℕ)) → Option BadLog
bad_by_mark rules state next None = bad_of rules.records.form state.log.names.nodes (said_next rules state next)
bad_by_mark rules state next (Some name) = None

abbrev pub bad_next : WatchRules → WatchState → Placed → Option BadLog
bad_next rules state next = bad_by_mark rules state next (begun_file next.0)

-- and what is there then
abbrev pub state_by_mark : WatchRules → WatchState → Placed → (mark : Option (List ℕ)) → WatchState
state_by_mark rules state next None =
    let said = said_next rules state next in
    record { items = with_item state.items state.log.files.current (said_item said); log = log_at rules (on_line state.log next.1) said }
state_by_mark rules state next (Some name) = record {
  items = with_number [] state.items (name_number state.log.names.files name + 1);
  log = in_file state.log name next.1;
}

abbrev pub state_next : WatchRules → WatchState → Placed → WatchState
state_next rules state next = state_by_mark rules state next (begun_file next.0)

-- after some records, from what was there before
abbrev pub state_after : WatchRules → WatchState → List Placed → WatchState
state_after rules state records = fold (state_next rules) state records

-- the rows that some records are answered with, one after another
abbrev pub rows_from : WatchRules → WatchState → List Placed → List Fields
rows_from rules state [] = []
rows_from rules state (next ∷ records) = rows_next rules state next ++ rows_from rules (state_next rules state next) records

-- of the records of a log from its first on
abbrev pub log_after : WatchRules → List Placed → WatchedLog
log_after rules records = (state_after rules (at_first rules) records).log

abbrev pub rows_told : WatchRules → List Placed → List Fields
rows_told rules records = rows_from rules (at_first rules) records

-- records and their lines
abbrev pub fields_in : List Placed → List Fields
fields_in records = map (λ next. next.0) records

abbrev pub lines_in : List Placed → List ℕ
lines_in records = map (λ next. next.1) records

-- the row of a record that is bad after some records
abbrev pub bad_row_after : WatchRules → List Placed → (line : ℕ) → BadLog → Fields
bad_row_after rules records line why =
    let log = on_line (log_after rules records) line in bad_row log.names.files (line_here log.files) why

-- what is said of a log that was watched to its end
abbrev pub ended_with : WatchedLog → WatchOutcome
ended_with log = outcome.Ended log.events log.counts.broken log.counts.over_limit

-- the bytes are these records, and the writer got the rows that they are answered with, and those that sum the log up
pub record IsWatchedWhole (rules : WatchRules) (bytes before after : Option (List ℕ)) (result : WatchOutcome) : Type 0 where
  pub records : List Placed
  pub all : AreAll bytes (fields_in records) (lines_in records)
  pub written : Appends before after (text_of (rows_told rules records ++ summary_rows (log_after rules records)))
  pub outcome : result ≡ ended_with (log_after rules records)

-- the bytes begin with these records and then one that is bad for this reason, and that the rules don't leave out; or it is the last, and nothing
-- closes its last field
abbrev pub EndsBad : WatchRules → (bytes : Option (List ℕ)) → List Placed → Placed → BadLog → Type 0
EndsBad rules bytes records next why =
    let all = records ++ next ∷ [] in
    let state = state_after rules (at_first rules) records in
    (AreFirst bytes (fields_in all) (lines_in all) × (bad_next rules state next ≡ Some why)
    × (leaves_out rules.records.faults why ≡ false))
    ⊎ (AreAllOpen bytes (fields_in all) (lines_in all) × (why ≡ bad.Quote))

-- they do, and the writer got the rows that the records before it are answered with, and that of the bad one
pub record IsWatchedToBad (rules : WatchRules) (bytes before after : Option (List ℕ)) (result : WatchOutcome) : Type 0 where
  pub records : List Placed
  pub next : Placed
  pub why : BadLog
  pub ends : EndsBad rules bytes records next why
  pub written : Appends before after (text_of (rows_told rules records ++ bad_row_after rules records next.1 why ∷ []))
  pub outcome : result ≡ outcome.BadLog

-- what the watch of some bytes left, with this outcome
abbrev pub IsWatched : WatchRules → (bytes before after : Option (List ℕ)) → WatchOutcome → Type 0
IsWatched rules bytes before after result =
    IsWatchedWhole rules bytes before after result ⊎ IsWatchedToBad rules bytes before after result
