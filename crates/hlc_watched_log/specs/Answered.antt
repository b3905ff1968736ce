-- How the next record of a watched log is answered.
use Rattle.std.specs.Prelude.{◌≡◌, ◌∷◌, ℕ, List, [], Option, Result, slice_index_or}
use Rattle.std.specs.Io.KnownBytes.{Appends}
use Rattle.hlc_csv.specs.Rows.{Fields, text_of}
use Rattle.hlc_log_text.specs.LogHeader.{IsHeaderAfter, IsSaid, said_item}
use Rattle.hlc_log_text.specs.LogItem.{LogItem, item_after}
use Rattle.hlc_log_text.specs.declared.bad_log.BadLog.{BadLog}
use Rattle.hlc_log_text.specs.declared.log_header.LogHeader.{LogHeader}
use Rattle.hlc_log_text.specs.declared.log_header.RecordItem.{RecordItem}
use Rattle.hlc_log_text.specs.declared.log_rules.LogRules.{LogRules}
use Rattle.hlc_watched_log.specs.Taken.{ends_with}
use Rattle.hlc_watched_log.specs.Watched.{WatchedLog}
use Rattle.hlc_watched_log.specs.Watching.{Placed, WatchState, bad_next, rows_next, state_next, with_item}
use Rattle.hlc_watched_log.specs.declared.watch_rules.WatchRules.{WatchRules}

-- what is kept of each file, so that its next record can be read, is so after what its records say
abbrev pub AreHeadersAfter : (items : List (List LogItem)) → List LogHeader → Type 0
AreHeadersAfter [] [] = Unit {0}
AreHeadersAfter (items ∷ others) (header ∷ headers) = IsHeaderAfter items header × AreHeadersAfter others headers
AreHeadersAfter _ _ = ⊥

-- the next record of a file is read after those of that file
abbrev pub ReadsNext : LogRules → (old : List LogHeader) → (file : ℕ) → Fields → (placed : Fields) → (new : List LogHeader) → Result RecordItem BadLog → Type 0
ReadsNext rules old file fields placed new told =
    (items : List (List LogItem)) → AreHeadersAfter items old →
    let said = item_after rules (slice_index_or items file []) fields in
    IsSaid rules.form placed said told × AreHeadersAfter (with_item items file (said_item said)) new

-- the next record is answered and added, or marks a file
pub record IsAnswered (rules : WatchRules) (state : WatchState) (next : Placed) (before after : Option (List ℕ)) (headers : List LogHeader) (log : WatchedLog)
    (ends : Option BadLog) : Type 0 where
  pub headers_are : AreHeadersAfter (state_next rules state next).items headers
  pub log_is : log ≡ (state_next rules state next).log
  pub written : Appends before after (text_of (rows_next rules state next))
  pub ends_is : ends ≡ ends_with rules.records.faults (bad_next rules state next)

abbrev pub Answers : WatchRules → (old : List LogHeader) → WatchedLog → Placed → (before after : Option (List ℕ)) → (new : List LogHeader) → WatchedLog
    → Option BadLog → Type 0
Answers rules old log next before after new new_log ends =
    (items : List (List LogItem)) → AreHeadersAfter items old → IsAnswered rules (record { items = items; log = log }) next before after new new_log ends
