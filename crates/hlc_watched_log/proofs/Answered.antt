-- The next record is answered, or marks a file.
use Rattle.std.proofs.Common.{◌≡◌, ◌∙◌, ◌+◌, [], List, Option, Some, None, Result, ℕ, ap, refl, subst, sym}
use Rattle.std.specs.Io.KnownBytes.{Appends}
use Rattle.hlc_csv.specs.Rows.{Fields, text_of}
use Rattle.hlc_log_text.specs.FileMarks.{begun_file}
use Rattle.hlc_log_text.specs.LogItem.{LogItem}
use Rattle.hlc_log_text.specs.declared.bad_log.BadLog.{BadLog}
use Rattle.hlc_log_text.specs.declared.log_header.LogHeader.{LogHeader}
use Rattle.hlc_log_text.specs.declared.log_header.RecordItem.{RecordItem}
use Rattle.hlc_watched_log.specs.Answered.{AreHeadersAfter, IsAnswered, ReadsNext}
use Rattle.hlc_watched_log.specs.Numbers.{name_number, with_number}
use Rattle.hlc_watched_log.specs.Taken.{IsTaken, Takes, ends_with}
use Rattle.hlc_watched_log.specs.Watched.{WatchedLog, in_file, on_line}
use Rattle.hlc_watched_log.specs.Watching.{Placed, WatchState, bad_by_mark, read_rules, rows_by_mark, said_next, state_by_mark}
use Rattle.hlc_watched_log.specs.declared.watch_rules.WatchRules.{WatchRules}
use Rattle.hlc_watched_log.proofs.RowsAdded.{appends_none}

module _ (rules : WatchRules) (items : List (List LogItem)) (log : WatchedLog) (fields : Fields) (line : ℕ) (before after : Option (List ℕ))
    (headers : List LogHeader) (new : WatchedLog) where
  abbrev state : WatchState
  state = record { items = items; log = log }

  abbrev next : Placed
  next = (fields, line)

  -- it is so by the file that it marks, if it marks one
  answered_by : (mark : Option (List ℕ)) (ends : Option BadLog) → mark ≡ begun_file fields
      → AreHeadersAfter (state_by_mark rules state next mark).items headers → new ≡ (state_by_mark rules state next mark).log
      → Appends before after (text_of (rows_by_mark rules state next mark)) → ends ≡ ends_with rules.records.faults (bad_by_mark rules state next mark)
      → IsAnswered rules state next before after headers new ends
  answered_by mark ends is are new_is written ends_is = record {
    headers_are = subst (λ (m : Option (List ℕ)). AreHeadersAfter (state_by_mark rules state next m).items headers) is are;
    log_is = new_is ∙ ap (λ (m : Option (List ℕ)). (state_by_mark rules state next m).log) is;
    written = subst (λ (m : Option (List ℕ)). Appends before after (text_of (rows_by_mark rules state next m))) is written;
    ends_is = ends_is ∙ ap (λ (m : Option (List ℕ)). ends_with rules.records.faults (bad_by_mark rules state next m)) is;
  }

  -- it marks a file
  pub mark_answered : (name : List ℕ) (file : ℕ) → Some name ≡ begun_file fields → file ≡ name_number log.names.files name + 1
      → AreHeadersAfter (with_number [] items file) headers → new ≡ in_file log name line → after ≡ before → IsAnswered rules state next before after headers new None
  mark_answered name file is file_is are new_is same =
      answered_by (Some name) None is (subst (λ (n : ℕ). AreHeadersAfter (with_number [] items n) headers) file_is are) new_is
      (subst (λ (a : Option (List ℕ)). Appends before a []) (sym same) (appends_none before)) refl

  -- it is the next of its file
  pub record_answered : (old : List LogHeader) → AreHeadersAfter items old → (file : ℕ) (placed : Fields) (told : Result RecordItem BadLog) (ends : Option BadLog)
      → None ≡ begun_file fields → file ≡ log.files.current → ReadsNext (read_rules rules.records) old file fields placed headers told
      → Takes rules told placed (on_line log line) before after new ends → IsAnswered rules state next before after headers new ends
  record_answered old are file placed told ends is file_is reads takes =
      let read = subst (λ (f : ℕ). ReadsNext (read_rules rules.records) old f fields placed headers told) file_is reads items are in
      let taken : IsTaken rules (said_next rules state next) (on_line log line) before after new ends = takes (said_next rules state next) read.0 in
      answered_by None ends is read.1 taken.kept taken.written taken.ends
