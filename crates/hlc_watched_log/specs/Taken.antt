-- What a record does to a watched log.
use Rattle.std.specs.Prelude.{◌≡◌, ◌≤◌, ◌+◌, ℕ, List, ◌++◌, Option, Some, None, Result, if◌then◌else◌, length}
use Rattle.std.specs.Io.KnownBytes.{Appends}
use Rattle.hlc_csv.specs.Rows.{Fields, field_of, text_of}
use Rattle.hlc_log.specs.declared.log_event.TheConstants.{MAX_LOG_NODES}
use Rattle.hlc_log_text.specs.FaultRule.{leaves_out}
use Rattle.hlc_log_text.specs.LogHeader.{IsSaid}
use Rattle.hlc_log_text.specs.LogItem.{LogItem}
use Rattle.hlc_log_text.specs.NamedEvent.{NamedEvent, message_place, told_by, with_extras}
use Rattle.hlc_log_text.specs.declared.bad_log.BadLog.{BadLog}
use Rattle.hlc_log_text.specs.declared.extras.Extras.{Extras}
use Rattle.hlc_log_text.specs.declared.fault_rule.FaultRule.{FaultRule}
use Rattle.hlc_log_text.specs.declared.log_header.RecordItem.{RecordItem}
use Rattle.hlc_log_text.specs.declared.record_head.RecordHead.{RecordHead}
use Rattle.hlc_log_text.specs.declared.stamp_form.StampForm.{StampForm}
use Rattle.hlc_watch.specs.Laws.{if_any}
use Rattle.hlc_watch.specs.declared.records.Records.{Records}
use Rattle.hlc_watch.specs.declared.watch.Complete.{Complete}
use Rattle.hlc_watched_log.specs.Watched.{WatchedLog, bad_of, log_at, rows_at, said_event, told_rows, unwatched, with_told}
use Rattle.hlc_watched_log.specs.declared.watch_rules.WatchRules.{WatchRules}

-- something is counted of each node, and there aren't too many; and of each file
pub record IsWhole (log : WatchedLog) : Type 0 where
  pub one_each : length log.tallies ≡ length log.names.nodes
  pub few : length log.names.nodes ≤ MAX_LOG_NODES
  pub files : length log.files.counted ≡ length log.names.files + 1

-- the records of the events that are complete now
abbrev pub complete_in : Complete → List Records
complete_in complete = if_any complete.event ++ complete.waited.items

-- an event as a record tells of it, but for a sending node's name and a label
abbrev pub IsNamed : StampForm → RecordHead → Extras → (placed : Fields) → NamedEvent → Type 0
IsNamed form head extras placed named =
    (from label : Option (List ℕ))
    × (named ≡ with_extras extras (told_by head (field_of placed 1) (field_of placed (message_place form)) from label))

-- a record that tells of this event, if it does, is answered and added; or it is bad, and nothing is changed or written yet
abbrev pub TakesOr : WatchRules → (old : WatchedLog) → Option NamedEvent → (before after : Option (List ℕ)) → (new : WatchedLog) → Option BadLog → Type 0
TakesOr rules old event before after new None =
    (new ≡ with_told rules old event) × Appends before after (text_of (told_rows rules old event))
TakesOr rules old event before after new (Some why) = (new ≡ old) × (after ≡ before)

-- so it is of an event, whatever a record tells of beside
abbrev pub TakesEvent : WatchRules → RecordHead → Extras → (placed : Fields) → (old : WatchedLog) → (before after : Option (List ℕ))
    → (new : WatchedLog) → Option BadLog → Type 0
TakesEvent rules head extras placed old before after new found =
    (named : NamedEvent) → IsNamed rules.records.form head extras placed named →
    (found ≡ unwatched rules.records.form old.names.nodes named) × TakesOr rules old (Some named) before after new found

-- and of what is told of a record
abbrev pub TakesItem : WatchRules → Result RecordItem BadLog → (placed : Fields) → (old : WatchedLog) → (before after : Option (List ℕ))
    → (new : WatchedLog) → Option BadLog → Type 0
TakesItem rules told placed old before after new found =
    (said : Result LogItem BadLog) → IsSaid rules.records.form placed said told →
    (found ≡ bad_of rules.records.form old.names.nodes said) × TakesOr rules old (said_event said) before after new found

-- a bad record ends the watch, unless the rules leave it out
abbrev pub ends_with : FaultRule → Option BadLog → Option BadLog
ends_with faults None = None
ends_with faults (Some why) = if leaves_out faults why then None else Some why

-- a record that is to say this is answered, and added
pub record IsTaken (rules : WatchRules) (said : Result LogItem BadLog) (old : WatchedLog) (before after : Option (List ℕ)) (new : WatchedLog)
    (found : Option BadLog) : Type 0 where
  pub kept : new ≡ log_at rules old said
  pub written : Appends before after (text_of (rows_at rules old said))
  pub ends : found ≡ ends_with rules.records.faults (bad_of rules.records.form old.names.nodes said)

abbrev pub Takes : WatchRules → Result RecordItem BadLog → (placed : Fields) → (old : WatchedLog) → (before after : Option (List ℕ))
    → (new : WatchedLog) → Option BadLog → Type 0
Takes rules told placed old before after new ends =
    (said : Result LogItem BadLog) → IsSaid rules.records.form placed said told → IsTaken rules said old before after new ends
