-- What was watched.
use Rattle.std.specs.Prelude.{◌≡◌, ◌≢◌, ◌==◌, Bool, ℕ, List, Option, None, Some, if◌then◌else◌, true, false}
use Rattle.hlc_csv.specs.declared.found_record.TheConstants.{LAST_LINE}
use Rattle.hlc_csv.specs.declared.records_fault.RecordsFault.{RecordsFault}
use Rattle.hlc_csv.specs.declared.records_fault.RecordsFault.TheVariants as records
use Rattle.hlc_command_line.specs.declared.line_order.WatchOptions.{WatchOptions}
use Rattle.hlc_command_line.specs.declared.command_fault.CommandFault.{CommandFault}
use Rattle.hlc_command_line.specs.declared.command_fault.CommandFault.TheVariants as stop
use Rattle.hlc_command_line.specs.declared.no_events.NoEvents.{NoEvents}
use Rattle.hlc_command_line.specs.declared.no_events.NoEvents.TheVariants.{Log}
use Rattle.hlc_watched_log.specs.Watching.{IsWatched}
use Rattle.hlc_watched_log.specs.declared.outcome.WatchOutcome.{WatchOutcome}
use Rattle.hlc_watched_log.specs.declared.outcome.WatchOutcome.TheVariants as outcome
use Rattle.hlc_watched_log.specs.declared.watch_rules.WatchRules.{WatchRules}

-- the rules that the options of a command line give
abbrev pub rules_of : WatchOptions → WatchRules
rules_of options = record { records = options.records; limit = options.limit; keep = options.keep; every = options.every; some_kept = options.some_kept }

-- the log was watched by these options, with this outcome
abbrev pub IsWatchedBy : WatchOptions → (input before after : Option (List ℕ)) → WatchOutcome → Type 0
IsWatchedBy options input before after found = IsWatched (rules_of options) input before after found

-- the options let an outcome pass: no claim is over the limit, and if they are strict, the log isn't broken, and has events
abbrev pub LetPass : WatchOptions → WatchOutcome → Type 0
LetPass options (outcome.Ended events broken over_limit) =
    (over_limit ≡ false) × (options.strict ≡ true → (broken ≡ false) × (events ≢ 0))
LetPass options outcome.BadLog = ⊥

-- the log was watched, and the options let the outcome pass
abbrev pub IsWatchPassed : WatchOptions → (input before after : Option (List ℕ)) → Type 0
IsWatchPassed options input before after = (found : WatchOutcome) × LetPass options found × IsWatchedBy options input before after found

-- the note on a log of so many events: it is there if there are none
abbrev pub log_note : (events : ℕ) → Option NoEvents
log_note events = if events == 0 then Some Log else None

-- the input is a log, and this is the note on its events
abbrev pub IsWatchNote : WatchOptions → (input : Option (List ℕ)) → Option NoEvents → Type 0
IsWatchNote options input note =
    (before after : Option (List ℕ)) × (events : ℕ) × (broken over_limit : Bool)
    × IsWatchedBy options input before after (outcome.Ended events broken over_limit) × (note ≡ log_note events)

-- the fault of a watch, as a command's: a log that is too long has more records than lines are counted
abbrev pub watch_stop : RecordsFault → CommandFault
watch_stop records.TooLong = stop.LogTooLong LAST_LINE
watch_stop fault = stop.Records fault

-- the log was watched but for this fault, of which the answer tells: a record is bad; or the log has no event or is broken, which strict options don't
-- let pass; or a claim is over the limit
abbrev pub IsWatchedBut : CommandFault → WatchOptions → (input before after : Option (List ℕ)) → Type 0
IsWatchedBut stop.BadLog options input before after = IsWatchedBy options input before after outcome.BadLog
IsWatchedBut stop.EmptyLog options input before after =
    (options.strict ≡ true) × ((broken : Bool) × IsWatchedBy options input before after (outcome.Ended 0 broken false))
IsWatchedBut stop.BrokenStamps options input before after =
    (options.strict ≡ true) × ((events : ℕ) × (over_limit : Bool) × IsWatchedBy options input before after (outcome.Ended events true over_limit))
IsWatchedBut stop.OverLimit options input before after =
    (events : ℕ) × (broken : Bool) × (options.strict ≡ true → broken ≡ false) × IsWatchedBy options input before after (outcome.Ended events broken true)
IsWatchedBut _ options input before after = ⊥
