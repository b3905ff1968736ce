-- A log that was read.
use Rattle.std.specs.Prelude.{ℕ, ◌*◌, ◌<◌, ◌≤◌, All, AllPairs, List, length}
use Rattle.hlc_stamp.specs.declared.limits.TheConstants.{MAX_CAPACITY}
use Rattle.hlc_log.specs.Events.{IsInRange, IsNumbered}
use Rattle.hlc_log.specs.Log.{StoredLog}
use Rattle.hlc_log.specs.declared.log_event.LogEvent.{LogEvent}
use Rattle.hlc_log.specs.declared.log_event.TheConstants.{MAX_LOG_NODES}
use Rattle.hlc_log_text.specs.LogDetails.{ToldDetails}

-- the events of a log, the names of its messages, below how much the numbers of messages are, and what else the log tells
pub record ReadText : Type 0 where
  pub log : StoredLog
  pub message_names : List (List ℕ)
  pub messages : ℕ
  pub details : ToldDetails

-- the record of each event begins on a later line than those before it
abbrev pub LinesRise : List LogEvent → Type 0
LinesRise events = AllPairs (λ d e. d.line < e.line) events

-- each event is of a node that has a name
abbrev pub HaveNames : List LogEvent → (nodes : List (List ℕ)) → Type 0
HaveNames events nodes = All (λ event. event.node.0 < length nodes) events

-- what is so of each log that was read
pub record IsSoundText (text : ReadText) : Type 0 where
  pub numbered : All (IsNumbered text.messages) text.log.events
  pub in_range : All IsInRange text.log.events
  pub messages : text.messages ≤ 2 * MAX_CAPACITY
  pub rise : LinesRise text.log.events
  pub few : length text.details.nodes ≤ MAX_LOG_NODES
  pub named : HaveNames text.log.events text.details.nodes
