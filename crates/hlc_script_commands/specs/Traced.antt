-- What was traced.
use Rattle.std.specs.Prelude.{ℕ, Bool, List, Option, if◌then◌else◌}
use Rattle.std.specs.Io.KnownBytes.{Appends}
use Rattle.hlc_stamp.specs.declared.settings.Settings.{Settings}
use Rattle.hlc_arena.specs.History.{History, StampedEvent}
use Rattle.hlc_history_log.specs.LogRows.{log_text}
use Rattle.hlc_history_log.specs.VectorText.{vector_text}
use Rattle.hlc_script_commands.specs.Drawn.{LeavesHistory}

-- the text of a history: its log, or that with vectors
abbrev pub trace_text : (vector : Bool) → (nodes : ℕ) → List StampedEvent → List ℕ
trace_text vector nodes events = if vector then vector_text nodes events else log_text events

-- the input is a script, and the output got the text of the history that it leaves
pub record IsScriptTraced (settings : Settings) (vector : Bool) (input before after : Option (List ℕ)) : Type 0 where
  pub history : History
  pub script : LeavesHistory settings input history
  pub text : Appends before after (trace_text vector history.nodes history.events)
