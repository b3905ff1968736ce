-- The row of an event of a log.
use Rattle.std.specs.Prelude.{ℕ, Bool, List, [], ◌∷◌, Option, codes, decimal, if◌then◌else◌}
use Rattle.hlc_explain.specs.Labelled.{and_label}
use Rattle.hlc_csv.specs.Rows.{Fields}
use Rattle.hlc_log.specs.declared.log_event.LogEvent.{LogEvent}
use Rattle.hlc_log.specs.declared.log_event.LogKind.{LogKind}
use Rattle.hlc_log.specs.declared.log_event.LogKind.TheVariants as kind
use Rattle.hlc_log_text.specs.Files.{line_text}
use Rattle.hlc_log_text.specs.declared.file_mark.FileMark.{FileMark}

-- the word of an event: that of its record
abbrev pub event_word : LogKind → List ℕ
event_word kind.Local = codes "local"
event_word (kind.Send m) = codes "send"
event_word (kind.Receive m) = codes "receive"
event_word kind.Restart = codes "restart"
event_word kind.Outside = codes "receive"

-- a number, or nothing if the log doesn't tell it
abbrev pub told_field : (told : Bool) → ℕ → List ℕ
told_field told number = if told then decimal number else []

-- the row of an event of a log of some files, at the node of this text, with this label or none: its word, its line, its node, its reading, and its stamp
abbrev pub event_row : List FileMark → (node : List ℕ) → LogEvent → Option (List ℕ) → Fields
event_row files node event label =
    and_label (event_word event.kind ∷ line_text files event.line ∷ node ∷ told_field event.has_reading event.reading
    ∷ told_field event.has_stamp event.stamp.l ∷ told_field event.has_stamp event.stamp.c ∷ []) label
