-- The text of a history with the vector of each event, as tools that draw logs read it.
use Rattle.std.specs.Prelude.{ℕ, List, ◌++◌, decimal, flat_map, length}
use Rattle.hlc_causality.specs.Places.{places_below}
use Rattle.hlc_arena.specs.History.{StampedEvent, causality_of, stamped_at}
use Rattle.hlc_explain.specs.Plain.{if_plain}
use Rattle.hlc_csv.specs.Rows.{Fields, text_of_row}
use Rattle.hlc_explain.specs.VectorLine.{vector_line}
use Rattle.hlc_explain.specs.Vectors.{vector_of}
use Rattle.hlc_history_log.specs.Label.{label_of}
use Rattle.hlc_history_log.specs.LogRows.{row_with}

-- the row of the event at a place, on one line: without the label, if that isn't plain
abbrev pub plain_row : List StampedEvent → ℕ → Fields
plain_row events e = row_with e (stamped_at events e) (if_plain (label_of events (stamped_at events e).event.kind))

-- the two lines of the event at a place; nodes are spelled as their numbers
abbrev pub event_text : (nodes : ℕ) → List StampedEvent → ℕ → List ℕ
event_text nodes events e =
    vector_line decimal (stamped_at events e).event.node (vector_of (causality_of events) nodes e) ++ text_of_row (plain_row events e)

-- the lines of all events, in order of acceptance
abbrev pub vector_text : (nodes : ℕ) → List StampedEvent → List ℕ
vector_text nodes events = flat_map (event_text nodes events) (places_below (length events))
