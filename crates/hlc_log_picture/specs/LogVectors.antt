-- The text of a log with the vector of each event, as tools that draw logs read it.
use Rattle.std.specs.Prelude.{ℕ, List, ◌++◌, Option, flat_map, length}
use Rattle.std.specs.Option.{option_and_then}
use Rattle.hlc_causality.specs.Places.{places_below}
use Rattle.hlc_explain.specs.Plain.{if_plain}
use Rattle.hlc_csv.specs.Rows.{text_of_row}
use Rattle.hlc_explain.specs.VectorLine.{vector_line}
use Rattle.hlc_explain.specs.Vectors.{vector_of}
use Rattle.hlc_log.specs.CausalOrder.{place_at}
use Rattle.hlc_log.specs.declared.log_event.LogEvent.{LogEvent}
use Rattle.hlc_ordered_log.specs.InOrder.{event_in_order, skeleton_of}
use Rattle.hlc_log_text.specs.Labels.{label_at}
use Rattle.hlc_log_picture.specs.EventRow.{event_row}
use Rattle.hlc_log_picture.specs.NodeText.{node_text}
use Rattle.hlc_open_log.specs.Opened.{OpenedLog}

-- the label of the event at a place, if it has one and that is plain
abbrev pub plain_label : List (ℕ × List ℕ) → (place : ℕ) → Option (List ℕ)
plain_label labels place = option_and_then if_plain (label_at labels place)

-- the event at a position in the order
abbrev pub event_of : OpenedLog → ℕ → LogEvent
event_of opened k = event_in_order opened.log.events opened.log.order k

-- its two lines: its node with its vector, and its row
abbrev pub event_text : OpenedLog → ℕ → List ℕ
event_text opened k =
    vector_line (node_text opened.nodes) (event_of opened k).node.0 (vector_of (skeleton_of opened.log) opened.log.nodes k)
    ++ text_of_row (event_row opened.files (node_text opened.nodes (event_of opened k).node.0) (event_of opened k)
    (plain_label opened.labels (place_at opened.log.order k)))

-- the lines of all events, in the causal order that the log is in
abbrev pub log_vector_text : OpenedLog → List ℕ
log_vector_text opened = flat_map (event_text opened) (places_below (length opened.log.events))
