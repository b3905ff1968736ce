-- A history as a script.
use Rattle.std.specs.Prelude.{ℕ, List, map}
use Rattle.hlc_arena.specs.History.{StampedEvent, stamped_at}
use Rattle.hlc_core.specs.Replay.{request_for}
use Rattle.hlc_csv.specs.Rows.{Fields, text_of}
use Rattle.hlc_text.specs.RequestRow.{request_row}

-- the record that asks for an event again
abbrev pub export_row : List StampedEvent → StampedEvent → Fields
export_row events x = request_row x.event.node x.event.reading (request_for events x.event.kind)

-- the record that asks for the event at a place again
abbrev pub export_row_at : List StampedEvent → ℕ → Fields
export_row_at events place = export_row events (stamped_at events place)

-- the records of all events, in order of acceptance
abbrev pub export_text : List StampedEvent → List ℕ
export_text events = text_of (map (export_row events) events)
