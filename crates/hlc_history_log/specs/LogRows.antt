-- The rows of a log that tells of a history.
use Rattle.std.specs.Prelude.{ℕ, List, [], ◌∷◌, Option, Some, None, codes, decimal, length, map}
use Rattle.hlc_causality.specs.Places.{places_below}
use Rattle.hlc_arena.specs.History.{Delivered, Erased, EventKind, Sent, StampedEvent, Synced, Written, stamped_at}
use Rattle.hlc_explain.specs.Labelled.{and_label}
use Rattle.hlc_csv.specs.Rows.{Fields, text_of}
use Rattle.hlc_history_log.specs.Label.{label_of}

-- the word of an event's row
abbrev pub row_word : EventKind → List ℕ
row_word (Written key value) = codes "local"
row_word (Erased key) = codes "local"
row_word (Sent to write) = codes "send"
row_word (Synced to writes) = codes "send"
row_word (Delivered sent) = codes "receive"

-- the message of the event at a place, by the place of its send: that is the event itself, or the send that it delivers
abbrev pub message_of : ℕ → EventKind → Option ℕ
message_of e (Written key value) = None
message_of e (Erased key) = None
message_of e (Sent to write) = Some e
message_of e (Synced to writes) = Some e
message_of e (Delivered sent) = Some sent

-- the number of a message, if there is one
abbrev pub message_numbers : Option ℕ → List ℕ
message_numbers None = []
message_numbers (Some message) = message ∷ []

-- the numbers in the row of the event at a place: its node, its reading, its stamp and its message, if it has one
abbrev pub row_numbers : ℕ → StampedEvent → List ℕ
row_numbers e x = x.event.node ∷ x.event.reading ∷ x.stamp.l ∷ x.stamp.c ∷ message_numbers (message_of e x.event.kind)

-- the row of the event at a place, with this label or none
abbrev pub row_with : ℕ → StampedEvent → Option (List ℕ) → Fields
row_with e x label = and_label (row_word x.event.kind ∷ map decimal (row_numbers e x)) label

-- the row of the event at a place
abbrev pub log_row : List StampedEvent → ℕ → Fields
log_row events e = row_with e (stamped_at events e) (Some (label_of events (stamped_at events e).event.kind))

-- the rows of all events, in order of acceptance, and their text
abbrev pub log_rows : List StampedEvent → List Fields
log_rows events = map (log_row events) (places_below (length events))

abbrev pub log_text : List StampedEvent → List ℕ
log_text events = text_of (log_rows events)
