-- The text of a log is read back as its rows.
use Rattle.std.proofs.Common.{ℕ, List, ◌++◌, Some, length, refl}
use Rattle.csv.specs.Reading.{strip_bom}
use Rattle.hlc_arena.specs.History.{Delivered, Erased, EventKind, Sent, StampedEvent, Synced, Written, stamped_at}
use Rattle.hlc_causality.specs.Places.{places_below}
use Rattle.hlc_csv.specs.Rows.{text_of_row}
use Rattle.hlc_csv.proofs.RowsReadBack.{HasNoMark, rows_read_back}
use Rattle.hlc_history_log.specs.Laws.{LogsReadBack}
use Rattle.hlc_history_log.specs.LogRows.{log_row, row_with}

-- a log begins with a letter, and so with no byte order mark
no_mark-row : (e : ℕ) (x : StampedEvent) (k : EventKind) (label tail : List ℕ)
    → let y : StampedEvent = record { event = record { node = x.event.node; reading = x.event.reading; kind = k }; stamp = x.stamp } in
    HasNoMark (text_of_row (row_with e y (Some label)) ++ tail)
unfolding text_of_row strip_bom
no_mark-row e x (Written key value) label tail = refl
no_mark-row e x (Erased key) label tail = refl
no_mark-row e x (Sent to write) label tail = refl
no_mark-row e x (Synced to writes) label tail = refl
no_mark-row e x (Delivered sent) label tail = refl

pub logs_read_back : LogsReadBack
logs_read_back events =
    rows_read_back (log_row events) (λ e. tt) (λ e tail. no_mark-row e (stamped_at events e) (stamped_at events e).event.kind _ tail)
    (places_below (length events))
