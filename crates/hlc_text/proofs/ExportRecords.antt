-- An exported text is read back as the exported records.
use Rattle.std.proofs.Common.{ℕ, List, ◌++◌, refl}
use Rattle.csv.specs.Reading.{strip_bom}
use Rattle.hlc_arena.specs.History.{Delivered, Erased, EventKind, Sent, StampedEvent, Synced, Written}
use Rattle.hlc_csv.specs.Rows.{text_of_row}
use Rattle.hlc_csv.proofs.RowsReadBack.{HasNoMark, rows_read_back}
use Rattle.hlc_text.specs.Export.{export_row}
use Rattle.hlc_text.specs.Replay.{ExportsReadBack}

-- an exported text begins with a letter, and so with no byte order mark
no_mark-row : (events : List StampedEvent) (x : StampedEvent) (k : EventKind) (tail : List ℕ)
    → let y : StampedEvent = record { event = record { node = x.event.node; reading = x.event.reading; kind = k }; stamp = x.stamp } in
    HasNoMark (text_of_row (export_row events y) ++ tail)
unfolding text_of_row strip_bom
no_mark-row events x (Written key value) tail = refl
no_mark-row events x (Erased key) tail = refl
no_mark-row events x (Sent to write) tail = refl
no_mark-row events x (Synced to writes) tail = refl
no_mark-row events x (Delivered sent) tail = refl

pub exports_read_back : ExportsReadBack
exports_read_back events = rows_read_back (export_row events) (λ x. tt) (λ x tail. no_mark-row events x x.event.kind tail) events
