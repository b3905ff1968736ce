-- A history is exported, one event after the other.
use Rattle.std.proofs.Common.{◌≡◌, ◌∙◌, ℕ, ◌+◌, ◌<◌, ◌≤◌, List, [], ◌∷◌, ◌++◌, Option, length, map, ap, take}
use Rattle.std.proofs.lemmas.List.{map-append, take_all, take_more}
use Rattle.std.specs.Io.KnownBytes.{Appends, append_known}
use Rattle.hlc_arena.specs.History.{Erased, StampedEvent, stamped_at}
use Rattle.hlc_stamp.specs.Order.{zero_pair}
use Rattle.hlc_csv.specs.Rows.{AddsText, text_of, text_of_row}
use Rattle.hlc_text.specs.Export.{export_row, export_text}
use Rattle.hlc_csv.proofs.RowFacts.{adds_text-more, appends-handed_out, appends-none, text_of-append, text_of-one}

-- the records of the first n events
abbrev pub first_text : List StampedEvent → ℕ → List ℕ
first_text events n = text_of (map (export_row events) (take n events))

-- these were exported, whether the writer got the rows or they wait
abbrev pub HasExported : List StampedEvent → ℕ → (before now : Option (List ℕ)) → List ℕ → Type 0
HasExported events n before now rows = Appends before (append_known now rows) (first_text events n)

pub has_exported-none : (events : List StampedEvent) (before : Option (List ℕ)) → HasExported events 0 before before []
has_exported-none events before = appends-none before

-- what stamped_at answers beyond the end
abbrev no_event : StampedEvent
no_event = record { event = record { node = 0; reading = 0; kind = Erased [] }; stamp = zero_pair }

one_more : (events : List StampedEvent) (n : ℕ) → n < length events
    → first_text events (n + 1) ≡ first_text events n ++ text_of_row (export_row events (stamped_at events n))
one_more events n lt =
    let x = stamped_at events n in
    let rows : map (export_row events) (take (n + 1) events) ≡ map (export_row events) (take n events) ++ export_row events x ∷ []
    = ap (map (export_row events)) (take_more events n no_event lt) ∙ map-append (export_row events) (take n events) (x ∷ []) in
    ap text_of rows ∙ text_of-append _ _ ∙ ap (λ (t : List ℕ). first_text events n ++ t) (text_of-one (export_row events x))

pub has_exported-more : (events : List StampedEvent) (n : ℕ) (before now then : Option (List ℕ)) (old new : List ℕ) → n < length events
    → HasExported events n before now old → AddsText now then old new (text_of_row (export_row events (stamped_at events n)))
    → HasExported events (n + 1) before then new
has_exported-more events n before now then old new lt h more =
    rw (one_more events n lt) (adds_text-more before now then old new (first_text events n) _ h more)

pub has_exported-all : (events : List StampedEvent) (n : ℕ) (before now after : Option (List ℕ)) (rows : List ℕ) → length events ≤ n
    → HasExported events n before now rows → Appends now after rows → Appends before after (export_text events)
has_exported-all events n before now after rows full h sent =
    let all : first_text events n ≡ export_text events =
    ap (λ (xs : List StampedEvent). text_of (map (export_row events) xs)) (take_all n events full) in
    rw (← all) (appends-handed_out before now after rows (first_text events n) h sent)
