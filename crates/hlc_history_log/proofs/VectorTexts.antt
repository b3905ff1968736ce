-- The lines of an event, as they are added.
use Rattle.std.proofs.Common.{◌≡◌, ◌∙◌, ℕ, List, ◌++◌, Option, ap, append_assoc, decimal}
use Rattle.hlc_arena.specs.History.{StampedEvent, causality_of, event_at, stamped_at}
use Rattle.hlc_csv.specs.Rows.{Fields, text_of_row}
use Rattle.hlc_explain.specs.Vectors.{vector_of}
use Rattle.hlc_history_log.specs.Label.{label_of}
use Rattle.hlc_history_log.specs.LogRows.{row_with}
use Rattle.hlc_history_log.specs.VectorText.{event_text}
use Rattle.hlc_explain.specs.Plain.{if_plain}
use Rattle.hlc_explain.specs.VectorLine.{vector_line}

pub event_is_put : (nodes : ℕ) (events : List StampedEvent) (e : ℕ) (x : StampedEvent) (vector : List ℕ) (label : Option (List ℕ))
    (base mid new : List ℕ) → x ≡ stamped_at events e → vector ≡ vector_of (causality_of events) nodes e → label ≡ if_plain (label_of events (event_at events e).kind)
    → mid ≡ base ++ vector_line decimal x.event.node vector → new ≡ mid ++ text_of_row (row_with e x label)
    → new ≡ base ++ event_text nodes events e
event_is_put nodes events e x vector label base mid new is_event is_vector is_label line grows =
    let here = stamped_at events e in
    let first =
    ap (λ (y : StampedEvent). vector_line decimal y.event.node vector) is_event ∙ ap (vector_line decimal here.event.node) is_vector in
    let second : row_with e x label ≡ row_with e here (if_plain (label_of events here.event.kind)) =
    ap (λ (y : StampedEvent). row_with e y label) is_event ∙ ap (row_with e here) is_label in
    let row = text_of_row (row_with e here (if_plain (label_of events here.event.kind))) in
    grows ∙ ap (λ (fields : Fields). mid ++ text_of_row fields) second ∙ ap (λ (t : List ℕ). t ++ row) (line ∙ ap (λ (t : List ℕ). base ++ t) first)
    ∙ append_assoc base _ _
