-- The lines of an event, as they are added.
use Rattle.std.proofs.Common.{◌≡◌, ◌∙◌, ℕ, List, ◌++◌, Option, ap, append_assoc}
use Rattle.hlc_csv.specs.Rows.{Fields, text_of_row}
use Rattle.hlc_explain.specs.Vectors.{vector_of}
use Rattle.hlc_log.specs.CausalOrder.{place_at}
use Rattle.hlc_log.specs.declared.log_event.LogEvent.{LogEvent}
use Rattle.hlc_ordered_log.specs.InOrder.{skeleton_of}
use Rattle.hlc_log_picture.specs.EventRow.{event_row}
use Rattle.hlc_log_picture.specs.LogVectors.{event_of, event_text, plain_label}
use Rattle.hlc_log_picture.specs.NodeText.{node_text}
use Rattle.hlc_log_text.specs.declared.file_mark.FileMark.{FileMark}
use Rattle.hlc_open_log.specs.Opened.{OpenedLog}
use Rattle.hlc_explain.specs.VectorLine.{vector_line}

module _ (opened : OpenedLog) (k : ℕ) where
  abbrev here : LogEvent
  here = event_of opened k

  abbrev named : LogEvent → List ℕ
  named event = node_text opened.nodes event.node.0

  abbrev label_here : Option (List ℕ)
  label_here = plain_label opened.labels (place_at opened.log.order k)

  pub event_is_put : (files : List FileMark) (event : LogEvent) (vector node : List ℕ) (label : Option (List ℕ)) (base mid new : List ℕ)
      → files ≡ opened.files → event ≡ here → vector ≡ vector_of (skeleton_of opened.log) opened.log.nodes k → label ≡ label_here → node ≡ named event
      → mid ≡ base ++ vector_line (node_text opened.nodes) event.node.0 vector → new ≡ mid ++ text_of_row (event_row files node event label)
      → new ≡ base ++ event_text opened k
  event_is_put files event vector node label base mid new is_files is_event is_vector is_label is_node line grows =
      let first =
      ap (λ (y : LogEvent). vector_line (node_text opened.nodes) y.node.0 vector) is_event
      ∙ ap (vector_line (node_text opened.nodes) here.node.0) is_vector in
      let second : event_row files node event label ≡ event_row opened.files (named here) here label_here =
      ap (λ (t : List ℕ). event_row files t event label) is_node ∙ ap (λ (y : LogEvent). event_row files (named y) y label) is_event
      ∙ ap (event_row files (named here) here) is_label
      ∙ ap (λ (fs : List FileMark). event_row fs (named here) here label_here) is_files in
      grows ∙ ap (λ (fields : Fields). mid ++ text_of_row fields) second
      ∙ ap (λ (t : List ℕ). t ++ text_of_row (event_row opened.files (named here) here label_here)) (line ∙ ap (λ (t : List ℕ). base ++ t) first)
      ∙ append_assoc base _ _
