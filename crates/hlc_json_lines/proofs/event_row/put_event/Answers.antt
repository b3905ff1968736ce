use Rattle.std.proofs.Common.{◌∙◌, ◌++◌, ◌∷◌, [], ℕ, List, ap, refl}
use Rattle.std.proofs.lemmas.Result.{on_ok_weaker}
use Rattle.csv.specs.Writing.{fields_text}
use Rattle.serde_json.specs.View.{view}
use Rattle.hlc_csv.specs.Rows.{row_setup}
use Rattle.hlc_csv.proofs.RowTextFacts.{on_ok-added}
use Rattle.hlc_json_lines.specs.EventRow.{column_fields, event_columns}
use Rattle.hlc_json_lines.proofs.RowFacts.{event-row}
use Rattle.hlc_json_lines.proofs.event_row.put_event.Goals as goal

pub returns : goal.returns
returns c =
    let event = c.args.event in
    let fields = fields_text row_setup (column_fields event.rules.now event.word (view event.value.now) event_columns) in
    let word = rw c.text.ensures at c.in_ok-extend_from_slice.ensures.items in
    let grown = c.in_ok-put_columns.ensures ∙ ap (λ (t : List ℕ). t ++ fields) word in
    let last = c.extend_from_slice-2 in
    let closed = on_ok-added last.result _ last.new.self.items _ (10 ∷ []) last.ensures.items refl in
    on_ok_weaker last.result
    (λ items. items ∙ ap (λ (t : List ℕ). t ++ 10 ∷ []) grown ∙ event-row c.args.row.now.items event.rules.now (view event.value.now) event.word) closed
