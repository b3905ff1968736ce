use Rattle.std.proofs.Common.{◌∙◌, ◌++◌, ◌∷◌, List, ℕ, [], ap, length, refl}
use Rattle.std.specs.List.{join_with_byte}
use Rattle.std.proofs.lemmas.Result.{on_ok_weaker}
use Rattle.csv.specs.Records.{fields_of}
use Rattle.hlc_csv.specs.Rows.{field_of}
use Rattle.hlc_csv.proofs.RowTextFacts.{on_ok-added}
use Rattle.hlc_audit_forms.specs.AnswerRow.{lists_lines}
use Rattle.hlc_audit_forms.specs.JsonRows.{column_members, lines_behind, lines_from, lines_member, row_columns, row_object}
use Rattle.hlc_audit_forms.proofs.CommaLists.{join-behind, object-closed}
use Rattle.hlc_audit_forms.proofs.json_rows.put_row.Goals as goal

pub returns : goal.returns
unfolding row_object
returns c =
    let old = c.args.text.now.items in
    let fields = fields_of c.args.row.now in
    let columns = row_columns fields in
    let told = join_with_byte 44 (column_members 0 columns fields) in
    let behind = lines_behind (length columns) fields in
    let opened = c.in_ok-extend_from_slice.ensures.items in
    let with_columns = rw c.row_columns-columns.ensures at c.in_ok-put_columns.ensures in
    let with_lines = rw c.row_columns-columns.ensures at c.in_ok-put_behind.ensures in
    let all = join-behind columns fields (lines_member (lines_from (length columns) fields)) (lists_lines (field_of fields 0)) in
    let closed = c.extend_from_slice-2 in
    on_ok_weaker closed.result
    (λ items. items ∙ ap (λ (t : List ℕ). t ++ 125 ∷ []) (with_lines ∙ ap (λ (t : List ℕ). t ++ behind) (with_columns ∙ ap (λ (t : List ℕ). t ++ told) opened))
    ∙ object-closed old told behind _ all)
    (on_ok-added closed.result _ closed.new.self.items _ (125 ∷ []) closed.ensures.items refl)
