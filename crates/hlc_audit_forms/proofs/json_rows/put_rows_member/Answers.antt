use Rattle.std.proofs.Common.{◌∙◌, ◌++◌, ◌∷◌, [], List, ℕ, ap, filter, map, refl}
use Rattle.std.specs.List.{join_with_byte}
use Rattle.std.proofs.lemmas.Result.{on_ok_weaker}
use Rattle.csv.specs.Records.{fields_of}
use Rattle.hlc_csv.proofs.RowTextFacts.{on_ok-added}
use Rattle.hlc_audit_forms.specs.JsonRows.{is_row_of, row_object, rows_member}
use Rattle.hlc_audit_forms.specs.JsonText.{json_string}
use Rattle.hlc_audit_forms.proofs.CommaLists.{member-closed}
use Rattle.hlc_audit_forms.proofs.json_rows.put_rows_member.Goals as goal

pub returns : goal.returns
unfolding rows_member
returns c =
    let old = c.args.text.now.items in
    let name = c.name.result.now in
    let rows = join_with_byte 44 (map row_object (filter (is_row_of c.args.member) (map fields_of c.args.rows.now))) in
    let opened = c.in_ok-extend_from_slice.ensures.items ∙ ap (λ (t : List ℕ). t ++ 91 ∷ []) c.in_ok-put_name.ensures in
    let closed = c.extend_from_slice-2 in
    on_ok_weaker closed.result
    (λ items. items ∙ ap (λ (t : List ℕ). t ++ 93 ∷ []) (c.in_ok-put_rows.ensures ∙ ap (λ (t : List ℕ). t ++ rows) opened)
    ∙ member-closed old (json_string name) rows ∙ ap (λ (n : List ℕ). old ++ (json_string n ++ 58 ∷ (91 ∷ (rows ++ 93 ∷ [])))) c.name.ensures)
    (on_ok-added closed.result _ closed.new.self.items _ (93 ∷ []) closed.ensures.items refl)
