use Rattle.std.proofs.Common.{◌∙◌, ◌++◌, ◌∷◌, [], List, ℕ, ap, map, refl}
use Rattle.std.proofs.lemmas.Result.{on_ok_weaker}
use Rattle.csv.specs.Records.{fields_of}
use Rattle.hlc_csv.proofs.RowTextFacts.{on_ok-added}
use Rattle.hlc_audit_forms.specs.JsonRows.{members_text}
use Rattle.hlc_audit_forms.proofs.CommaLists.{all-closed}
use Rattle.hlc_audit_forms.proofs.json_rows.put_json.Goals as goal

pub returns : goal.returns
returns c =
    let old = c.args.text.now.items in
    let members = members_text (map fields_of c.args.rows.now) in
    let closed = c.extend_from_slice-2 in
    on_ok_weaker closed.result
    (λ items. items ∙ ap (λ (t : List ℕ). t ++ 125 ∷ 10 ∷ []) (c.in_ok-put_members.ensures ∙ ap (λ (t : List ℕ). t ++ members) c.in_ok-extend_from_slice.ensures.items)
    ∙ all-closed old members)
    (on_ok-added closed.result _ closed.new.self.items _ (125 ∷ 10 ∷ []) closed.ensures.items refl)
