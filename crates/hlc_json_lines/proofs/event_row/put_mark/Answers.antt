use Rattle.std.proofs.Common.{◌∙◌, ◌++◌, ◌∷◌, [], ℕ, List, ap, refl}
use Rattle.std.proofs.lemmas.Result.{on_ok_weaker}
use Rattle.hlc_csv.proofs.RowTextFacts.{on_ok-added}
use Rattle.hlc_json_lines.proofs.RowFacts.{one-field}
use Rattle.hlc_json_lines.proofs.event_row.put_mark.Goals as goal

pub returns : goal.returns
returns c =
    let last = c.extend_from_slice in
    let closed = on_ok-added last.result _ last.new.self.items _ (10 ∷ []) last.ensures.items refl in
    on_ok_weaker last.result
    (λ items. items ∙ ap (λ (t : List ℕ). t ++ 10 ∷ []) c.in_ok-put_text.ensures ∙ one-field c.args.row.now.items c.args.mark.now c.requires) closed
