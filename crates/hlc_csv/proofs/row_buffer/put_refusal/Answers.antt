use Rattle.std.proofs.Common.{◌∙◌, ◌∷◌, [], refl}
use Rattle.std.proofs.lemmas.Result.{err_from_is_err_and, on_ok_weaker}
use Rattle.hlc_csv.proofs.RowTextFacts.{on_ok-added, text_of_row-refusal}
use Rattle.hlc_csv.proofs.row_buffer.put_refusal.Goals as goal

pub returns : goal.returns
returns c =
    let word = rw c.in_ok-extend_from_slice.ensures.items at c.in_ok-put_text.ensures in
    let last = c.extend_from_slice-2 in
    let row = on_ok-added last.result _ last.new.self.items _ (10 ∷ []) (rw word at last.ensures.items) refl in
    on_ok_weaker last.result (λ items. items ∙ text_of_row-refusal c.args.text.now.items c.args.word.now) row

pub returns-in_err-extend_from_slice : goal.returns-in_err-extend_from_slice
returns-in_err-extend_from_slice c = rw (err_from_is_err_and c.from_residual.result c.from_residual.ensures.1).1 tt

pub returns-in_err-put_text : goal.returns-in_err-put_text
returns-in_err-put_text c = rw (err_from_is_err_and c.from_residual-in_err-put_text.result c.from_residual-in_err-put_text.ensures.1).1 tt
