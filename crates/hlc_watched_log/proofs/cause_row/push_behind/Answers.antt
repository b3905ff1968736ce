use Rattle.std.proofs.Common.{◌≡◌, ◌∙◌, [], ◌∷◌, Bool, List, ap, codes, subst, sym}
use Rattle.std.specs.Prelude.{OnOk}
use Rattle.std.proofs.lemmas.Result.{on_ok_weaker}
use Rattle.hlc_csv.specs.Rows.{AddsRows, Fields, row_field_bytes}
use Rattle.hlc_watched_log.specs.CauseRows.{behind_row, row_if}
use Rattle.hlc_log_text.proofs.RowsAdded.{adds_one}
use Rattle.hlc_watched_log.proofs.cause_row.push_behind.Goals as goal

pub returns-then-behind : goal.returns-then-behind
returns-then-behind g c =
    let row = behind_row c.args.names.now c.args.records.now in
    let here : Fields = codes "cause" ∷ row_field_bytes c.field.result ∷ c.node.result.now ∷ codes "behind" ∷ [] in
    let is : here ≡ row = λ i. codes "cause" ∷ (c.field.ensures ∙ c.in_ok-line.ensures) i ∷ c.node.ensures i ∷ codes "behind" ∷ [] in
    let all : here ∷ [] ≡ row_if c.args.behind row = ap (λ (r : Fields). r ∷ []) is ∙ ap (λ (b : Bool). row_if b row) (sym c.if-behind.true) in
    subst (λ (rows : List Fields). OnOk c.push.result (AddsRows g.W.Write.contents c.args.writer.now c.push.new.writer c.args.rows.now c.push.new.self rows)) all
    (on_ok_weaker c.push.result (λ adds. adds_one _ _ _ _ here adds) c.push.ensures.added)
