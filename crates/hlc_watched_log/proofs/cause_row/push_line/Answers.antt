use Rattle.std.proofs.Common.{◌≡◌, ◌∙◌, [], ◌∷◌, List, Option, ap, codes, subst, sym}
use Rattle.std.specs.Prelude.{OnOk}
use Rattle.std.proofs.lemmas.Result.{on_ok_weaker}
use Rattle.hlc_csv.specs.Rows.{AddsRows, Fields}
use Rattle.hlc_watch.specs.declared.file_line.FileLine.{FileLine}
use Rattle.hlc_watched_log.specs.CauseRows.{line_row, row_of}
use Rattle.hlc_log_text.proofs.RowsAdded.{adds_one}
use Rattle.hlc_watched_log.proofs.cause_row.push_line.Goals as goal

pub returns : goal.returns
returns g c =
    let row = line_row c.args.names.now c.args.records.now c.args.rule.now in
    let here : Fields = codes "cause" ∷ c.in_ok-line.line ∷ c.node.result.now ∷ c.args.rule.now ∷ c.in_ok-claim.claim ∷ [] in
    let is : here ≡ row c.in-Some.claim =
    λ i. codes "cause" ∷ c.in_ok-line.ensures i ∷ c.node.ensures i ∷ c.args.rule.now ∷ c.in_ok-claim.ensures i ∷ [] in
    let all : here ∷ [] ≡ row_of row c.args.claimed = ap (λ (r : Fields). r ∷ []) is ∙ ap (λ (o : Option FileLine). row_of row o) (sym c.in-Some.is) in
    subst (λ (rows : List Fields). OnOk c.push_line_row.result (AddsRows g.W.Write.contents c.args.writer.now c.push_line_row.new.writer c.args.rows.now c.push_line_row.new.rows rows)) all
    (on_ok_weaker c.push_line_row.result (λ adds. adds_one _ _ _ _ here adds) c.push_line_row.ensures)
