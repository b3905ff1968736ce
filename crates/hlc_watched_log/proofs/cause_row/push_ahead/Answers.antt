use Rattle.std.proofs.Common.{◌≡◌, ◌∙◌, [], ◌∷◌, List, Option, ap, codes, decimal, subst, sym}
use Rattle.std.specs.Prelude.{OnOk}
use Rattle.std.proofs.lemmas.Result.{on_ok_weaker}
use Rattle.hlc_csv.specs.Rows.{AddsRows, Fields}
use Rattle.hlc_stamp.specs.Order.{Pair}
use Rattle.hlc_watched_log.specs.CauseRows.{ahead_row, row_of}
use Rattle.hlc_log_text.proofs.RowsAdded.{adds_one}
use Rattle.hlc_watched_log.proofs.cause_row.push_ahead.Goals as goal

pub returns : goal.returns
returns g c =
    let row = ahead_row c.args.names.now c.args.records.now in
    let least = c.in-Some.least in
    let here : Fields = codes "cause" ∷ c.in_ok-line.line ∷ c.node.result.now ∷ codes "ahead" ∷ decimal least.l ∷ decimal least.c ∷ [] in
    let is : here ≡ row least =
    λ i. codes "cause" ∷ c.in_ok-line.ensures i ∷ c.node.ensures i ∷ codes "ahead" ∷ decimal least.l ∷ decimal least.c ∷ [] in
    let all : here ∷ [] ≡ row_of row c.args.least = ap (λ (r : Fields). r ∷ []) is ∙ ap (λ (o : Option Pair). row_of row o) (sym c.in-Some.is) in
    subst (λ (rows : List Fields). OnOk c.push_ahead_row.result (AddsRows g.W.Write.contents c.args.writer.now c.push_ahead_row.new.writer c.args.rows.now c.push_ahead_row.new.rows rows)) all
    (on_ok_weaker c.push_ahead_row.result (λ adds. adds_one _ _ _ _ here adds) c.push_ahead_row.ensures)
