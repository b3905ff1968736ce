use Rattle.std.proofs.Common.{◌≡◌, codes, arith}
use Rattle.std.proofs.lemmas.Result.{err_from_is_err_and, on_ok_weaker}
use Rattle.hlc_figures.specs.Row.{cell_at, cell_text}
use Rattle.hlc_figures.proofs.Cells.{cells_added, cells_ended}
use Rattle.hlc_figures.proofs.row.put_row.Goals as goal

pub loop-column-preserved : goal.loop-column-preserved
loop-column-preserved g c =
    let cell = cell_at (g.S.Subject.content c.args.subject.now) c.args.scene.now.frame c.args.y c.args.event.0 in
    cells_added (λ k. cell_text (cell k)) c.loop-column.column _ _ _ c.loop-column.invariant c.in_ok-put_cell.ensures

pub returns : goal.returns
returns g c =
    let of = g.S.Subject.content c.args.subject.now in
    let all : c.loop-column.column ≡ of.columns = omega (arith, c.columns-column-end.ensures) in
    on_ok_weaker c.put.result
    (λ e. cells_ended cell_text (cell_at of c.args.scene.now.frame c.args.y c.args.event.0) c.loop-column.column of.columns _ _ _ (codes "\n") all
    c.loop-column.invariant e)
    c.put.ensures

pub returns-in_err-put_cell : goal.returns-in_err-put_cell
returns-in_err-put_cell g c = rw (err_from_is_err_and c.from_residual.result c.from_residual.ensures.1).1 tt
