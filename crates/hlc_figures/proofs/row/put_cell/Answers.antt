use Rattle.std.proofs.Common.{◌∙◌, ◌++◌, ℕ, ap, codes, string_bytes}
use Rattle.std.proofs.lemmas.Result.{err_from_is_err_and, on_ok_weaker}
use Rattle.hlc_figures.specs.Columns.{column_x}
use Rattle.hlc_figures.specs.Row.{begin_text, cell_text}
use Rattle.hlc_svg.proofs.Added.{then_added}
use Rattle.hlc_figures.proofs.row.put_cell.Goals as goal

pub returns : goal.returns
unfolding cell_text
returns g c =
    let of = g.S.Subject.content c.args.subject.now in
    let frame = c.args.scene.now.frame in
    let begins = begin_text (column_x of frame c.args.column) c.args.y in
    let cell = of.cell c.args.event.0 c.args.column in
    let old = string_bytes c.args.text.now in
    let one = string_bytes c.put_begin.new.text in
    let two = string_bytes c.put_cell.new.text in
    let new = string_bytes c.put.new.text in
    let begun = c.in_ok-put_begin.ensures ∙ ap (λ (x : ℕ). old ++ begin_text x c.args.y) c.column_x-x.ensures in
    on_ok_weaker c.put.result (λ e.
    then_added old one new begins (cell ++ codes "</text>") begun
    (then_added one two new cell (codes "</text>") c.in_ok-put_cell.ensures e)) c.put.ensures

pub returns-in_err-put_begin : goal.returns-in_err-put_begin
returns-in_err-put_begin g c = rw (err_from_is_err_and c.from_residual.result c.from_residual.ensures.1).1 tt

pub returns-in_err-put_cell : goal.returns-in_err-put_cell
returns-in_err-put_cell g c = rw (err_from_is_err_and c.from_residual-in_err-put_cell.result c.from_residual-in_err-put_cell.ensures.1).1 tt
