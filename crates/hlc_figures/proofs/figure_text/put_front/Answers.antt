use Rattle.std.proofs.Common.{◌≡◌, ◌∙◌, ◌++◌, ℕ, Option, ap, string_bytes}
use Rattle.std.proofs.lemmas.Result.{err_from_is_err_and, on_ok_weaker}
use Rattle.hlc_figures.specs.Figure.{dot_of, entering_of, leaving_of}
use Rattle.hlc_figures.specs.FigureText.{front_text}
use Rattle.hlc_figures.specs.Row.{row_at, row_text}
use Rattle.hlc_svg.specs.Frame.{y_of}
use Rattle.hlc_svg.specs.Shapes.{dot_text, numbers_text}
use Rattle.hlc_figures.specs.Title.{title_text}
use Rattle.hlc_svg.specs.declared.dot.Dot.{Dot}
use Rattle.hlc_svg.specs.declared.shapes.End.{End}
use Rattle.hlc_svg.proofs.Added.{then_added}
use Rattle.hlc_figures.proofs.figure_text.put_front.Goals as goal

pub returns : goal.returns
unfolding front_text
returns g c =
    let s = c.args.scene.now in
    let of = g.S.Subject.content c.args.subject.now in
    let e = c.args.event.0 in
    let dot = dot_text (dot_of of s.explained s.frame s.lanes.now e) (title_text of e) in
    let row = row_text (row_at of s.frame (y_of s.frame e) e) in
    let entering = entering_of of s.explained s.frame s.lanes.now e in
    let leaving = leaving_of of s.explained s.frame s.lanes.now e in
    let old = string_bytes c.args.text.now in
    let one = string_bytes c.put_numbers.new.text in
    let two = string_bytes c.put_dot.new.text in
    let new = string_bytes c.put_row.new.text in
    let are_numbers : one ≡ old ++ numbers_text entering leaving =
    c.in_ok-put_numbers.ensures ∙ ap (λ (o : Option End). old ++ numbers_text o c.leaving-leaving.result) c.entering-entering.ensures
    ∙ ap (λ (o : Option End). old ++ numbers_text entering o) c.leaving-leaving.ensures in
    let is_dot : two ≡ one ++ dot = c.in_ok-put_dot.ensures ∙ ap (λ (d : Dot). one ++ dot_text d (title_text of d.event.0)) c.dot.ensures in
    let at = ap (λ (y : ℕ). two ++ row_text (row_at of s.frame y e)) c.y.ensures in
    on_ok_weaker c.put_row.result (λ is.
    then_added old one new (numbers_text entering leaving) (dot ++ row) are_numbers (then_added one two new dot row is_dot (is ∙ at))) c.put_row.ensures

pub returns-in_err-put_numbers : goal.returns-in_err-put_numbers
returns-in_err-put_numbers g c = rw (err_from_is_err_and c.from_residual.result c.from_residual.ensures.1).1 tt

pub returns-in_err-put_dot : goal.returns-in_err-put_dot
returns-in_err-put_dot g c = rw (err_from_is_err_and c.from_residual-in_err-put_dot.result c.from_residual-in_err-put_dot.ensures.1).1 tt
