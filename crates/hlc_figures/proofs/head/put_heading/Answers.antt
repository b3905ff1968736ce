use Rattle.std.proofs.Common.{◌∙◌, ◌++◌, ℕ, ap, codes, string_bytes}
use Rattle.std.proofs.lemmas.Result.{err_from_is_err_and, on_ok_weaker}
use Rattle.hlc_figures.specs.Columns.{column_x}
use Rattle.hlc_figures.specs.Head.{heading_begins, heading_text}
use Rattle.hlc_svg.specs.declared.frame.TheConstants.{HEADING_Y}
use Rattle.hlc_svg.proofs.Added.{then_added}
use Rattle.hlc_figures.proofs.head.put_heading.Goals as goal

pub returns : goal.returns
unfolding heading_text
returns g c =
    let of = g.S.Subject.content c.args.subject.now in
    let begins = heading_begins (column_x of c.args.scene.now.frame c.args.column) HEADING_Y in
    let heading = of.heading c.args.column in
    let old = string_bytes c.args.text.now in
    let one = string_bytes c.put_begin.new.text in
    let two = string_bytes c.put_heading.new.text in
    let new = string_bytes c.put.new.text in
    let begun = c.in_ok-put_begin.ensures ∙ ap (λ (x : ℕ). old ++ heading_begins x HEADING_Y) c.column_x-x.ensures in
    on_ok_weaker c.put.result (λ e.
    then_added old one new begins (heading ++ codes "</text>") begun
    (then_added one two new heading (codes "</text>") c.in_ok-put_heading.ensures e)) c.put.ensures

pub returns-in_err-put_begin : goal.returns-in_err-put_begin
returns-in_err-put_begin g c = rw (err_from_is_err_and c.from_residual.result c.from_residual.ensures.1).1 tt

pub returns-in_err-put_heading : goal.returns-in_err-put_heading
returns-in_err-put_heading g c = rw (err_from_is_err_and c.from_residual-in_err-put_heading.result c.from_residual-in_err-put_heading.ensures.1).1 tt
